-- Laws of planning: what is known of each chunk, that it reads as the entries it takes, that a plan keeps within its limit,
-- and that a first chunk is always taken where the limit is absent or at least 24.
use Prim.Native.Nat.{ℕ, zero, suc, ◌+◌, ◌*◌, ◌-◌, ◌/◌, ◌≤◌, ◌<◌, min, pred}
use mathlib.Core.Path.{◌≡◌, refl, sym, ap, ap₂, ◌∙◌}
use mathlib.Core.Logic.{◌⊎◌, inl, inr, ⊎_elim}
use mathlib.Core.List.{List, [], ◌∷◌, map}
use Rattle.std.specs.Prelude.{Option, Some, None}
use mathlib.Core.Bool.{Bool, true, false, ◌&&◌, ◌||◌, false≢true}
use native.Mathlib.Omega.{arith}
use native.Mathlib.Nat.{le_of_suc-le-suc}
use borrow.Author.Tests.{ltb-true, ltb-false, leb-true, leb-false, eqb-true, le-ltb}
use lib.Dec.{ltb, leb, eqb}
use lib.ListN.{length, take, drop, replicate, length-take, length-drop, length-replicate}
use lib.Seq.{drop-nil, take_all, take-add, take-nil}
use Rattle.twcc.specs.Words.{bytes_of, width_of}
use Rattle.octets.specs.Bounds.{Below}
use Rattle.twcc.specs.Chunks.{Chunk, Run, One, Two, chunk_word, stands_for}
use Rattle.twcc.proofs.Stands.{pad_to, length-pad_to, pack_lt, run-back, one-back, two_back}
use Rattle.twcc.proofs.Entries.{width-append}
use Rattle.octets.proofs.Logic.{by_test}
use Rattle.twcc.proofs.Written.{bytes-symbol, Takes, symbols_in}
use Rattle.twcc_plan.specs.Front.{front}
use Rattle.twcc_plan.proofs.Fronts.{front_le}
use Rattle.twcc_plan.specs.Choice.{run_of, one_bit, ones_of, is_run, is_one, choice, chunk_for, taken_by, width_by}
use Rattle.twcc_plan.specs.Planned.{Good, Planned}
use Rattle.twcc_plan.specs.Limits.{Within, Wide, up_four, size_with, shorten, fitted, next}
use Rattle.twcc_plan.specs.Plan.{more, plan, taken_in, used_by}

-- ---- lists of symbols

pub below_take : (b n : ℕ) (ss : List ℕ) → Below b ss → Below b (take n ss)
below_take b zero ss below = tt
below_take b (suc n) [] below = tt
below_take b (suc n) (s ∷ ss) below = (below.0, below_take b n ss below.1)

pub below_drop : (b n : ℕ) (ss : List ℕ) → Below b ss → Below b (drop n ss)
below_drop b zero ss below = below
below_drop b (suc n) [] below = tt
below_drop b (suc n) (s ∷ ss) below = below_drop b n ss below.1

below_four : (ss : List ℕ) → Below 3 ss → Below 4 ss
below_four [] below = tt
below_four (s ∷ ss) below = (omega arith, below_four ss below.1)

pub front-run : (s n : ℕ) (ss : List ℕ) → n ≤ front (eqb s) ss → take n ss ≡ replicate n s
unfolding front
front-run s zero ss run = refl
front-run s (suc n) [] run = absurd (omega arith)
front-run s (suc n) (x ∷ xs) run =
    by_test (eqb s x)
    (λ e. ap₂ ◌∷◌ (sym (eqb-true s x e)) (front-run s n xs (le_of_suc-le-suc (rw e at run))))
    (λ e. absurd (let z : suc n ≤ 0 = rw e at run in omega arith))

pub front-ones : (n : ℕ) (ss : List ℕ) → min n (length ss) ≤ front one_bit ss → Below 2 (take n ss)
unfolding front
front-ones zero ss ones = tt
front-ones (suc n) [] ones = tt
front-ones (suc n) (x ∷ xs) ones =
    by_test (one_bit x)
    (λ e. (ltb-true x 2 e, front-ones n xs (let z : min (suc n) (suc (length xs)) ≤ suc (front one_bit xs) = rw e at ones in omega arith)))
    (λ e. absurd (let z : min (suc n) (suc (length xs)) ≤ 0 = rw e at ones in omega arith))

-- ---- delta bytes of symbols

pub width-run : (n s : ℕ) → s < 3 → width_of (replicate n s) ≡ s * n
unfolding width_of
width-run zero s known = omega arith
width-run (suc n) s known = omega (arith, bytes-symbol s known, width-run n s known)

bytes_le : (s : ℕ) → bytes_of s ≤ s
unfolding bytes_of
bytes_le zero = omega arith
bytes_le (suc zero) = omega arith
bytes_le (suc (suc zero)) = omega arith
bytes_le (suc (suc (suc s))) = omega arith

pub width_le : (m : ℕ) (ss : List ℕ) → Below (suc m) ss → width_of ss ≤ m * length ss
unfolding width_of
width_le m [] below = omega arith
width_le m (s ∷ ss) below = omega (arith, bytes_le s, width_le m ss below.1)

-- ---- one chunk

and_true : (a b : Bool) → a && b ≡ true → (a ≡ true) × (b ≡ true)
and_true true b e = (refl, e)
and_true false b e = (e, absurd (false≢true e))

or_true : (a b : Bool) → a || b ≡ true → (a ≡ true) ⊎ (b ≡ true)
or_true true b e = inl refl
or_true false b e = inr e

-- a one-bit chunk takes all one-bit entries in front that it has room for
pub one_all : (b left : ℕ) → is_one b left ≡ true → (b ≡ 14) ⊎ (b ≡ left)
one_all b left one =
    ⊎_elim (λ e. inl (eqb-true b 14 e)) (λ e. inr (eqb-true b left (and_true (ltb 7 b) (eqb b left) e).1)) (or_true (eqb b 14) (ltb 7 b && eqb b left) one)

pub chunk_good : (ss : List ℕ) → Below 3 ss → zero < length ss → Good ss (chunk_for ss)
unfolding chunk_for choice run_of ones_of
chunk_good [] below there = absurd (omega arith)
chunk_good (x ∷ xs) below there =
    let ss = x ∷ xs in
    let r = run_of ss in
    let b = ones_of ss in
    by_test (is_run r b)
    (λ e. rw e (let long = ltb-true 7 r (and_true (ltb 7 r) (leb b r) e).0 in (omega arith, omega arith, below.0, omega arith)))
    (λ e. rw e
    (by_test (is_one b (length ss))
    (λ f. rw f (there, refl, front-ones 14 ss (⊎_elim (λ g. omega arith) (λ g. omega arith) (one_all b (length ss) f))))
    (λ f. rw f (there, refl))))

pub good_taken : (ss : List ℕ) (c : Chunk) → Good ss c → (zero < taken_by c) × (taken_by c ≤ length ss)
unfolding taken_by
good_taken ss (Run s r) good = (good.0, omega (arith, good.3, front_le (eqb s) ss))
good_taken ss (One xs) good = let e = ap length good.1 ∙ length-take 14 ss in (omega arith, omega arith)
good_taken ss (Two xs) good = let e = ap length good.1 ∙ length-take 7 ss in (omega arith, omega arith)

pub good_width : (ss : List ℕ) (c : Chunk) → Below 3 ss → Good ss c → width_by c ≤ 2 * taken_by c
unfolding width_by taken_by
good_width ss (Run zero r) below good = omega arith
good_width ss (Run (suc zero) r) below good = omega arith
good_width ss (Run (suc (suc zero)) r) below good = omega arith
good_width ss (Run (suc (suc (suc s))) r) below good = absurd (omega arith)
good_width ss (One xs) below good = omega (arith, width_le 1 xs good.2)
good_width ss (Two xs) below good = width_le 2 xs (rw good.1 (below_take 3 7 ss below))

-- What a chunk stands for and the symbols agree as far as both go, and that is what the chunk takes.
pub record Agrees (ss : List ℕ) (c : Chunk) : Type 0 where
  pub same : take (length ss) (stands_for (chunk_word c)) ≡ take (length (stands_for (chunk_word c))) ss
  pub all : taken_by c ≡ min (length (stands_for (chunk_word c))) (length ss)
  pub width : width_by c ≡ width_of (take (taken_by c) ss)

pad_same : (n : ℕ) (ss : List ℕ) → take (length ss) (pad_to n (take n ss)) ≡ take n ss
unfolding pad_to
pad_same zero ss = take-nil (length ss)
pad_same (suc n) [] = refl
pad_same (suc n) (s ∷ ss) = ap (λ (l : List ℕ). s ∷ l) (pad_same n ss)

take-taken : (n : ℕ) (ss : List ℕ) → take (length (take n ss)) ss ≡ take n ss
take-taken zero ss = refl
take-taken (suc n) [] = refl
take-taken (suc n) (s ∷ ss) = ap (λ (l : List ℕ). s ∷ l) (take-taken n ss)

-- both kinds of vector
vector_agrees : (n : ℕ) (ss : List ℕ) (c : Chunk) → stands_for (chunk_word c) ≡ pad_to n (take n ss) → taken_by c ≡ length (take n ss) → width_by c ≡ width_of (take n ss) → Agrees ss c
vector_agrees n ss c stands taken width =
    let size = ap length stands ∙ length-pad_to n (take n ss) in
    record {
      same = rw (size, stands) (pad_same n ss);
      all = taken ∙ length-take n ss ∙ ap (λ (m : ℕ). min m (length ss)) (sym size);
      width = rw (taken, take-taken) width;
    }

pub good_agrees : (ss : List ℕ) (c : Chunk) → Below 3 ss → Good ss c → Agrees ss c
unfolding taken_by width_by
good_agrees ss (Run s r) below good =
    let stands = run-back s r (omega arith) (omega arith) in
    let size = ap length stands ∙ length-replicate r s in
    let run = front-run s r ss good.3 in
    let few = (good_taken ss (Run s r) good).1 in
    record {
      same = rw (size, stands) (take_all (length ss) (replicate r s) (omega (arith, length-replicate r s)) ∙ sym run);
      all = omega arith;
      width = rw run (sym (width-run r s good.2));
    }
good_agrees ss (One xs) below good =
    vector_agrees 14 ss (One xs) (one-back xs good.2 ∙ ap (pad_to 14) good.1) (ap length good.1) (ap width_of good.1)
good_agrees ss (Two xs) below good =
    vector_agrees 7 ss (Two xs) (two_back xs (below_four xs (rw good.1 (below_take 3 7 ss below))) ∙ ap (pad_to 7) good.1) (ap length good.1) (ap width_of good.1)

-- a chunk has 16 bits
pub chunk_lt : (ss : List ℕ) (c : Chunk) → Below 3 ss → Good ss c → chunk_word c < 65536
unfolding chunk_word
chunk_lt ss (Run s r) below good = omega arith
chunk_lt ss (One xs) below good = omega (arith, pack_lt 2 (omega arith) 14 xs good.2)
chunk_lt ss (Two xs) below good = omega (arith, pack_lt 4 (omega arith) 7 xs (below_four xs (rw good.1 (below_take 3 7 ss below))))

-- ---- one step

abbrev pub StepLaw : Option ℕ → ℕ → List ℕ → Option Chunk → Type 0
StepLaw limit used ss None = Unit {0}
StepLaw limit used ss (Some c) = Good ss c × Within limit (size_with used c)

-- a shortened run keeps within the limit
short-one : (used r limit : ℕ) → limit < up_four (used + 2 + 1 * r) → up_four (up_four (used + 2 + 1 * r) - limit) / 1 < r
    → up_four (used + 2 + 1 * (r - up_four (up_four (used + 2 + 1 * r) - limit) / 1)) ≤ limit
short-one used r limit over few = omega arith

short-two : (used r limit : ℕ) → limit < up_four (used + 2 + 2 * r) → up_four (up_four (used + 2 + 2 * r) - limit) / 2 < r
    → up_four (used + 2 + 2 * (r - up_four (up_four (used + 2 + 2 * r) - limit) / 2)) ≤ limit
short-two used r limit over few = omega arith

shorten_law : (limit used : ℕ) (ss : List ℕ) (c : Chunk) → Good ss c → limit < size_with used c → StepLaw (Some limit) used ss (shorten (size_with used c - limit) c)
unfolding shorten width_by
shorten_law limit used ss (Run zero r) good over = tt
shorten_law limit used ss (Run (suc zero) r) good over =
    let v = up_four (up_four (used + 2 + 1 * r) - limit) / 1 in
    by_test (ltb (r - 1) v)
    (λ e. rw e tt)
    (λ e. rw e (let few : v < r = omega (arith, ltb-false (r - 1) v e) in ((omega arith, omega arith, good.2, omega arith), short-one used r limit over few)))
shorten_law limit used ss (Run (suc (suc zero)) r) good over =
    let v = up_four (up_four (used + 2 + 2 * r) - limit) / 2 in
    by_test (ltb (r - 1) v)
    (λ e. rw e tt)
    (λ e. rw e (let few : v < r = omega (arith, ltb-false (r - 1) v e) in ((omega arith, omega arith, good.2, omega arith), short-two used r limit over few)))
shorten_law limit used ss (Run (suc (suc (suc s))) r) good over = absurd (omega arith)
shorten_law limit used ss (One xs) good over = tt
shorten_law limit used ss (Two xs) good over = tt

fitted_law : (limit : Option ℕ) (used : ℕ) (ss : List ℕ) (c : Chunk) → Good ss c → StepLaw limit used ss (fitted limit used c)
unfolding fitted
fitted_law None used ss c good = (good, tt)
fitted_law (Some limit) used ss c good =
    by_test (ltb limit (size_with used c))
    (λ e. rw e (shorten_law limit used ss c good (ltb-true limit (size_with used c) e)))
    (λ e. rw e (good, ltb-false limit (size_with used c) e))

pub next_law : (limit : Option ℕ) (used taken : ℕ) (ss : List ℕ) → Below 3 ss → zero < length ss → StepLaw limit used ss (next limit used taken ss)
unfolding next
next_law limit used taken ss below there = fitted_law limit used ss (chunk_for ss) (chunk_good ss below there)

-- ---- the first step, where the limit is absent or at least 24

pub wide-eight : (limit : Option ℕ) → Wide limit → Within limit 8
wide-eight None wide = tt
wide-eight (Some limit) wide = omega arith

abbrev IsTaken : Option Chunk → Type 0
IsTaken None = ⊥
IsTaken (Some c) = Unit {0}

first_short : (limit : ℕ) (ss : List ℕ) (c : Chunk) → 24 ≤ limit → Below 3 ss → Good ss c → limit < size_with 8 c → IsTaken (shorten (size_with 8 c - limit) c)
unfolding shorten width_by
first_short limit ss (Run zero r) wide below good over = omega arith
first_short limit ss (Run (suc zero) r) wide below good over = rw (le-ltb (r - 1) (up_four (up_four (10 + 1 * r) - limit) / 1) (omega arith)) tt
first_short limit ss (Run (suc (suc zero)) r) wide below good over = rw (le-ltb (r - 1) (up_four (up_four (10 + 2 * r) - limit) / 2) (omega arith)) tt
first_short limit ss (Run (suc (suc (suc s))) r) wide below good over = absurd (omega arith)
first_short limit ss (One xs) wide below good over = omega (arith, width_le 1 xs good.2, ap length good.1 ∙ length-take 14 ss)
first_short limit ss (Two xs) wide below good over =
    omega (arith, width_le 2 xs (rw good.1 (below_take 3 7 ss below)), ap length good.1 ∙ length-take 7 ss)

first-fitted : (limit : Option ℕ) (ss : List ℕ) (c : Chunk) → Wide limit → Below 3 ss → Good ss c → IsTaken (fitted limit 8 c)
unfolding fitted
first-fitted None ss c wide below good = tt
first-fitted (Some limit) ss c wide below good =
    by_test (ltb limit (size_with 8 c)) (λ e. rw e (first_short limit ss c wide below good (ltb-true limit (size_with 8 c) e))) (λ e. rw e tt)

first_taken : (limit : Option ℕ) (ss : List ℕ) → Wide limit → Below 3 ss → zero < length ss → IsTaken (next limit 8 0 ss)
unfolding next
first_taken limit ss wide below there = first-fitted limit ss (chunk_for ss) wide below (chunk_good ss below there)

-- ---- the plan

drop_pred : (n x : ℕ) (xs : List ℕ) → zero < n → drop (pred n) xs ≡ drop n (x ∷ xs)
drop_pred zero x xs there = absurd (omega arith)
drop_pred (suc n) x xs there = refl

more-planned : (limit : Option ℕ) (used : ℕ) (ss : List ℕ) (rest : Chunk → List Chunk) (o : Option Chunk) → StepLaw limit used ss o → Within limit (up_four used)
    → ((c : Chunk) → Good ss c → Within limit (size_with used c) → Planned limit (used + 2 + width_by c) (rest c) (drop (taken_by c) ss))
    → Planned limit used (more o rest) ss
unfolding more
more-planned limit used ss rest None law within go = within
more-planned limit used ss rest (Some c) law within go = (law.0, go c law.0 law.1)

pub plan-planned : (limit : Option ℕ) (skip used taken : ℕ) (ss : List ℕ) → Below 3 ss → Within limit (up_four used) → Planned limit used (plan limit skip used taken ss) (drop skip ss)
unfolding plan
plan-planned limit skip used taken [] below within = within
plan-planned limit zero used taken (s ∷ ss) below within =
    more-planned limit used (s ∷ ss) (λ c. plan limit (pred (taken_by c)) (used + 2 + width_by c) (taken + taken_by c) ss) (next limit used taken (s ∷ ss))
    (next_law limit used taken (s ∷ ss) below (omega arith)) within
    (λ c good fits. rw (← (drop_pred (taken_by c) s ss (good_taken (s ∷ ss) c good).0))
    (plan-planned limit (pred (taken_by c)) (used + 2 + width_by c) (taken + taken_by c) ss below.1 fits))
plan-planned limit (suc skip) used taken (s ∷ ss) below within = plan-planned limit skip used taken ss below.1 within

-- a plan within a limit is one without
pub planned_free : (limit : Option ℕ) (used : ℕ) (cs : List Chunk) (ss : List ℕ) → Planned limit used cs ss → Planned None used cs ss
planned_free limit used [] ss planned = tt
planned_free limit used (c ∷ cs) ss planned = (planned.0, planned_free limit (used + 2 + width_by c) cs (drop (taken_by c) ss) planned.1)

-- a plan's steps: skipping is dropping; where a step stops the plan ends, where it takes a chunk the plan goes on behind it
pub plan_skip : (limit : Option ℕ) (skip used taken : ℕ) (ss : List ℕ) → plan limit skip used taken ss ≡ plan limit 0 used taken (drop skip ss)
unfolding plan
plan_skip limit skip used taken [] = rw drop-nil refl
plan_skip limit zero used taken (s ∷ ss) = refl
plan_skip limit (suc skip) used taken (s ∷ ss) = plan_skip limit skip used taken ss

pub plan_end : (limit : Option ℕ) (used taken : ℕ) → plan limit 0 used taken [] ≡ []
unfolding plan
plan_end limit used taken = refl

pub plan_stop : (limit : Option ℕ) (used taken : ℕ) (ss : List ℕ) → next limit used taken ss ≡ None → plan limit 0 used taken ss ≡ []
unfolding plan more
plan_stop limit used taken [] stops = refl
plan_stop limit used taken (s ∷ ss) stops = rw stops

pub plan_go : (limit : Option ℕ) (used taken : ℕ) (ss : List ℕ) (c : Chunk) → Below 3 ss → zero < length ss → next limit used taken ss ≡ Some c
    → plan limit 0 used taken ss ≡ c ∷ plan limit 0 (used + 2 + width_by c) (taken + taken_by c) (drop (taken_by c) ss)
unfolding plan more
plan_go limit used taken [] c below there takes = absurd (omega arith)
plan_go limit used taken (s ∷ ss) c below there takes =
    let law : StepLaw limit used (s ∷ ss) (Some c) = rw takes at (next_law limit used taken (s ∷ ss) below there) in
    let n = (good_taken (s ∷ ss) c law.0).0 in
    rw takes
    (ap (λ (cs : List Chunk). c ∷ cs)
    (plan_skip limit (pred (taken_by c)) (used + 2 + width_by c) (taken + taken_by c) ss
    ∙ ap (plan limit 0 (used + 2 + width_by c) (taken + taken_by c)) (drop_pred (taken_by c) s ss n)))

-- ---- what a plan's chunks read as

-- a chunk read where m entries follow it
agrees_take : (ss : List ℕ) (c : Chunk) (m : ℕ) → Agrees ss c → m ≤ length ss - taken_by c → take (taken_by c + m) (stands_for (chunk_word c)) ≡ take (taken_by c) ss
agrees_take ss c m agrees few =
    let stands = stands_for (chunk_word c) in
    let all = agrees.all in
    by_test (leb (length stands) (length ss))
    (λ e.
    let le = leb-true (length stands) (length ss) e in
    let whole : taken_by c ≡ length stands = omega arith in
    take_all (taken_by c + m) stands (omega arith) ∙ sym (take_all (length ss) stands le) ∙ agrees.same ∙ ap (λ (n : ℕ). take n ss) (sym whole))
    (λ e.
    let lt = leb-false (length stands) (length ss) e in
    let last : taken_by c + m ≡ length ss = omega arith in
    ap (λ (n : ℕ). take n stands) last ∙ agrees.same ∙ take_all (length stands) ss (omega arith) ∙ sym (take_all (taken_by c) ss (omega arith)))

-- the chunks are just those that the entries taken need, and stand for their symbols
pub record ReadsAs (cs : List Chunk) (ss : List ℕ) : Type 0 where
  pub fits : taken_in cs ≤ length ss
  pub takes : Takes (map chunk_word cs) (taken_in cs)
  pub symbols : symbols_in (map chunk_word cs) (taken_in cs) ≡ take (taken_in cs) ss

pub planned-reads : (limit : Option ℕ) (used : ℕ) (cs : List Chunk) (ss : List ℕ) → Below 3 ss → Planned limit used cs ss → ReadsAs cs ss
unfolding taken_in symbols_in
planned-reads limit used [] ss below planned = record { fits = omega arith; takes = refl; symbols = refl }
planned-reads limit used (c ∷ cs) ss below planned =
    let rest = planned-reads limit (used + 2 + width_by c) cs (drop (taken_by c) ss) (below_drop 3 (taken_by c) ss below) planned.1 in
    let agrees = good_agrees ss c below planned.0 in
    let n = good_taken ss c planned.0 in
    let few : taken_in cs ≤ length ss - taken_by c = rw length-drop at rest.fits in
    let left : taken_by c + taken_in cs - length (stands_for (chunk_word c)) ≡ taken_in cs = omega (arith, agrees.all) in
    record {
      fits = omega arith;
      takes = (λ e. omega arith, rw left rest.takes);
      symbols = rw (left, rest.symbols, agrees_take ss c (taken_in cs) agrees few) (sym (take-add (taken_by c) (taken_in cs) ss));
    }

-- the bytes used at a plan's end: those before it, two for each chunk, and the delta bytes of the entries taken
pub planned-used : (limit : Option ℕ) (used : ℕ) (cs : List Chunk) (ss : List ℕ) → Below 3 ss → Planned limit used cs ss
    → used_by used cs ≡ used + 2 * length cs + width_of (take (taken_in cs) ss)
unfolding used_by taken_in width_of
planned-used limit used [] ss below planned = omega arith
planned-used limit used (c ∷ cs) ss below planned =
    let rest = planned-used limit (used + 2 + width_by c) cs (drop (taken_by c) ss) (below_drop 3 (taken_by c) ss below) planned.1 in
    let own = (good_agrees ss c below planned.0).width in
    let both = ap width_of (take-add (taken_by c) (taken_in cs) ss) ∙ width-append (take (taken_by c) ss) (take (taken_in cs) (drop (taken_by c) ss)) in
    omega arith

-- at most four bytes for each entry taken
pub planned-small : (limit : Option ℕ) (used : ℕ) (cs : List Chunk) (ss : List ℕ) → Below 3 ss → Planned limit used cs ss → used_by used cs ≤ used + 4 * taken_in cs
unfolding used_by taken_in
planned-small limit used [] ss below planned = omega arith
planned-small limit used (c ∷ cs) ss below planned =
    let rest = planned-small limit (used + 2 + width_by c) cs (drop (taken_by c) ss) (below_drop 3 (taken_by c) ss below) planned.1 in
    omega (arith, rest, good_width ss c below planned.0, good_taken ss c planned.0)

pub planned-within : (limit : Option ℕ) (used : ℕ) (cs : List Chunk) (ss : List ℕ) → Planned limit used cs ss → Within limit (up_four (used_by used cs))
unfolding used_by
planned-within limit used [] ss planned = planned
planned-within limit used (c ∷ cs) ss planned = planned-within limit (used + 2 + width_by c) cs (drop (taken_by c) ss) planned.1

more-takes : (limit : Option ℕ) (used : ℕ) (ss : List ℕ) (rest : Chunk → List Chunk) (o : Option Chunk) → StepLaw limit used ss o → IsTaken o → zero < taken_in (more o rest)
unfolding more taken_in
more-takes limit used ss rest None law taken = absurd taken
more-takes limit used ss rest (Some c) law taken = omega (arith, (good_taken ss c law.0).0)

pub plan-takes : (limit : Option ℕ) (ss : List ℕ) → Wide limit → Below 3 ss → zero < length ss → zero < taken_in (plan limit 0 8 0 ss)
unfolding plan
plan-takes limit [] wide below there = absurd (omega arith)
plan-takes limit (s ∷ ss) wide below there =
    more-takes limit 8 (s ∷ ss) (λ c. plan limit (pred (taken_by c)) (8 + 2 + width_by c) (0 + taken_by c) ss) (next limit 8 0 (s ∷ ss))
    (next_law limit 8 0 (s ∷ ss) below there) (first_taken limit (s ∷ ss) wide below there)
