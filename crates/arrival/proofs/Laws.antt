-- Laws of arrivals: one word more, and lists laid end to end.
use Prim.Native.Nat.{ℕ, zero, suc, ◌≤◌, ◌<◌}
use mathlib.Core.List.{List, [], ◌∷◌, ◌++◌, map, append_assoc, append-nil}
use mathlib.Core.Path.{◌≡◌, refl, sym, ap, ap₂, ◌∙◌}
use mathlib.Core.Bool.{Bool, true, false, cond, ◌&&◌, and_assoc, true≢false}
use native.Mathlib.Omega.{arith}
use borrow.Author.Tests.{ltb-true, ltb-false, lt-ltb, eq-eqb}
use lib.Dec.{ltb, eqb}
use lib.IntN.{ℤ, pos, negsuc, nat_abs, ◌+ℤ◌, +ℤ_assoc, +ℤ_idl, +ℤ_idr}
use lib.ListN.{length, get_or, take}
use Rattle.octets.proofs.Logic.{by_test}
use Rattle.twcc.specs.Words.{half, not_received, Valid, AllValid}
use Rattle.twcc.specs.Status.{status_of}
use Rattle.twcc.specs.declared.Status.{Status}
use Rattle.twcc.specs.declared.Status.TheVariants.{Received, NotReceived, Truncated, Reserved, NoStatus}
use Rattle.arrival.specs.Arrivals.{delta_of, clear, sum_of, readable, at, arrival_behind, arrivals_behind, arrivals}
use Rattle.kinds.specs.declared.Tick.{Tick}
use Rattle.arrival.specs.declared.Arrival.{Arrival}
use Rattle.arrival.specs.declared.Arrival.TheVariants.{Missing, Unreadable, Unplaced}

-- ---- sums, and what can be read

pub sum-append : (xs ys : List ℤ) → sum_of (xs ++ ys) ≡ sum_of xs +ℤ sum_of ys
unfolding sum_of
sum-append [] ys = sym (+ℤ_idl (sum_of ys))
sum-append (x ∷ xs) ys = ap (λ (z : ℤ). delta_of (status_of x) +ℤ z) (sum-append xs ys) ∙ sym (+ℤ_assoc (delta_of (status_of x)) (sum_of xs) (sum_of ys))

pub readable-append : (xs ys : List ℤ) → readable (xs ++ ys) ≡ readable xs && readable ys
unfolding readable
readable-append [] ys = refl
readable-append (x ∷ xs) ys = ap (λ (b : Bool). clear (status_of x) && b) (readable-append xs ys) ∙ sym (and_assoc (clear (status_of x)) (readable xs) (readable ys))

-- ---- lists end to end

pub behind-append : (start : ℤ) (before xs ys : List ℤ)
    → arrivals_behind start before (xs ++ ys) ≡ arrivals_behind start before xs ++ arrivals_behind start (before ++ xs) ys
unfolding arrivals_behind
behind-append start before [] ys = ap (λ (l : List ℤ). arrivals_behind start l ys) (sym (append-nil before))
behind-append start before (x ∷ xs) ys =
    ap (◌∷◌ (arrival_behind start before (status_of x)))
    (behind-append start (before ++ (x ∷ [])) xs ys
    ∙ ap (λ (l : List ℤ). arrivals_behind start (before ++ (x ∷ [])) xs ++ arrivals_behind start l ys) (append_assoc before (x ∷ []) xs))

-- behind words that can be read, arrivals go on from their sum
on_by : (start : ℤ) (before rest : List ℤ) (s : Status) → readable before ≡ true
    → arrival_behind start (before ++ rest) s ≡ arrival_behind (start +ℤ sum_of before) rest s
on_by start before rest (Received delta) clear-before =
    rw (readable-append before rest, clear-before, sum-append before rest)
    (ap (λ (z : ℤ). cond (readable rest) (at z) Unplaced)
    (ap (λ (z : ℤ). start +ℤ z) (+ℤ_assoc (sum_of before) (sum_of rest) delta) ∙ sym (+ℤ_assoc start (sum_of before) (sum_of rest +ℤ delta))))
on_by start before rest NotReceived clear-before = refl
on_by start before rest Truncated clear-before = refl
on_by start before rest Reserved clear-before = refl
on_by start before rest NoStatus clear-before = refl

on : (start : ℤ) (before rest ws : List ℤ) → readable before ≡ true
    → arrivals_behind start (before ++ rest) ws ≡ arrivals_behind (start +ℤ sum_of before) rest ws
unfolding arrivals_behind
on start before rest [] clear-before = refl
on start before rest (w ∷ ws) clear-before =
    ap₂ ◌∷◌ (on_by start before rest (status_of w) clear-before)
    (ap (λ (l : List ℤ). arrivals_behind start l ws) (append_assoc before rest (w ∷ [])) ∙ on start before (rest ++ (w ∷ [])) ws clear-before)

pub arrivals-append : (start : ℤ) (xs ys : List ℤ) → readable xs ≡ true
    → arrivals start (xs ++ ys) ≡ arrivals start xs ++ arrivals (start +ℤ sum_of xs) ys
arrivals-append start xs ys clear-xs =
    behind-append start [] xs ys
    ∙ ap (λ (l : List (Arrival Tick)). arrivals start xs ++ l)
    (ap (λ (l : List ℤ). arrivals_behind start l ys) (sym (append-nil xs)) ∙ on start xs [] ys clear-xs)

-- ---- one word more

-- a word that can be read, and the words after it
next_from : (start w : ℤ) (ws : List ℤ) → clear (status_of w) ≡ true
    → arrivals start (w ∷ ws) ≡ arrival_behind start [] (status_of w) ∷ arrivals (start +ℤ delta_of (status_of w)) ws
unfolding arrivals_behind sum_of readable
next_from start w ws clear-word =
    arrivals-append start (w ∷ []) ws (rw clear-word refl)
    ∙ ap (λ (z : ℤ). arrival_behind start [] (status_of w) ∷ arrivals (start +ℤ z) ws) (+ℤ_idr (delta_of (status_of w)))

-- the draft's rule: the next delta counts from this arrival
pub arrives : (start w d : ℤ) (ws : List ℤ) → status_of w ≡ Received d
    → arrivals start (w ∷ ws) ≡ at (start +ℤ d) ∷ arrivals (start +ℤ d) ws
unfolding sum_of readable
arrives start w d ws is =
    next_from start w ws (rw is refl)
    ∙ rw is (ap (λ (z : ℤ). at (start +ℤ z) ∷ arrivals (start +ℤ d) ws) (+ℤ_idl d))

pub misses : (start w : ℤ) (ws : List ℤ) → status_of w ≡ NotReceived → arrivals start (w ∷ ws) ≡ Missing ∷ arrivals start ws
misses start w ws is =
    next_from start w ws (rw is refl) ∙ rw is (ap (λ (z : ℤ). Missing ∷ arrivals z ws) (+ℤ_idr start))

-- behind an entry that can't be read
abbrev pub placeless : Status → Arrival Tick
placeless (Received delta) = Unplaced
placeless NotReceived = Missing
placeless Truncated = Unreadable
placeless Reserved = Unreadable
placeless NoStatus = Unreadable

abbrev pub out_of_place : List ℤ → List (Arrival Tick)
out_of_place = map (λ (w : ℤ). placeless (status_of w))

lost_by : (start : ℤ) (before : List ℤ) (s : Status) → readable before ≡ false → arrival_behind start before s ≡ placeless s
lost_by start before (Received delta) lost = rw lost refl
lost_by start before NotReceived lost = refl
lost_by start before Truncated lost = refl
lost_by start before Reserved lost = refl
lost_by start before NoStatus lost = refl

pub lost_behind : (start : ℤ) (before ws : List ℤ) → readable before ≡ false → arrivals_behind start before ws ≡ out_of_place ws
unfolding arrivals_behind
lost_behind start before [] lost = refl
lost_behind start before (w ∷ ws) lost =
    ap₂ ◌∷◌ (lost_by start before (status_of w) lost)
    (lost_behind start (before ++ (w ∷ [])) ws (readable-append before (w ∷ []) ∙ ap (λ (b : Bool). b && readable (w ∷ [])) lost))

unread_by : (start : ℤ) (s : Status) → clear s ≡ false → arrival_behind start [] s ≡ Unreadable
unread_by start (Received delta) unclear = absurd (true≢false unclear)
unread_by start NotReceived unclear = absurd (true≢false unclear)
unread_by start Truncated unclear = refl
unread_by start Reserved unclear = refl
unread_by start NoStatus unclear = refl

pub unreads : (start w : ℤ) (ws : List ℤ) → clear (status_of w) ≡ false → arrivals start (w ∷ ws) ≡ Unreadable ∷ out_of_place ws
unfolding arrivals_behind readable
unreads start w ws unclear = ap₂ ◌∷◌ (unread_by start (status_of w) unclear) (lost_behind start (w ∷ []) ws (rw unclear refl))

-- one case for each entry
pub arrivals-count : (start : ℤ) (before ws : List ℤ) → length (arrivals_behind start before ws) ≡ length ws
unfolding arrivals_behind
arrivals-count start before [] = refl
arrivals-count start before (w ∷ ws) = ap suc (arrivals-count start (before ++ (w ∷ [])) ws)

-- the entry at a place, from the words before it
at-behind : (start : ℤ) (before ws : List ℤ) (place : ℕ) → place < length ws
    → get_or (arrivals_behind start before ws) place Missing ≡ arrival_behind start (before ++ take place ws) (status_of (get_or ws place not_received))
unfolding arrivals_behind
at-behind start before [] place inside = absurd (omega arith)
at-behind start before (w ∷ ws) zero inside = ap (λ (l : List ℤ). arrival_behind start l (status_of w)) (sym (append-nil before))
at-behind start before (w ∷ ws) (suc place) inside =
    at-behind start (before ++ (w ∷ [])) ws place (omega arith)
    ∙ ap (λ (l : List ℤ). arrival_behind start l (status_of (get_or ws place not_received))) (append_assoc before (w ∷ []) (take place ws))

pub arrival_at : (start : ℤ) (ws : List ℤ) (place : ℕ) → place < length ws
    → get_or (arrivals start ws) place Missing ≡ arrival_behind start (take place ws) (status_of (get_or ws place not_received))
arrival_at start ws place inside = at-behind start [] ws place inside

-- ---- what a word says

-- a delta has 16 bits
pub delta_small : (w : ℤ) → nat_abs (delta_of (status_of w)) ≤ half
unfolding status_of
delta_small (pos n) =
    by_test (ltb n half)
    (λ e. let less = ltb-true n half e in rw e (omega arith))
    (λ e. rw e (high (eqb n half) (eqb n 32769) (eqb n 32770)))
  where
    high : (a b c : Bool) → nat_abs (delta_of (cond a NotReceived (cond b Truncated (cond c Reserved NoStatus)))) ≤ half
    high true b c = omega arith
    high false true c = omega arith
    high false false true = omega arith
    high false false false = omega arith
delta_small (negsuc n) =
    by_test (ltb n half) (λ e. let less = ltb-true n half e in rw e (omega arith)) (λ e. rw e (omega arith))

-- the words that can be written can be read
valid-clear : (w : ℤ) → Valid w → clear (status_of w) ≡ true
unfolding status_of
valid-clear (pos n) valid =
    by_test (ltb n half) (λ e. rw e refl)
    (λ e. let least = ltb-false n half e in rw (e, eq-eqb n half (omega arith)) refl)
valid-clear (negsuc n) valid = rw (lt-ltb n half valid) refl

pub valid-readable : (ws : List ℤ) → AllValid ws → readable ws ≡ true
unfolding readable
valid-readable [] valid = refl
valid-readable (w ∷ ws) valid = ap₂ ◌&&◌ (valid-clear w valid.0) (valid-readable ws valid.1)
