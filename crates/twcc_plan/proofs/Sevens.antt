-- Seven symbols at once: the loop that gathers them, and what they settle of the choice.
use Prim.Native.Nat.{ℕ, zero, suc, ◌+◌, ◌-◌, ◌*◌, ◌/◌, ◌≤◌, ◌<◌, min}
use mathlib.Core.Path.{◌≡◌, refl, sym, ap, ◌∙◌}
use mathlib.Core.List.{List, [], ◌∷◌}
use mathlib.Core.Bool.{Bool, true, false, ◌&&◌, true≢false}
use native.Mathlib.Numerals.{add-one}
use native.Mathlib.Nat.{sub-zero}
use native.Mathlib.Omega.{arith}
use borrow.Author.Tests.{ltb-true, ltb-false, leb-true, leb-false, eqb-true, lt-ltb, le-ltb, le-leb, lt-leb, eq-eqb, ne_eqb}
use lib.Dec.{ltb, leb, eqb}
use Rattle.std.specs.Prelude.{Some, None}
use Rattle.std.proofs.lemmas.Option.{none-some}
use lib.ListN.{length, get_or, take, drop, replicate}
use Rattle.octets.specs.Bounds.{Below}
use Rattle.twcc.specs.Chunks.{ones_end, longest_run, pack, unpack}
use Rattle.twcc.proofs.Stands.{pack_lt, pad_to, unpack-pack}
use Rattle.octets.proofs.Logic.{by_test}
use Rattle.twcc_plan.specs.Front.{front}
use Rattle.twcc_plan.proofs.Fronts.{front_yes, front-no, front_skip, front_mono, front_stops}
use Rattle.twcc_plan.specs.Choice.{run_of, one_bit, ones_of, is_run, is_one, chunk_for}
use Rattle.twcc_plan.proofs.PlanLaws.{front-run}
use Rattle.twcc_plan.specs.Picked.{picked, Places, vector_of, twos_in, Gathered, two_of, Alike, Settles}
use Rattle.twcc_plan.specs.declared.pick.Seven.{Seven}
use Rattle.twcc_plan.proofs.Packing.{Packing, packing_start, packing_fits, packing_turn, packing_over}
use Rattle.twcc_plan.proofs.Choosing.{pack-take, picks_two}

-- ---- the loop

pub four : Places 4 7 ones_end
four = record { two = omega arith; fourteen = omega arith; few = omega arith; sixteen = omega arith }

pub record Gathering (ss : List ℕ) (two width twos n : ℕ) : Type 0 where
  pub wide : Packing 4 7 ss two width n
  pub counted : twos + twos_in (take (7 - n) (drop n ss)) ≡ twos_in (take 7 ss)
  pub few : twos ≤ n

twos-none : (m : ℕ) → twos_in (take m []) ≡ 0
unfolding twos_in
twos-none zero = refl
twos-none (suc m) = refl

twos-more : (m : ℕ) (ss : List ℕ) (n : ℕ) → twos_in (take (suc m) (drop n ss)) ≡ get_or ss n 0 / 2 + twos_in (take m (drop (suc n) ss))
unfolding twos_in
twos-more m [] zero = omega (arith, twos-none m)
twos-more m [] (suc n) = omega (arith, twos-none m)
twos-more m (s ∷ ss) zero = refl
twos-more m (s ∷ ss) (suc n) = twos-more m ss n

pub gathering_start : (ss : List ℕ) → Gathering ss 0 0 0 0
gathering_start ss = record { wide = packing_start four ss; counted = rw sub-zero (omega arith); few = omega arith }

module _ {ss : List ℕ} {two width twos n : ℕ} (g : Gathering ss two width twos n) where
  pub gathering_turn : n < 7 → (symbol : ℕ) → symbol ≡ get_or ss n 0 → symbol ≤ 2 → Gathering ss (two * 4 + symbol) (width + symbol) (twos + symbol / 2) (n + 1)
  gathering_turn more symbol is known =
      let m = 7 - suc n in
      let next : 7 - n ≡ suc m = omega arith in
      let counted : twos + twos_in (take (suc m) (drop n ss)) ≡ twos_in (take 7 ss) = rw next at g.counted in
      record {
        wide = packing_turn four ss g.wide more symbol is known;
        counted = rw (add-one n, is) (omega (arith, counted, twos-more m ss n));
        few = omega (arith, g.few);
      }

  pub gathering_over : 7 ≤ n → Gathered ss (record { two = two; width = width; twos = twos })
  unfolding twos_in
  gathering_over over =
      let none : 7 - n ≡ 0 = omega arith in
      let wide = packing_over four ss g.wide over in
      let counted = rw none at g.counted in
      record {
        two = wide.0;
        width = wide.1;
        twos = omega (arith, counted);
        small = (packing_fits four ss g.wide, omega (arith, g.wide.light, g.wide.within));
      }

-- ---- the tests of the rule

and_false : (a : Bool) → a && false ≡ false
and_false true = refl
and_false false = refl

pub yes_run : (r b : ℕ) → 7 < r → b ≤ r → is_run r b ≡ true
yes_run r b long ones = rw (lt-ltb 7 r long, le-leb b r ones)

pub no_run : (r b : ℕ) → r < 8 → is_run r b ≡ false
no_run r b few = rw (le-ltb 7 r (omega arith))

pub fewer_run : (r b : ℕ) → r < b → is_run r b ≡ false
fewer_run r b more = rw (lt-leb b r more) (and_false (ltb 7 r))

no_one : (b left : ℕ) → b < 14 → b < left → is_one b left ≡ false
no_one b left few more = rw (ne_eqb b 14 (λ e. omega arith), ne_eqb b left (λ e. omega arith)) (and_false (ltb 7 b))

pub settled_none : (ss : List ℕ) → Settles ss None → is_run (run_of ss) (ones_of ss) ≡ false
settled_none ss settles =
    by_test (is_run (run_of ss) (ones_of ss)) (λ e. absurd (none-some (run_of ss) (rw e at settles))) (λ e. e)

-- ---- whether seven are equal

pack-run : (h : ℕ) → pack 4 7 (replicate 7 h) ≡ h * 5461
unfolding pack
pack-run h = omega arith

below_four : (ss : List ℕ) → Below 3 ss → Below 4 ss
below_four [] below = tt
below_four (s ∷ ss) below = (omega arith, below_four ss below.1)

pub first-digit : (ss : List ℕ) → Below 3 ss → zero < length ss → (pack 4 7 ss / 4096 ≡ get_or ss 0 0) × (get_or ss 0 0 ≤ 2)
unfolding pack
first-digit [] below there = absurd (omega arith)
first-digit (h ∷ rest) below there = let few = pack_lt 4 (omega arith) 6 rest (below_four rest below.1) in (omega arith, omega (arith, below.0))

-- seven that are not make no run
pub unlike : (ss : List ℕ) → Below 3 ss → zero < length ss → (pack 4 7 ss ≡ pack 4 7 ss / 4096 * 5461 → ⊥) → Settles ss None
unfolding run_of
unlike ss below there differs =
    let h = get_or ss 0 0 in
    let few : front (eqb h) ss < 7 =
    by_test (leb 7 (front (eqb h) ss))
    (λ e.
    let run = front-run h 7 ss (leb-true 7 (front (eqb h) ss) e) in
    let packed : pack 4 7 ss ≡ h * 5461 = pack-take 4 7 ss ∙ ap (pack 4 7) run ∙ pack-run h in
    absurd (differs (omega (arith, packed, first-digit ss below there))))
    (λ e. leb-false 7 (front (eqb h) ss) e) in
    rw (no_run (run_of ss) (ones_of ss) (omega arith))

unpack-run : (h : ℕ) → h ≤ 2 → unpack 4 7 (h * 5461) ≡ replicate 7 h
unfolding unpack
unpack-run zero known = refl
unpack-run (suc zero) known = refl
unpack-run (suc (suc zero)) known = refl
unpack-run (suc (suc (suc h))) known = absurd (omega arith)

padded-run : (h n : ℕ) (ss : List ℕ) → n ≤ length ss → pad_to n ss ≡ replicate n h → n ≤ front (eqb h) ss
unfolding pad_to front
padded-run h zero ss long same = omega arith
padded-run h (suc n) [] long same = absurd (omega arith)
padded-run h (suc n) (s ∷ ss) long same =
    let here : s ≡ h = ap (λ (l : List ℕ). get_or l 0 0) same in
    let rest : pad_to n ss ≡ replicate n h = ap (λ (l : List ℕ). drop 1 l) same in
    rw (eq-eqb h s (sym here)) (omega (arith, padded-run h n ss (omega arith) rest))

pub alike : (ss : List ℕ) → Below 3 ss → 14 ≤ length ss → pack 4 7 ss ≡ pack 4 7 ss / 4096 * 5461 → Alike ss (pack 4 7 ss / 4096)
alike ss below long same =
    let h = pack 4 7 ss / 4096 in
    let first = first-digit ss below (omega arith) in
    let known : h ≤ 2 = omega arith in
    let digits = sym (unpack-pack 4 (omega arith) 7 ss (below_four ss below)) ∙ ap (unpack 4 7) same ∙ unpack-run h known in
    record { known = known; stands = first.0; seven = padded-run h 7 ss (omega arith) digits }

-- ---- the run of seven or more that are equal

module _ (ss : List ℕ) (long : 14 ≤ length ss) (first : ℕ) (a : Alike ss first) (r : ℕ) (is : r ≡ min longest_run (front (eqb first) ss)) where
  run_is : r ≡ run_of ss
  unfolding run_of
  run_is = rw (← a.stands) is

  makes_chunk : 7 < r → ones_of ss ≤ r → Settles ss (Some r)
  makes_chunk more few = rw (yes_run (run_of ss) (ones_of ss) (omega (arith, run_is)) (omega (arith, run_is)), run_is)

  pub long_settles : 13 < r → Settles ss (Some r)
  unfolding ones_of
  long_settles more = makes_chunk (omega arith) (omega arith)

  pub seven_settles : r ≤ 7 → Settles ss None
  seven_settles seven = rw (no_run (run_of ss) (ones_of ss) (omega (arith, run_is)))

  module _ (short : r ≤ 13) (s : ℕ) (behind : s ≡ get_or ss r 0) where
    whole : front (eqb first) ss ≡ r
    whole = omega arith

    -- of a one-bit symbol, the one-bit symbols go on behind the run or end there
    ones : first < 2 → front one_bit ss ≡ r + front one_bit (drop r ss)
    ones bit =
        let more = front_mono (eqb first) one_bit (λ x e. lt-ltb x 2 (omega (arith, eqb-true first x e))) ss in
        front_skip one_bit r ss (omega (arith, more, whole))

    pub bits_settle : first + s < 2 → Settles ss None
    unfolding ones_of
    bits_settle bits =
        let next = front_yes one_bit ss r 0 (omega arith) (lt-ltb (get_or ss r 0) 2 (omega arith)) in
        rw (fewer_run (run_of ss) (ones_of ss) (omega (arith, run_is, ones (omega arith), next)))

    pub two_settles : 7 < r → 2 ≤ first + s → Settles ss (Some r)
    unfolding ones_of
    two_settles more two =
        by_test (ltb first 2)
        (λ e.
        let bit = ltb-true first 2 e in
        let other = front_stops (eqb first) ss r 0 whole (omega arith) in
        let apart : s ≡ first → ⊥ = λ same. let z : true ≡ false = sym (eq-eqb first (get_or ss r 0) (omega arith)) ∙ other in absurd (true≢false z) in
        let none = front-no one_bit ss r 0 (omega arith) (le-ltb (get_or ss r 0) 2 (omega (arith, apart))) in
        makes_chunk more (omega (arith, ones bit, none)))
        (λ e.
        let none = front-no one_bit ss 0 0 (omega arith) (le-ltb (get_or ss 0 0) 2 (omega (arith, ltb-false first 2 e, a.stands))) in
        makes_chunk more (omega (arith, none)))

-- ---- a 2 among the first fourteen

some-two : (n : ℕ) (ss : List ℕ) → zero < twos_in (take n ss) → front one_bit ss < n
unfolding twos_in front
some-two zero ss some = absurd (omega arith)
some-two (suc n) [] some = absurd (omega arith)
some-two (suc n) (s ∷ ss) some =
    by_test (one_bit s)
    (λ e. rw e (omega (arith, some-two n ss (omega (arith, ltb-true s 2 e)))))
    (λ e. rw e (omega arith))

none-two : (n : ℕ) (ss : List ℕ) → n ≤ length ss → twos_in (take n ss) ≡ 0 → n ≤ front one_bit ss
unfolding twos_in front
none-two zero ss long none = omega arith
none-two (suc n) [] long none = absurd (omega arith)
none-two (suc n) (s ∷ ss) long none =
    by_test (one_bit s)
    (λ e. rw e (omega (arith, none-two n ss (omega arith) (omega arith))))
    (λ e. absurd (omega (arith, ltb-false s 2 e)))

module _ (ss : List ℕ) (long : 14 ≤ length ss) (a : Seven) (first : Gathered ss a) (no : is_run (run_of ss) (ones_of ss) ≡ false) where
  two_is : ones_of ss < 14 → two_of a ≡ picked (chunk_for ss)
  unfolding vector_of
  two_is few =
      let count : 7 ≡ min 7 (length ss) = omega arith in
      let chunk = first.two in
      let width = first.width in
      let vector : two_of a ≡ vector_of 4 7 ones_end ss = cc in
      vector ∙ picks_two ss _ _ refl refl no (no_one (ones_of ss) (length ss) few (omega arith))

  -- a 2 among the first seven
  pub two_early : zero < a.twos → two_of a ≡ picked (chunk_for ss)
  unfolding ones_of
  two_early some = let few = some-two 7 ss (rw first.twos at some) in two_is (omega arith)

  -- a 2 among the next seven
  pub two_late : a.twos ≡ 0 → (b : Seven) → Gathered (drop 7 ss) b → zero < b.twos → two_of a ≡ picked (chunk_for ss)
  unfolding ones_of
  two_late none b second some =
      let ahead = front_skip one_bit 7 ss (none-two 7 ss (omega arith) (sym first.twos ∙ none)) in
      let few = some-two 7 (drop 7 ss) (rw second.twos at some) in
      two_is (omega (arith, ahead))
