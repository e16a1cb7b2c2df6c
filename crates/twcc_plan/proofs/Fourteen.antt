-- Fourteen symbols without a large delta: the bits that their words have together, the loop that weighs them, and what their
-- weight settles of the choice.
use Prim.Native.Nat.{ℕ, zero, suc, ◌+◌, ◌-◌, ◌*◌, ◌/◌, ◌%◌, ◌^◌, ◌≤◌, ◌<◌, min}
use mathlib.Core.Path.{◌≡◌, refl, sym, ap, ◌∙◌}
use mathlib.Core.List.{List, [], ◌∷◌, map}
use mathlib.Core.Bool.{true, cond}
use native.Mathlib.Numerals.{add-one}
use native.Mathlib.Nat.{pow-succ', sub-zero}
use native.Mathlib.Omega.{arith}
use borrow.Author.Tests.{ltb-true, ltb-false, leb-true, leb-false, eqb-true, eqb-false, lt-ltb, eq-eqb}
use lib.Bits.{bit_or, or_add_and, and_le_l, and_le_r, or_shr, or_mod}
use lib.Dec.{ltb, leb, eqb}
use lib.IntN.{ℤ, pos, negsuc}
use lib.ListN.{length, get_or, take, drop, length-take, length-map}
use mir.Syntax.{w32}
use mir.Val.{SFits, of_z}
use Rattle.twcc.specs.Words.{half, symbol_of, width_of}
use Rattle.octets.specs.Bounds.{Below}
use Rattle.twcc.specs.Chunks.{runs_end, longest_run, pack}
use Rattle.twcc.proofs.Stands.{pack_lt}
use Rattle.octets.proofs.Logic.{by_test}
use Rattle.twcc.proofs.Written.{bytes-symbol}
use Rattle.twcc_plan.specs.Front.{front}
use Rattle.twcc_plan.specs.Choice.{run_of, one_bit, ones_of, is_one, chunk_for}
use Rattle.twcc_plan.proofs.Fronts.{front_le, front_skip, front_yes, front_passes}
use Rattle.twcc_plan.proofs.PlanLaws.{front-run, front-ones, width-run, width_le}
use Rattle.twcc_plan.specs.Picked.{picked, vector_of, run_picked, weight_of}
use Rattle.twcc_plan.specs.declared.pick.Picked.{Picked}
use Rattle.twcc_plan.proofs.Symbols.{symbol-there}
use Rattle.twcc_plan.proofs.Packing.{pack-more, width-more}
use Rattle.twcc_plan.proofs.Choosing.{pack-take, picks_run, picks_one}
use Rattle.twcc_plan.proofs.Sevens.{yes_run, fewer_run}

-- ---- the bits of a word without a large delta: below 256, or from 32,768 to 33,023

abbrev pub plain_bits : ℕ → Type 0
plain_bits b = (b / 65536 ≡ 0) × (b / 256 % 128 ≡ 0)

or_none : (a b : ℕ) → bit_or a b ≡ 0 → (a ≡ 0) × (b ≡ 0)
or_none a b none =
    let sum = or_add_and a b in
    let left = and_le_l a b in
    let right = and_le_r a b in
    (omega arith, omega arith)

plain_both : (a b : ℕ) → plain_bits (bit_or a b) → plain_bits a × plain_bits b
plain_both a b plain =
    let high = or_none (a / 65536) (b / 65536) (sym (or_shr a b 16) ∙ plain.0) in
    let low = or_none (a / 256 % 128) (b / 256 % 128) (sym (or_mod (a / 256) (b / 256) 7) ∙ ap (λ (m : ℕ). m % 128) (sym (or_shr a b 8)) ∙ plain.1) in
    ((high.0, low.0), (high.1, low.1))

plain-symbol : (w : ℤ) → SFits w32 w → plain_bits (of_z w32 w) → symbol_of w < 2
unfolding symbol_of
plain-symbol (pos n) fits plain =
    by_test (ltb n 256) (λ e. rw e (omega arith))
    (λ e. by_test (ltb n half)
    (λ f. absurd (omega (arith, ltb-false n 256 e, ltb-true n half f, plain.1)))
    (λ f. rw (e, f) (omega arith)))
plain-symbol (negsuc n) fits plain = absurd (omega (arith, fits.sfits, plain.0))

pub record Together (list : List ℤ) (bits n : ℕ) : Type 0 where
  pub within : n ≤ 14
  pub plain : plain_bits bits → n ≤ front one_bit (map symbol_of list)

pub together_start : (list : List ℤ) → Together list 0 0
together_start list = record { within = omega arith; plain = λ p. omega arith }

pub together_turn : {list : List ℤ} {bits n : ℕ} → Together list bits n → n < 14 → n < length list → SFits w32 (get_or list n (pos 0)) → Together list (bit_or bits (of_z w32 (get_or list n (pos 0)))) (n + 1)
together_turn {list} {bits} {n} t more inside fits =
    let word = get_or list n (pos 0) in
    let ss = map symbol_of list in
    record {
      within = omega arith;
      plain = λ p.
          let both = plain_both bits (of_z w32 word) p in
          let few : get_or ss n 0 < 2 = omega (arith, plain-symbol word fits both.1, symbol-there list n (pos 0) inside) in
          let before = t.plain both.0 in
          omega (arith, front_skip one_bit n ss before, front_yes one_bit ss n 0 (rw length-map inside) (lt-ltb (get_or ss n 0) 2 few));
    }

pub together_over : {list : List ℤ} {bits n : ℕ} → Together list bits n → 14 ≤ n → plain_bits bits → ones_of (map symbol_of list) ≡ 14
unfolding ones_of
together_over {list} {bits} {n} t over plain = omega (arith, t.plain plain)

-- ---- the loop that weighs

many : (ss : List ℕ) → ones_of ss ≡ 14 → 14 ≤ length ss
unfolding ones_of
many ss ones = omega (arith, front_le one_bit ss)

pub ones_long : (list : List ℤ) → ones_of (map symbol_of list) ≡ 14 → 14 ≤ length list
ones_long list ones = rw length-map at (many (map symbol_of list) ones)

one_there : (ss : List ℕ) (n : ℕ) → ones_of ss ≡ 14 → n < 14 → get_or ss n 0 < 2
unfolding ones_of
one_there ss n ones more = ltb-true (get_or ss n 0) 2 (front_passes one_bit ss n 0 (omega arith))

pub record Weighing (ss : List ℕ) (sum weight n : ℕ) : Type 0 where
  pub within : n ≤ 14
  pub half : n < 14 → weight ≡ 2 ^ (13 - n)
  pub light : weight ≤ 8192
  pub few : sum ≤ 73728 * n
  pub weighed : sum + weight_of (14 - n) (drop n ss) ≡ weight_of 14 ss

pub weighing_start : (ss : List ℕ) → Weighing ss 0 8192 0
weighing_start ss = record { within = omega arith; half = λ more. refl; light = omega arith; few = omega arith; weighed = rw sub-zero (omega arith) }

half_power : (m : ℕ) → 2 ^ suc m / 2 ≡ 2 ^ m
half_power m = omega (arith, pow-succ' 2 m)

pub weighing_turn : {ss : List ℕ} {sum weight n : ℕ} → Weighing ss sum weight n → ones_of ss ≡ 14 → n < 14
    → (one : ℕ) → one ≡ cond (eqb (get_or ss n 0 % 2) 1) (65536 + weight) 0 → one ≤ 65536 + weight → Weighing ss (sum + one) (weight / 2) (n + 1)
weighing_turn {ss} {sum} {weight} {n} w ones more one is light =
    let m = 13 - n in
    let next : 14 - n ≡ suc m = omega arith in
    let after : 14 - suc n ≡ m = omega arith in
    let s = get_or ss n 0 in
    let few : s < 2 = one_there ss n ones more in
    let digit : pack 2 (suc m) (drop n ss) ≡ s * 2 ^ m + pack 2 m (drop (suc n) ss) = pack-more 2 m ss n in
    let wide : width_of (take (suc m) (drop n ss)) ≡ s + width_of (take m (drop (suc n) ss)) = width-more m ss n (omega arith) in
    let before : sum + weight_of (suc m) (drop n ss) ≡ weight_of 14 ss = rw next at w.weighed in
    let step : sum + one + weight_of m (drop (suc n) ss) ≡ weight_of 14 ss =
    by_test (eqb (s % 2) 1)
    (λ e.
    let bit : s ≡ 1 = omega (arith, eqb-true (s % 2) 1 e) in
    let heavy : one ≡ 65536 + weight = is ∙ (rw e) in
    omega (arith, before, digit, wide, w.half more, ap (λ (k : ℕ). k * 2 ^ m) bit))
    (λ e.
    let none : s ≡ 0 = omega (arith, eqb-false (s % 2) 1 e) in
    let empty : one ≡ 0 = is ∙ (rw e) in
    omega (arith, before, digit, wide, ap (λ (k : ℕ). k * 2 ^ m) none)) in
    record {
      within = omega arith;
      half = λ again. rw (add-one n) (let k : 13 - n ≡ suc (13 - suc n) = omega arith in ap (λ (x : ℕ). x / 2) (w.half more ∙ ap (λ (j : ℕ). 2 ^ j) k) ∙ half_power (13 - suc n));
      light = omega (arith, w.light);
      few = omega (arith, w.few, w.light, light);
      weighed = rw (add-one n, after) step;
    }

pub weighing_over : {ss : List ℕ} {sum weight n : ℕ} → Weighing ss sum weight n → 14 ≤ n → sum ≡ weight_of 14 ss
unfolding pack width_of
weighing_over {ss} {sum} {weight} {n} w over =
    let none : 14 - n ≡ 0 = omega arith in
    let whole : sum + weight_of 0 (drop n ss) ≡ weight_of 14 ss = rw none at w.weighed in
    omega (arith, whole)

-- ---- what the weight settles

none-there : (n : ℕ) (ss : List ℕ) → n ≤ length ss → Below 2 (take n ss) → width_of (take n ss) ≡ 0 → n ≤ front (eqb 0) ss
unfolding width_of front
none-there zero ss long below none = omega arith
none-there (suc n) [] long below none = absurd (omega arith)
none-there (suc n) (s ∷ ss) long below none =
    let bytes = bytes-symbol s (omega (arith, below.0)) in
    rw (eq-eqb 0 s (omega arith)) (omega (arith, none-there n ss (omega arith) below.1 (omega arith)))

all_there : (n : ℕ) (ss : List ℕ) → n ≤ length ss → Below 2 (take n ss) → width_of (take n ss) ≡ n → n ≤ front (eqb 1) ss
unfolding width_of front
all_there zero ss long below all = omega arith
all_there (suc n) [] long below all = absurd (omega arith)
all_there (suc n) (s ∷ ss) long below all =
    let bytes = bytes-symbol s (omega (arith, below.0)) in
    let few : width_of (take n ss) ≤ n = omega (arith, width_le 1 (take n ss) below.1, length-take n ss) in
    rw (eq-eqb 1 s (omega (arith, below.0))) (omega (arith, all_there n ss (omega arith) below.1 (omega (arith, below.0))))

head_is : (k : ℕ) (ss : List ℕ) → zero < front (eqb k) ss → k ≡ get_or ss 0 0
unfolding front
head_is k [] some = absurd (omega arith)
head_is k (s ∷ ss) some = by_test (eqb k s) (λ e. eqb-true k s e) (λ e. absurd (let none : zero < 0 = rw e at some in omega arith))

module _ (ss : List ℕ) (ones : ones_of ss ≡ 14) (sum : ℕ) (is : sum ≡ weight_of 14 ss) where
  long : 14 ≤ length ss
  long = many ss ones

  below : Below 2 (take 14 ss)
  unfolding ones_of
  below = front-ones 14 ss (omega arith)

  light : width_of (take 14 ss) ≤ 14
  light = omega (arith, width_le 1 (take 14 ss) below, length-take 14 ss)

  digits : pack 2 14 ss < 16384
  digits = rw (pack-take 2 14 ss) (pack_lt 2 (omega arith) 14 (take 14 ss) below)

  width_is : sum / 65536 ≡ width_of (take 14 ss)
  width_is = omega (arith, digits)

  -- none or all received: all equal
  module _ (equal : sum / 65536 % 14 ≡ 0) where
    pub plain_alike : 14 ≤ front (eqb (sum / 65536 / 14)) ss
    plain_alike =
        by_test (leb (sum / 65536) 13)
        (λ e.
        let none : sum / 65536 ≡ 0 = omega (arith, leb-true (sum / 65536) 13 e) in
        let symbol : sum / 65536 / 14 ≡ 0 = omega arith in
        rw symbol (none-there 14 ss long below (sym width_is ∙ none)))
        (λ e.
        let all : sum / 65536 ≡ 14 = omega (arith, leb-false (sum / 65536) 13 e, width_is, light) in
        let symbol : sum / 65536 / 14 ≡ 1 = omega arith in
        rw symbol (all_there 14 ss long below (sym width_is ∙ all)))

    pub plain_known : sum / 65536 / 14 ≤ 1
    plain_known = omega (arith, width_is, light)

    pub plain-run : (r : ℕ) → r ≡ min longest_run (front (eqb (sum / 65536 / 14)) ss) → run_picked (sum / 65536 / 14) r ≡ picked (chunk_for ss)
    unfolding run_of ones_of
    plain-run r counts =
        let head = head_is (sum / 65536 / 14) ss (omega (arith, plain_alike)) in
        let run : r ≡ run_of ss = rw (← head) counts in
        picks_run ss r (ones_of ss) run refl (sum / 65536 / 14) (yes_run r (ones_of ss) (omega (arith, plain_alike)) (omega (arith, plain_alike))) head

  -- any other: a one-bit vector
  pub plain-one : (sum / 65536 % 14 ≡ 0 → ⊥) → ◌≡◌ {A = Picked} (record { chunk = runs_end + sum % 65536; count = 14; width = sum / 65536 }) (picked (chunk_for ss))
  unfolding vector_of run_of ones_of
  plain-one differ =
      let h = get_or ss 0 0 in
      let small : h < 2 = one_there ss 0 ones (omega arith) in
      let short : front (eqb h) ss < 14 =
      by_test (leb 14 (front (eqb h) ss))
      (λ e.
      let same = ap width_of (front-run h 14 ss (leb-true 14 (front (eqb h) ss) e)) ∙ width-run 14 h (omega arith) in
      absurd (differ (omega (arith, same, width_is))))
      (λ e. leb-false 14 (front (eqb h) ss) e) in
      let one : is_one (ones_of ss) (length ss) ≡ true = rw (eq-eqb (ones_of ss) 14 ones) in
      let chunk : runs_end + sum % 65536 ≡ runs_end + pack 2 14 ss = omega (arith, digits) in
      let count : 14 ≡ min 14 (length ss) = omega (arith, long) in
      let width = width_is in
      let vector : ◌≡◌ {A = Picked} (record { chunk = runs_end + sum % 65536; count = 14; width = sum / 65536 }) (vector_of 2 14 runs_end ss) = cc in
      vector ∙ picks_one ss (run_of ss) (ones_of ss) refl refl (fewer_run (run_of ss) (ones_of ss) (omega arith)) one
