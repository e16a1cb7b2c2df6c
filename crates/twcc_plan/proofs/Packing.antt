-- A loop that packs symbols into a vector and counts their delta bytes: what is done and what is left make the whole.
use Prim.Native.Nat.{ℕ, zero, suc, ◌+◌, ◌-◌, ◌*◌, ◌^◌, ◌≤◌, ◌<◌}
use mathlib.Core.Path.{◌≡◌, refl, sym, ap, ◌∙◌}
use mathlib.Core.List.{List, [], ◌∷◌}
use native.Mathlib.Numerals.{add-one}
use native.Mathlib.Nat.{pow-zero, sub-zero, mul-one, pow-suc, pow-succ', mul_assoc, add-mul, zero-mul, mul-le-mul_right, pow-le-pow_right}
use native.Mathlib.Omega.{arith}
use lib.ListN.{drop, get_or, take}
use Rattle.twcc.specs.Words.{width_of}
use Rattle.twcc.specs.Chunks.{pack}
use Rattle.twcc.proofs.Written.{bytes-symbol}
use Rattle.twcc_plan.specs.Picked.{Places}

pub record Packing (base places : ℕ) (ss : List ℕ) (digits width n : ℕ) : Type 0 where
  pub within : n ≤ places
  pub small : digits + 2 ≤ 2 * base ^ n
  pub light : width ≤ 2 * n
  pub packed : digits * base ^ (places - n) + pack base (places - n) (drop n ss) ≡ pack base places ss
  pub summed : width + width_of (take (places - n) (drop n ss)) ≡ width_of (take places ss)

pack_nil : (base m : ℕ) → pack base m [] ≡ 0
unfolding pack
pack_nil base zero = refl
pack_nil base (suc m) = refl

pub pack-more : (base m : ℕ) (ss : List ℕ) (n : ℕ) → pack base (suc m) (drop n ss) ≡ get_or ss n 0 * base ^ m + pack base m (drop (suc n) ss)
unfolding pack
pack-more base m [] zero = omega (arith, pack_nil base m, zero-mul (base ^ m))
pack-more base m [] (suc n) = omega (arith, pack_nil base m, zero-mul (base ^ m))
pack-more base m (s ∷ ss) zero = refl
pack-more base m (s ∷ ss) (suc n) = pack-more base m ss n

width-none : (m : ℕ) → width_of (take m []) ≡ 0
unfolding width_of
width-none zero = refl
width-none (suc m) = refl

pub width-more : (m : ℕ) (ss : List ℕ) (n : ℕ) → get_or ss n 0 ≤ 2 → width_of (take (suc m) (drop n ss)) ≡ get_or ss n 0 + width_of (take m (drop (suc n) ss))
unfolding width_of
width-more m [] zero known = omega (arith, width-none m)
width-more m [] (suc n) known = omega (arith, width-none m)
width-more m (s ∷ ss) zero known = ap (λ (k : ℕ). k + width_of (take m ss)) (bytes-symbol s (omega arith))
width-more m (s ∷ ss) (suc n) known = width-more m ss n known

module _ {base places top : ℕ} (fits : Places base places top) (ss : List ℕ) where
  pub packing_start : Packing base places ss 0 0 0
  packing_start =
      record {
        within = omega arith;
        small = rw pow-zero (omega arith);
        light = omega arith;
        packed = rw sub-zero (omega (arith, zero-mul (base ^ places)));
        summed = rw sub-zero (omega arith);
      }

  module _ {digits width n : ℕ} (p : Packing base places ss digits width n) where
    pub packing_fits : digits ≤ 32768
    packing_fits = let power = pow-le-pow_right {n = base} (omega (arith, fits.two)) p.within in omega (arith, p.small, power, fits.fourteen)

    module _ (more : n < places) where
      bound : digits * base + 2 * base ≤ 2 * base ^ suc n
      bound =
          let times : (digits + 2) * base ≤ 2 * base ^ n * base = mul-le-mul_right base p.small in
          rw (add-mul, mul_assoc, ← pow-suc) at times

      pub turn-fits : digits * base + 4 ≤ 32768
      turn-fits =
          let power = pow-le-pow_right {n = base} (omega (arith, fits.two)) more in
          omega (arith, bound, power, fits.fourteen, fits.two)

      pub packing_turn : (symbol : ℕ) → symbol ≡ get_or ss n 0 → symbol ≤ 2 → Packing base places ss (digits * base + symbol) (width + symbol) (n + 1)
      packing_turn symbol is known =
          let m = places - suc n in
          let one : places - n ≡ suc m = omega arith in
          let digit = pack-more base m ss n in
          let wide = width-more m ss n (omega arith) in
          let before : digits * base ^ suc m + pack base (suc m) (drop n ss) ≡ pack base places ss = rw one at p.packed in
          let shifted : digits * base ^ suc m ≡ digits * base * base ^ m = ap (λ (x : ℕ). digits * x) (pow-succ' base m) ∙ sym (mul_assoc digits base (base ^ m)) in
          let joined : (digits * base + get_or ss n 0) * base ^ m ≡ digits * base * base ^ m + get_or ss n 0 * base ^ m = add-mul (digits * base) (get_or ss n 0) (base ^ m) in
          let summed : width + width_of (take (suc m) (drop n ss)) ≡ width_of (take places ss) = rw one at p.summed in
          record {
            within = omega arith;
            small = rw (add-one n) (omega (arith, bound, fits.two));
            light = omega (arith, p.light);
            packed = rw (add-one n, is) (omega (arith, before, shifted, joined, digit));
            summed = rw (add-one n) (omega (arith, summed, wide, is));
          }

    pub packing_over : places ≤ n → (digits ≡ pack base places ss) × (width ≡ width_of (take places ss))
    unfolding pack width_of
    packing_over over =
        let none : places - n ≡ 0 = omega arith in
        let packed = rw (none, pow-zero, mul-one) at p.packed in
        let summed = rw none at p.summed in
        (omega (arith, packed), omega (arith, summed))
