-- A tick's milliseconds are a quarter of it exactly, in the logic's account of IEEE 754.
use Prim.Native.Nat.{ℕ, zero, suc, ◌+◌, ◌-◌, ◌*◌, ◌/◌, ◌%◌, ◌^◌, ◌≤◌, ◌<◌}
use mathlib.Core.Path.{◌≡◌, refl, sym, ap, ◌∙◌, subst}
use mathlib.Core.Bool.{Bool, true, false}
use native.Mathlib.Omega.{arith}
use native.Mathlib.Nat.{mul_assoc, mul_right_comm, eq_of_mul-eq-mul_right}
use borrow.Author.Tests.{lt-leb, le-leb, ne_eqb}
use lib.Dec.{leb, eqb}
use lib.IntN.{ℤ, pos, negsuc, nat_abs}
use lib.Pow.{pow-add, pow_pos}
use lib.Ieee.{Float, nan, inf, fin, binary64, up, down, odd, of_fields, of_bits}
use lib.Ieee.Exact.{HasValue, odd_sign}
use Rattle.arrival.specs.Cursor.{exact_end}
use Rattle.arrival.specs.Overlay.{exponent_weight, sign_weight, leading, quarters, milliseconds}
use Rattle.arrival.proofs.Quarters.{digits, quarters_by}

-- the sign
abbrev pub below : ℤ → Bool
below (pos m) = false
below (negsuc k) = true

abbrev signed : Bool → ℕ → ℕ
signed false n = n
signed true n = sign_weight + n

-- the fields of a pattern: sign, exponent and digits
fields_of : (s : Bool) (n e y : ℕ) → e < 2046 → exponent_weight ≤ y
    → leb sign_weight n ≡ s → n % sign_weight / exponent_weight ≡ suc e → n % exponent_weight ≡ y - exponent_weight → of_bits binary64 n ≡ odd 53 s y e 1074
unfolding of_bits of_fields
fields_of s n e y short low sign exponent rest =
    let finite : eqb (suc e) 2047 ≡ false = ne_eqb (suc e) 2047 (λ same. omega arith) in
    let whole : exponent_weight + (y - exponent_weight) ≡ y = omega arith in
    simp (sign, exponent, rest, finite, whole)

fields : (s : Bool) (e y : ℕ) → e < 2046 → exponent_weight ≤ y → y < exact_end
    → of_bits binary64 (signed s (suc e * exponent_weight + (y - exponent_weight))) ≡ odd 53 s y e 1074
fields false e y short low high =
    let n = suc e * exponent_weight + (y - exponent_weight) in
    fields_of false n e y short low (lt-leb sign_weight n (omega arith)) (omega arith) (omega arith)
fields true e y short low high =
    let n = sign_weight + (suc e * exponent_weight + (y - exponent_weight)) in
    fields_of true n e y short low (le-leb sign_weight n (omega arith)) (omega arith) (omega arith)

-- a common factor goes
scaled : (x : Float) (s : Bool) (a c t : ℕ) → 0 < t → HasValue x s (a * t) (c * t) → HasValue x s a c
scaled nan s a c t some is = is
scaled (inf b) s a c t some is = is
scaled (fin b m e) s a c t some is = (is.0, eq_of_mul-eq-mul_right t some _ _ (mul_assoc (m * up e) c t ∙ is.1 ∙ mul_right_comm a t (down e)))

-- m / 4 exactly, with the sign
quarter : (s : Bool) (m : ℕ) → 0 < m → m < exact_end → HasValue (of_bits binary64 (signed s (quarters m))) s m 4
quarter s m some small =
    let d = digits m some small in
    let l = leading m in
    let y = m * 2 ^ (52 - l) in
    let e = 1020 + l in
    let is : of_bits binary64 (signed s (quarters m)) ≡ odd 53 s y e 1074
    = ap (λ (n : ℕ). of_bits binary64 (signed s n)) (quarters_by m some small) ∙ fields s e y (let f = d.leads in omega arith) d.low d.high in
    let all : (52 - l) + e ≡ 1072 = let f = d.leads in omega arith in
    let moved : y * 2 ^ e ≡ m * 2 ^ 1072 = mul_assoc m (2 ^ (52 - l)) (2 ^ e) ∙ ap (λ (n : ℕ). m * n) (sym (pow-add 2 (52 - l) e) ∙ ap (λ (n : ℕ). 2 ^ n) all) in
    let value : HasValue (odd 53 s y e 1074) s (m * 2 ^ 1072) (4 * 2 ^ 1072) = subst (λ (a : ℕ). HasValue (odd 53 s y e 1074) s a (2 ^ 1074)) moved (odd_sign 53 s y e 1074) in
    subst (λ (x : Float). HasValue x s m 4) (sym is) (scaled (odd 53 s y e 1074) s m 4 (2 ^ 1072) (pow_pos 1072) value)

-- a tick's milliseconds are a quarter of it exactly
pub milliseconds-exact : (t : ℤ) → nat_abs t < exact_end → HasValue (milliseconds t) (below t) (nat_abs t) 4
unfolding quarters of_bits of_fields odd
milliseconds-exact (pos zero) small = (refl, refl)
milliseconds-exact (pos (suc n)) small = quarter false (suc n) (omega arith) small
milliseconds-exact (negsuc k) small = quarter true (suc k) (omega arith) small
