-- A tick divided by four, as the machine divides floats, is the float that is promised: both are a quarter of it exactly, and a value is
-- written in one way.
use Prim.Native.Nat.{ℕ, suc, ◌+◌, ◌*◌, ◌^◌, ◌≤◌, ◌<◌}
use mathlib.Core.Path.{◌≡◌, refl, sym, ap, ◌∙◌, subst}
use mathlib.Core.Bool.{Bool, true, false}
use native.Mathlib.Omega.{arith}
use native.Mathlib.Nat.{mul_assoc, mul_comm, mul_right_comm, lt_of_lt_of_le, eq_of_mul-eq-mul_right}
use lib.Dec.{T}
use lib.IntN.{ℤ, pos, negsuc, nat_abs}
use lib.Pow.{pow-add, pow_mono, shl_lt}
use lib.Ieee.{Float, nan, inf, fin, Format, binary64, low, up, down, unlike, round, div, of_int, of_bits, to_bits, fits}
use lib.Ieee.Back.{round_whole}
use lib.Ieee.Bits.{of_bits-to_bits, of_bits-fits}
use lib.Ieee.Exact.{HasValue, round_exact}
use lib.Ieee.Fits.{div-fits, down_pos}
use lib.Ieee.Nearest.{div_same}
use lib.Ieee.Scale.{round_same}
use mir.Syntax.{w64}
use mir.Val.{SFits, to_z, of_z}
use mir.ValLaws.{to_z-of_z}
use Rattle.arrival.specs.Cursor.{exact_end}
use Rattle.arrival.specs.Overlay.{millisecond_bits}
use Rattle.arrival.proofs.Value.{below, milliseconds-exact}

-- ---- a value is written in one way

crossed : (x y c a dx dy : ℕ) → 0 < c → x * c ≡ a * dx → y * c ≡ a * dy → x * dy ≡ y * dx
crossed x y c a dx dy some v w =
    eq_of_mul-eq-mul_right c some (x * dy) (y * dx)
    (mul_right_comm x dy c ∙ ap (λ (n : ℕ). n * dy) v ∙ mul_right_comm a dx dy ∙ ap (λ (n : ℕ). n * dx) (sym w) ∙ mul_right_comm y c dx)

-- a value's bits come from its size and sign alone
same_bits : (f : Format) (x y : Float) (s : Bool) (a c : ℕ) → 0 < c → HasValue x s a c → HasValue y s a c → to_bits f x ≡ to_bits f y
unfolding to_bits
same_bits f (fin t m e) (fin u n g) s a c some v w =
    let l = 2 ^ low f in
    let cross = crossed (m * up e) (n * up g) c a (down e) (down g) some v.1 w.1 in
    let scaled : m * up e * l * down g ≡ n * up g * l * down e =
    mul_right_comm (m * up e) l (down g) ∙ ap (λ (z : ℕ). z * l) cross ∙ mul_right_comm (n * up g) (down e) l in
    let size = div_same (m * up e * l) (down e) (n * up g * l) (down g) (down_pos e) (down_pos g) scaled in
    rw (v.0, w.0, size) refl
same_bits f nan y s a c some v w = elim v [ ]
same_bits f (inf t) y s a c some v w = elim v [ ]
same_bits f (fin t m e) nan s a c some v w = elim w [ ]
same_bits f (fin t m e) (inf u) s a c some v w = elim w [ ]

same_value : (f : Format) (x y : Float) (s : Bool) (a c : ℕ) → 0 < c → T (fits f x) → T (fits f y) → HasValue x s a c → HasValue y s a c → x ≡ y
same_value f x y s a c some p q v w = sym (of_bits-to_bits f x p) ∙ ap (of_bits f) (same_bits f x y s a c some v w) ∙ of_bits-to_bits f y q

-- ---- the machine's quotient

abbrev four : Float
four = of_bits binary64 4616189618054758400

four_is : four ≡ fin false 1 (pos 2)
unfolding of_bits
four_is = refl

rounded : (s : Bool) (m : ℕ) → m < exact_end → HasValue (round binary64 s m 4) s m 4
rounded s m small =
    let fine : 53 + 1072 ≤ 1074 + 1024 = omega arith in
    round_exact binary64 s m 4 m 1072 (omega arith) small (lt_of_lt_of_le (shl_lt 53 1072 small) (pow_mono fine))
    (sym (mul_assoc m (2 ^ 1072) 4 ∙ ap (λ (n : ℕ). m * n) (sym (pow-add 2 1072 2))))

divided : (x : Float) (s : Bool) (m : ℕ) → HasValue x s m 1 → div binary64 x (fin false 1 (pos 2)) ≡ round binary64 s m 4
unfolding div
divided (fin t q e) s m v =
    let some : 0 < 4 * down e = let p = down_pos e in omega arith in
    let same : q * up e * 1 * 4 ≡ m * (4 * down e) = ap (λ (n : ℕ). n * 4) v.1 ∙ mul_assoc m (down e) 4 ∙ ap (λ (n : ℕ). m * n) (mul_comm (down e) 4) in
    signed t some same ∙ ap (λ (b : Bool). round binary64 b m 4) v.0
  where
    signed : (b : Bool) → 0 < 4 * down e → q * up e * 1 * 4 ≡ m * (4 * down e)
        → round binary64 (unlike b false) (q * up e * 1) (1 * 4 * down e) ≡ round binary64 b m 4
    signed true some same = round_same binary64 true (q * up e * 1) (4 * down e) m 4 some (omega arith) same
    signed false some same = round_same binary64 false (q * up e * 1) (4 * down e) m 4 some (omega arith) same
divided nan s m v = elim v [ ]
divided (inf t) s m v = elim v [ ]

whole : (t : ℤ) → nat_abs t < exact_end → HasValue (of_int binary64 t) (below t) (nat_abs t) 1
unfolding of_int
whole (pos m) small = round_whole binary64 false m (omega arith)
whole (negsuc k) small = round_whole binary64 true (suc k) (omega arith)

quarter_is : (t : ℤ) → nat_abs t < exact_end → div binary64 (of_int binary64 t) four ≡ of_bits binary64 (millisecond_bits t)
quarter_is t small =
    let x = div binary64 (of_int binary64 t) four in
    let is : x ≡ round binary64 (below t) (nat_abs t) 4 = ap (div binary64 (of_int binary64 t)) four_is ∙ divided (of_int binary64 t) (below t) (nat_abs t) (whole t small) in
    same_value binary64 x (of_bits binary64 (millisecond_bits t)) (below t) (nat_abs t) 4 (omega arith) (div-fits binary64 (of_int binary64 t) four) (of_bits-fits binary64 (millisecond_bits t))
    (subst (λ (z : Float). HasValue z (below t) (nat_abs t) 4) (sym is) (rounded (below t) (nat_abs t) small))
    (milliseconds-exact t small)

-- the same of a tick that the machine reads back
pub quarter_read : (t : ℤ) → SFits w64 t → nat_abs t < exact_end
    → of_bits binary64 (millisecond_bits t) ≡ div binary64 (of_int binary64 (to_z w64 (of_z w64 t))) four
quarter_read t fits small = rw (to_z-of_z w64 t fits) (sym (quarter_is t small))
