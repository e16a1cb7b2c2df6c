-- A quarter of a whole number as a float: where its digits stand, that it is no NaN, and that it keeps the bits that it was made of.
use Prim.Native.Nat.{ℕ, zero, suc, ◌+◌, ◌-◌, ◌*◌, ◌%◌, ◌^◌, ◌≤◌, ◌<◌}
use mathlib.Core.Path.{◌≡◌, refl, sym, ap, ◌∙◌, subst}
use mathlib.Core.Bool.{Bool, true, false, cond, not}
use native.Mathlib.Omega.{arith}
use native.Mathlib.Nat.{le_trans, le_of_eq, lt_irrefl, lt_of_lt_of_le, mul-le-mul_right}
use Rattle.octets.proofs.Logic.{by_test}
use borrow.Author.Tests.{ltb-true, leb-true, leb-false, le-ltb}
use lib.Count.{count_leading_zeros, leading_top}
use lib.Dec.{T, leb}
use lib.IntN.{ℤ, pos, negsuc, nat_abs}
use lib.Pow.{pow-add, pow_mono, shl_lt}
use lib.Ieee.{binary64, of_bits, to_bits, nan_bits, is_nan}
use lib.Ieee.Bits.{nan_bits_above, nan_bits_is, to_bits-of_bits}
use Rattle.arrival.specs.Cursor.{exact_end, exact}
use Rattle.arrival.specs.Overlay.{exponent_weight, sign_weight, infinity, leading, quarters, millisecond_bits, milliseconds, Overlay, shown_at, shown_of, shown_bits}
use Rattle.kinds.specs.declared.Tick.{Tick}
use Rattle.arrival.specs.declared.Arrival.{Arrival}
use Rattle.arrival.specs.declared.Arrival.TheVariants.{Missing, Unreadable, Unplaced, At}

-- ---- the digits

-- a number of at most 53 binary digits, moved up until it has all 53
pub record Digits (m : ℕ) : Type 0 where
  pub leads : leading m ≤ 52
  pub counted : count_leading_zeros 64 m ≤ 63
  pub low : exponent_weight ≤ m * 2 ^ (52 - leading m)
  pub high : m * 2 ^ (52 - leading m) < exact_end

-- its leading digit stands at 52 at most
within : (m j : ℕ) → m < exact_end → 2 ^ j ≤ m → j ≤ 52
within m j small least = by_test (leb j 52) (λ e. leb-true j 52 e) (λ e. absurd (lt_irrefl m (lt_of_lt_of_le small (le_trans (pow_mono (leb-false j 52 e)) least))))

pub digits : (m : ℕ) → 0 < m → m < exact_end → Digits m
digits m some small = let top = leading_top 64 m some (omega arith) in go top.0 top.1 top.2 top.3
  where
    go : (j : ℕ) → count_leading_zeros 64 m + suc j ≡ 64 → 2 ^ j ≤ m → m < 2 ^ suc j → Digits m
    go j count least most =
        let is : leading m ≡ j = omega arith in
        let short : j ≤ 52 = within m j small least in
        let full : j + (52 - j) ≡ 52 = omega arith in
        let more : suc j + (52 - j) ≡ 53 = omega arith in
        let low : 2 ^ 52 ≤ m * 2 ^ (52 - j) = subst (λ (x : ℕ). 2 ^ x ≤ m * 2 ^ (52 - j)) full (le_trans (le_of_eq (pow-add 2 j (52 - j))) (mul-le-mul_right (2 ^ (52 - j)) least)) in
        let high : m * 2 ^ (52 - j) < 2 ^ 53 = subst (λ (x : ℕ). m * 2 ^ (52 - j) < 2 ^ x) more (shl_lt {a = m} (suc j) (52 - j) most) in
        record { leads = rw is short; counted = omega arith; low = rw is low; high = rw is high }

pub quarters_by : (m : ℕ) → 0 < m → m < exact_end → quarters m ≡ suc (1020 + leading m) * exponent_weight + (m * 2 ^ (52 - leading m) - exponent_weight)
unfolding quarters
quarters_by zero some small = absurd (omega arith)
quarters_by (suc n) some small = omega arith

pub quarters-small : (m : ℕ) → m < exact_end → quarters m < infinity
unfolding quarters
quarters-small zero small = omega arith
quarters-small (suc n) small = let d = digits (suc n) (omega arith) small in omega (arith, d.leads, d.low, d.high)

-- ---- the float

-- neither sign makes a NaN of it
pub plain : (n : ℕ) → n < infinity → nan_bits binary64 n ≡ false
plain n small = nan_bits_above binary64 n ∙ le-ltb infinity (n % sign_weight) (omega arith)

pub minus : (n : ℕ) → n < infinity → nan_bits binary64 (sign_weight + n) ≡ false
minus n small = nan_bits_above binary64 (sign_weight + n) ∙ le-ltb infinity ((sign_weight + n) % sign_weight) (omega arith)

-- a tick's milliseconds, by their bits
pub record Float64 (t : ℤ) : Type 0 where
  pub number : nan_bits binary64 (millisecond_bits t) ≡ false
  pub back : to_bits binary64 (milliseconds t) ≡ millisecond_bits t

float_by : (n : ℕ) → n < 18446744073709551616 → nan_bits binary64 n ≡ false → to_bits binary64 (of_bits binary64 n) ≡ n
float_by n small number = to_bits-of_bits binary64 n small (subst (λ (b : Bool). T (not b)) (sym number ∙ nan_bits_is binary64 n) tt)

pub float : (t : ℤ) → nat_abs t < exact_end → Float64 t
float (pos m) small =
    let less = quarters-small m small in
    record { number = plain (quarters m) less; back = float_by (quarters m) (omega arith) (plain (quarters m) less) }
float (negsuc k) small =
    let less = quarters-small (suc k) small in
    record { number = minus (quarters (suc k)) less; back = float_by (sign_weight + quarters (suc k)) (omega arith) (minus (quarters (suc k)) less) }

-- what is shown has the bits that are promised, and is no NaN
abbrev pub Shows : Arrival Tick → Overlay → Type 0
Shows a Missing = shown_bits a ≡ 0
Shows a Unreadable = shown_bits a ≡ 0
Shows a Unplaced = shown_bits a ≡ 0
Shows a (At x) = T (not (is_nan x)) × (to_bits binary64 x ≡ shown_bits a)

pub shows : (a : Arrival Tick) → Shows a (shown_of a)
unfolding shown_of shown_bits
shows Missing = refl
shows Unreadable = refl
shows Unplaced = refl
shows (At tick) = by_test (exact tick.0) near (λ far. rw far (ap (λ (b : Bool). cond b (millisecond_bits tick.0) 0) far))
  where
    near : exact tick.0 ≡ true → Shows (At tick) (shown_at tick.0)
    near small =
        let f = float tick.0 (ltb-true (nat_abs tick.0) exact_end small) in
        let number : T (not (is_nan (milliseconds tick.0))) = subst (λ (b : Bool). T (not b)) (sym f.number ∙ nan_bits_is binary64 (millisecond_bits tick.0)) tt in
        rw small (number, f.back ∙ sym (ap (λ (b : Bool). cond b (millisecond_bits tick.0) 0) small))
