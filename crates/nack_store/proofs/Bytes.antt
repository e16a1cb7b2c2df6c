-- A store's bytes and its bits.
use Prim.Native.Nat.{ℕ, zero, suc, ◌+◌, ◌*◌, ◌/◌, ◌%◌, ◌^◌, ◌<◌, ◌≤◌}
use mathlib.Core.Path.{◌≡◌, ◌∙◌}
use mathlib.Core.List.{List}
use native.Mathlib.Omega.{arith}
use native.Mathlib.Nat.{mod-eq_of_lt, zero-div, pow-succ', pow-zero, div-one, div-div-eq-div-mul, mul_left_comm, mul-one}
use lib.ListN.{length, get_or, get_or-eq_default}
use Rattle.nack_store.specs.Bits.{bit_of, with_bit, window}
use Rattle.nack_store.specs.Sets.{BitsBelow}
use Rattle.nack_store.proofs.Sets.{window_digits}

pub within : (s : List ℕ) → BitsBelow (bit_of s) (8 * length s)
within s = record {
  bit = λ n. omega arith;
  out = λ n past. let none : length s ≤ n / 8 = omega arith in rw (get_or-eq_default s 0 none, zero-div);
}

-- bit i of byte q
pub bit_in : (s : List ℕ) (q i : ℕ) → i < 8 → bit_of s (8 * q + i) ≡ get_or s q 0 / 2 ^ i % 2
bit_in s q i h =
    let byte : (8 * q + i) / 8 ≡ q = omega arith in
    let place : (8 * q + i) % 8 ≡ i = omega arith in
    rw (byte, place)

-- a byte is its eight bits
pub window-byte : (s : List ℕ) (q : ℕ) → get_or s q 0 < 256 → window (bit_of s) (8 * q) 8 ≡ get_or s q 0
window-byte s q small = window_digits (bit_of s) (8 * q) 8 (get_or s q 0) (λ i l. bit_in s q i l) ∙ mod-eq_of_lt small

-- digits by halving
pub halve : (b j : ℕ) → b / 2 ^ suc j % 2 ≡ b / 2 / 2 ^ j % 2
halve b j = rw (pow-succ', ← div-div-eq-div-mul)

-- what a digit is worth
pub digit_le : (b r : ℕ) → (b / 2 ^ r % 2) * 2 ^ r ≤ b
digit_le b zero = rw (pow-zero, div-one, mul-one) (omega arith)
digit_le b (suc r) =
    let twice : (b / 2 / 2 ^ r % 2) * (2 * 2 ^ r) ≡ 2 * ((b / 2 / 2 ^ r % 2) * 2 ^ r) = mul_left_comm _ _ _ in
    rw (halve, pow-succ', twice) (omega (arith, digit_le (b / 2) r))

pub with_suc : (b r bit : ℕ) → with_bit b (suc r) bit ≡ b % 2 + 2 * with_bit (b / 2) r bit
with_suc b r bit =
    let old : (b / 2 / 2 ^ r % 2) * (2 * 2 ^ r) ≡ 2 * ((b / 2 / 2 ^ r % 2) * 2 ^ r) = mul_left_comm _ _ _ in
    let new : bit * (2 * 2 ^ r) ≡ 2 * (bit * 2 ^ r) = mul_left_comm _ _ _ in
    rw (halve, pow-succ', old, new) (omega (arith, digit_le (b / 2) r))

pub with_zero : (b bit : ℕ) → with_bit b 0 bit ≡ b / 2 * 2 + bit
with_zero b bit = rw (pow-zero, div-one, mul-one, mul-one) (omega arith)
