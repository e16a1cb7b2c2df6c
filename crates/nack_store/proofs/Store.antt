-- Adding and removing replace one bit of a store, and nothing else of it.
use Prim.Native.Nat.{ℕ, zero, suc, ◌+◌, ◌*◌, ◌/◌, ◌-◌, ◌%◌, ◌^◌, ◌<◌}
use mathlib.Core.Path.{◌≡◌, refl, sym, ap, ◌∙◌}
use mathlib.Core.Logic.{by_cases}
use mathlib.Core.List.{List, ◌∷◌}
use native.Mathlib.Omega.{arith}
use native.Mathlib.Decide.{ℕ_discrete}
use native.Mathlib.Nat.{pow-zero, div-one}
use lib.Bits.{bit_and}
use mir.Syntax.{w8}
use Rattle.std.specs.Int.Bits.{bit_or}
use Rattle.std.proofs.lemmas.Nat.{and_le_l}
use Rattle.std.proofs.lemmas.Nat.Bits.{same_from_bits, same_from_bits_below, bit_at_set_same, bit_at_set_other, bit_at_clear_same, bit_at_clear_other}
use lib.ListN.{length, get_or, length-set, replicate}
use lib.Seq.{get_or-set_same, get_or-set_other}
use Rattle.lent.specs.Bytes.{zero_bytes}
use Rattle.nack_store.specs.Bits.{with_bit, changed_bit, added, removed}
use Rattle.nack_store.specs.Sets.{OneBit}
use Rattle.nack_store.proofs.Bytes.{halve, digit_le, with_suc, with_zero}

with_same : (b r bit : ℕ) → bit < 2 → with_bit b r bit / 2 ^ r % 2 ≡ bit
with_same b zero bit two = rw (with_zero, pow-zero, div-one) (omega arith)
with_same b (suc r) bit two =
    let rest : (b % 2 + 2 * with_bit (b / 2) r bit) / 2 ≡ with_bit (b / 2) r bit = omega arith in
    rw (with_suc, halve, rest) (with_same (b / 2) r bit two)

with_other : (b r bit j : ℕ) → bit < 2 → (j ≡ r → ⊥) → with_bit b r bit / 2 ^ j % 2 ≡ b / 2 ^ j % 2
with_other b zero bit zero two other = absurd (other refl)
with_other b zero bit (suc j) two other =
    let rest : (b / 2 * 2 + bit) / 2 ≡ b / 2 = omega arith in
    rw (with_zero, halve, rest, halve)
with_other b (suc r) bit zero two other = rw (with_suc, pow-zero, div-one, div-one) (omega arith)
with_other b (suc r) bit (suc j) two other =
    let rest : (b % 2 + 2 * with_bit (b / 2) r bit) / 2 ≡ with_bit (b / 2) r bit = omega arith in
    rw (with_suc, halve, rest, halve) (with_other (b / 2) r bit j two (λ e. other (ap suc e)))

-- a bit that is set
pub set_with : (b r : ℕ) → r < 8 → bit_or b (1 * 2 ^ r % 256) ≡ with_bit b r 1
set_with b r place = same_from_bits _ _ (λ i. by_cases (ℕ_discrete i r)
    (λ e. rw e (bit_at_set_same w8 b r place ∙ sym (with_same b r 1 (omega arith))))
    (λ other. bit_at_set_other w8 b r place i other ∙ sym (with_other b r 1 i (omega arith) other)))

-- a bit that is cleared
pub clear_with : (b r : ℕ) → b < 256 → r < 8 → bit_and b (255 - 1 * 2 ^ r % 256) ≡ with_bit b r 0
clear_with b r byte place =
    same_from_bits_below 8 _ _ (omega (arith, and_le_l b (255 - 1 * 2 ^ r % 256))) (omega (arith, digit_le b r)) (λ i below. by_cases (ℕ_discrete i r)
    (λ e. rw e (bit_at_clear_same w8 b r place ∙ sym (with_same b r 0 (omega arith))))
    (λ other. bit_at_clear_other w8 b r place i below other ∙ sym (with_other b r 0 i (omega arith) other)))

changed_one : (s : List ℕ) (n bit : ℕ) → n < 8 * length s → bit < 2 → OneBit s n bit (changed_bit s n bit)
changed_one s n bit below two =
    let byte = with_bit (get_or s (n / 8) 0) (n % 8) bit in
    let there = get_or-set_same s (n / 8) (with_bit (get_or s (n / 8) 0) (n % 8) bit) 0 (omega arith) in
    let bytes : (i : ℕ) → (i ≡ n / 8 → ⊥) → get_or (changed_bit s n bit) i 0 ≡ get_or s i 0 =
    (λ i other. get_or-set_other s (n / 8) i (with_bit (get_or s (n / 8) 0) (n % 8) bit) 0 other) in
    record {
      size = length-set s (n / 8) byte;
      this = rw there (with_same (get_or s (n / 8) 0) (n % 8) bit two);
      others = λ m other. by_cases (ℕ_discrete (m / 8) (n / 8))
          (λ e.
          let place : m % 8 ≡ n % 8 → ⊥ = (λ q. other (omega arith)) in
          rw (e, there) (with_other (get_or s (n / 8) 0) (n % 8) bit (m % 8) two place))
          (λ e. rw (bytes (m / 8) e));
      bytes = bytes;
    }

pub added-one : (s : List ℕ) (n : ℕ) → n < 8 * length s → OneBit s n 1 (added s n)
added-one s n below = changed_one s n 1 below (omega arith)

pub removed-one : (s : List ℕ) (n : ℕ) → n < 8 * length s → OneBit s n 0 (removed s n)
removed-one s n below = changed_one s n 0 below (omega arith)

-- zeros one after the other
pub replicate_zero : (n : ℕ) → replicate n 0 ≡ zero_bytes n
unfolding zero_bytes
replicate_zero zero = refl
replicate_zero (suc n) = ap (λ (l : List ℕ). 0 ∷ l) (replicate_zero n)
