-- Looking at a store: sixteen bits at once, and the next number from a place on.
use Prim.Native.Nat.{ℕ, ◌+◌, ◌*◌, ◌-◌, ◌/◌, ◌%◌, ◌^◌, ◌<◌, ◌≤◌}
use mathlib.Core.Path.{◌≡◌, ◌∙◌}
use mathlib.Core.List.{List}
use native.Mathlib.Omega.{arith}
use native.Mathlib.Nat.{zero-div, div-le_self, div-div-eq-div-mul}
use lib.Pow.{pow-add}
use lib.Count.{count_trailing_zeros}
use mir.Syntax.{w8}
use Rattle.std.proofs.lemmas.Nat.Bits.{bit_at-trailing_zeros, bit_at_above}
use lib.ListN.{length, get_or}
use Rattle.nack_store.specs.Bits.{bit_of, members, window}
use Rattle.nack_store.proofs.Sets.{by_le, left_none, left_skip_all, window-append, window_shr, window-low}
use Rattle.nack_store.proofs.Bytes.{within, bit_in, window-byte}
use Rattle.nack_write.specs.Promise.{IsFirst}

-- three bytes are twenty-four bits
window_three : (s : List ℕ) (at a b c : ℕ) → (a ≡ get_or s at 0) × (a < 256) → (b ≡ get_or s (at + 1) 0) × (b < 256) → (c ≡ get_or s (at + 2) 0) × (c < 256)
    → a + 256 * b + 65536 * c ≡ window (bit_of s) (8 * at) 24
window_three s at a b c first second third =
    let next : 8 * at + 8 ≡ 8 * (at + 1) = omega arith in
    let last : 8 * (at + 1) + 8 ≡ 8 * (at + 2) = omega arith in
    let front : window (bit_of s) (8 * at) 24 ≡ get_or s at 0 + 256 * window (bit_of s) (8 * (at + 1)) 16 =
    window-append (bit_of s) (8 * at) 8 16 ∙ rw (next, window-byte s at (omega arith)) in
    let rest : window (bit_of s) (8 * (at + 1)) 16 ≡ get_or s (at + 1) 0 + 256 * get_or s (at + 2) 0 =
    window-append (bit_of s) (8 * (at + 1)) 8 8 ∙ rw (last, window-byte s (at + 1) (omega arith), window-byte s (at + 2) (omega arith)) in
    omega arith

window_cut : (s : List ℕ) (first bits : ℕ) → bits ≡ window (bit_of s) (8 * (first / 8)) 24 → bits / 2 ^ (first % 8) % 65536 ≡ window (bit_of s) first 16
window_cut s first bits all =
    let parts : 24 ≡ first % 8 + (16 + (8 - first % 8)) = omega arith in
    let place : 8 * (first / 8) + first % 8 ≡ first = omega arith in
    rw (all, parts, window_shr (bit_of s) (8 * (first / 8)) (first % 8) (16 + (8 - first % 8)) (8 * length s) (within s), place)
    (window-low (bit_of s) first 16 (8 - first % 8) (8 * length s) (within s))

pub window_of_three : (s : List ℕ) (first a b c : ℕ) → (a ≡ get_or s (first / 8) 0) × (a < 256) → (b ≡ get_or s (first / 8 + 1) 0) × (b < 256) → (c ≡ get_or s (first / 8 + 2) 0) × (c < 256)
    → (a + 256 * b + 65536 * c) / 2 ^ (first % 8) % 65536 ≡ window (bit_of s) first 16
window_of_three s first a b c x y z = window_cut s first (a + 256 * b + 65536 * c) (window_three s (first / 8) a b c x y z)

-- what is left of a number's byte holds the bits from there on
module _ (s : List ℕ) (n byte : ℕ) (read : byte ≡ get_or s (n / 8) 0) where
  bit_left : (i : ℕ) → n % 8 + i < 8 → bit_of s (n + i) ≡ byte / 2 ^ (n % 8) / 2 ^ i % 2
  bit_left i inside =
      let place : n + i ≡ 8 * (n / 8) + (n % 8 + i) = omega arith in
      rw (place, bit_in s (n / 8) (n % 8 + i) inside, read, pow-add, ← div-div-eq-div-mul)

  -- with none of them it is passed whole
  pub passed : byte / 2 ^ (n % 8) ≡ 0 → members (bit_of s) n (8 * length s - n) ≡ members (bit_of s) (8 * (n / 8 + 1)) (8 * length s - 8 * (n / 8 + 1))
  passed none =
      let next : n + (8 - n % 8) ≡ 8 * (n / 8 + 1) = omega arith in
      rw next at (left_skip_all (bit_of s) n (8 - n % 8) (8 * length s) (λ i l. bit_left i (omega arith) ∙ rw (none, zero-div)))

  -- the lowest is the first
  pub found : (byte / 2 ^ (n % 8) ≡ 0 → ⊥) → byte < 256 → n / 8 < length s → length s ≡ 8192 → IsFirst s n (n + count_trailing_zeros 8 (byte / 2 ^ (n % 8)))
  found some small more size =
      let left = byte / 2 ^ (n % 8) in
      let bits = count_trailing_zeros 8 (byte / 2 ^ (n % 8)) in
      let less : byte / 2 ^ (n % 8) ≤ byte = div-le_self _ _ in
      let lowest = bit_at-trailing_zeros w8 left (omega arith) (omega arith) in
      let bit : byte / 2 ^ (n % 8 + bits) % 2 ≡ 1 = rw (pow-add, ← div-div-eq-div-mul) lowest.1 in
      let inside : n % 8 + bits < 8 = by_le 8 (n % 8 + bits) (λ past. absurd (omega (arith, bit, bit_at_above byte 8 _ small past))) (λ h. h) in
      record {
        up = omega arith;
        below = omega arith;
        small = omega arith;
        same = left_skip_all (bit_of s) n bits (8 * length s) (λ i l. bit_left i (omega arith) ∙ lowest.2 i l);
        there = bit_left bits inside ∙ lowest.1;
      }

-- the same of a whole byte
module _ (s : List ℕ) (at : ℕ) where
  pub passed_byte : get_or s at 0 ≡ 0 → members (bit_of s) (8 * at) (8 * length s - 8 * at) ≡ members (bit_of s) (8 * (at + 1)) (8 * length s - 8 * (at + 1))
  passed_byte none =
      let next : 8 * at + 8 ≡ 8 * (at + 1) = omega arith in
      rw next at (left_skip_all (bit_of s) (8 * at) 8 (8 * length s) (λ i l. bit_in s at i l ∙ rw (none, zero-div)))

  pub found_byte : (first : ℕ) → (get_or s at 0 ≡ 0 → ⊥) → get_or s at 0 < 256 → at < length s → length s ≡ 8192 → first ≤ 8 * at
      → members (bit_of s) first (8 * length s - first) ≡ members (bit_of s) (8 * at) (8 * length s - 8 * at) → IsFirst s first (8 * at + count_trailing_zeros 8 (get_or s at 0))
  found_byte first some small more size up same =
      let lowest = bit_at-trailing_zeros w8 (get_or s at 0) (omega arith) small in
      record {
        up = omega arith;
        below = omega (arith, lowest.0);
        small = omega (arith, lowest.0);
        same = same ∙ left_skip_all (bit_of s) (8 * at) (count_trailing_zeros 8 (get_or s at 0)) (8 * length s) (λ i l. bit_in s at i (omega (arith, lowest.0)) ∙ lowest.2 i l);
        there = bit_in s at (count_trailing_zeros 8 (get_or s at 0)) lowest.0 ∙ lowest.1;
      }

pub ruleset scan_steps = (passed, passed_byte, found_byte, left_none)
