-- What a mask names: how many, which comes first, and what one bit more adds.
use Prim.Native.Nat.{ℕ, zero, suc, ◌+◌, ◌-◌, ◌/◌, ◌%◌, ◌^◌, ◌<◌, ◌≤◌}
use mathlib.Core.Path.{◌≡◌, refl, ap, ◌∙◌}
use mathlib.Core.List.{List, [], ◌∷◌, ◌++◌}
use native.Mathlib.Omega.{arith}
use native.Mathlib.Nat.{add-zero, pow-suc, pow-zero}
use native.Mathlib.Numerals.{add-one}
use lib.Pow.{pow_pos}
use lib.Bits.{bit_and, and_step, and_self}
use lib.Count.{ones, ones_step, count_trailing_zeros}
use lib.ListN.{length}
use Rattle.nack_store.specs.Bits.{keep}
use Rattle.nack_store.proofs.Sets.{by_bit}
use Rattle.nack.specs.Entries.{following, masked, named}

length-keep : (bit n : ℕ) (ns : List ℕ) → bit < 2 → length (keep bit n ns) ≡ bit + length ns
length-keep zero n ns two = omega arith
length-keep (suc zero) n ns two = omega arith
length-keep (suc (suc bit)) n ns two = absurd (omega arith)

length-masked : (n mask k : ℕ) → mask < 2 ^ k → length (masked n mask k) ≡ ones mask
unfolding masked ones
length-masked n mask zero small =
    let none : mask ≡ 0 = omega (arith, pow-zero 2) in
    rw none refl
length-masked n mask (suc k) small =
    omega (
      arith,
      length-keep (mask % 2) (following n) (masked (suc n) (mask / 2) k) (omega arith),
      length-masked (suc n) (mask / 2) k (omega (arith, pow-suc 2 k)),
      ones_step mask,
    )

pub length-named : (n mask : ℕ) → mask < 65536 → length (named n mask) ≡ 1 + ones mask
length-named n mask small = omega (arith, length-masked n mask 16 small)

masked-few : (n mask k : ℕ) → length (masked n mask k) ≤ k
unfolding masked
masked-few n mask zero = omega arith
masked-few n mask (suc k) =
    omega (arith, length-keep (mask % 2) (following n) (masked (suc n) (mask / 2) k) (omega arith), masked-few (suc n) (mask / 2) k)

pub named-few : (n mask : ℕ) → length (named n mask) ≤ 17
named-few n mask = omega (arith, masked-few n mask 16)

pub masked-none : (n k : ℕ) → masked n 0 k ≡ []
unfolding masked
masked-none n zero = refl
masked-none n (suc k) = masked-none (suc n) k

-- the lowest bit names the first number, and the mask without it the others
masked_lowest : (n mask k : ℕ) → mask < 2 ^ k → (mask ≡ 0 → ⊥) → masked n mask k ≡ (n + suc (count_trailing_zeros k mask)) % 65536 ∷ masked n (mask - 2 ^ count_trailing_zeros k mask) k
unfolding masked count_trailing_zeros
masked_lowest n mask zero small some = absurd (some (omega (arith, pow-zero 2)))
masked_lowest n mask (suc k) small some =
    by_bit (mask % 2) (omega arith)
    (λ clear.
    let t = count_trailing_zeros k (mask / 2) in
    let next : n + suc (suc t) ≡ suc n + suc t = omega arith in
    let low : (mask - 2 ^ suc t) % 2 ≡ 0 = omega (arith, pow-suc 2 t) in
    let high : (mask - 2 ^ suc t) / 2 ≡ mask / 2 - 2 ^ t = omega (arith, pow-suc 2 t) in
    rw (clear, next, low, high) (masked_lowest (suc n) (mask / 2) k (omega (arith, pow-suc 2 k)) (λ none. some (omega arith))))
    (λ there.
    let next : n + 1 ≡ suc n = omega arith in
    let low : (mask - 1) % 2 ≡ 0 = omega arith in
    let high : (mask - 1) / 2 ≡ mask / 2 = omega arith in
    rw (there, next, pow-zero, low, high))

-- `mask & (mask - 1)` is the mask without its lowest bit
and_lowest : (mask k : ℕ) → mask < 2 ^ k → (mask ≡ 0 → ⊥) → bit_and mask (mask - 1) ≡ mask - 2 ^ count_trailing_zeros k mask
unfolding count_trailing_zeros
and_lowest mask zero small some = absurd (some (omega (arith, pow-zero 2)))
and_lowest mask (suc k) small some =
    by_bit (mask % 2) (omega arith)
    (λ clear.
    let t = count_trailing_zeros k (mask / 2) in
    let low : (mask - 1) % 2 ≡ 1 = omega arith in
    let high : (mask - 1) / 2 ≡ mask / 2 - 1 = omega arith in
    let rest : bit_and (mask / 2) (mask / 2 - 1) ≡ mask / 2 - 2 ^ t = and_lowest (mask / 2) k (omega (arith, pow-suc 2 k)) (λ none. some (omega arith)) in
    and_step mask (mask - 1) ∙ rw (clear, low, high, rest) (omega (arith, pow-suc 2 t)))
    (λ there.
    let low : (mask - 1) % 2 ≡ 0 = omega arith in
    let high : (mask - 1) / 2 ≡ mask / 2 = omega arith in
    and_step mask (mask - 1) ∙ rw (there, low, high, and_self, pow-zero) (omega arith))

pub masked-first : (n mask : ℕ) → mask < 65536 → (mask ≡ 0 → ⊥) → masked n mask 16 ≡ (n + (count_trailing_zeros 16 mask + 1)) % 65536 ∷ masked n (bit_and mask (mask - 1)) 16
masked-first n mask small some = rw (add-one, and_lowest mask 16 small some) (masked_lowest n mask 16 small some)

pub and_less : (mask : ℕ) → mask < 65536 → (mask ≡ 0 → ⊥) → bit_and mask (mask - 1) < mask
and_less mask small some = omega (arith, and_lowest mask 16 small some, pow_pos (count_trailing_zeros 16 mask))

-- numbers that follow each other, modulo 65,536
unfoldable pub run : ℕ → ℕ → List ℕ
run n zero = []
run n (suc k) = n % 65536 ∷ run (suc n) k

pub run-none : (n : ℕ) → run n 0 ≡ []
unfolding run
run-none n = refl

masked-ones : (n k : ℕ) → masked n (2 ^ k - 1) k ≡ run (suc n) k
unfolding masked run
masked-ones n zero = refl
masked-ones n (suc k) =
    let low : (2 ^ suc k - 1) % 2 ≡ 1 = omega (arith, pow-suc 2 k, pow_pos k) in
    let high : (2 ^ suc k - 1) / 2 ≡ 2 ^ k - 1 = omega (arith, pow-suc 2 k, pow_pos k) in
    rw (low, high, masked-ones (suc n) k)

-- a full mask names the sixteen numbers that follow
pub masked_full : (n : ℕ) → masked n 65535 16 ≡ run (suc n) 16
masked_full n = masked-ones n 16

pub length_run : (n k : ℕ) → length (run n k) ≡ k
unfolding run
length_run n zero = refl
length_run n (suc k) = ap suc (length_run (suc n) k)

-- one number more
pub run-more : (n k : ℕ) → run n (suc k) ≡ run n k ++ ((n + k) % 65536 ∷ [])
unfolding run
run-more n zero = rw add-zero
run-more n (suc k) =
    let next : n + suc k ≡ suc n + k = omega arith in
    rw (next, ← run-more (suc n) k)

keep_append : (bit n : ℕ) (l r : List ℕ) → keep bit n (l ++ r) ≡ keep bit n l ++ r
keep_append zero n l r = refl
keep_append (suc bit) n l r = refl

-- one bit more at the top of a mask names one number more at the end
pub masked_top : (n mask i k : ℕ) → mask < 2 ^ i → i < k → suc n + i < 65536 → masked n (mask + 2 ^ i) k ≡ masked n mask k ++ ((suc n + i) ∷ [])
unfolding masked
masked_top n mask zero zero small within flat = absurd (omega arith)
masked_top n mask zero (suc k) small within flat =
    let none : mask ≡ 0 = omega (arith, pow-zero 2) in
    let same : following n ≡ suc n = omega arith in
    rw (none, add-zero, same, masked-none (suc n) k)
masked_top n mask (suc i) zero small within flat = absurd (omega arith)
masked_top n mask (suc i) (suc k) small within flat =
    let twice = pow-suc 2 i in
    let low : (mask + 2 ^ suc i) % 2 ≡ mask % 2 = omega arith in
    let high : (mask + 2 ^ suc i) / 2 ≡ mask / 2 + 2 ^ i = omega arith in
    let next : suc n + suc i ≡ suc (suc n) + i = omega arith in
    rw (low, high, next, masked_top (suc n) (mask / 2) i k (omega arith) (omega arith) (omega arith))
    (keep_append (mask % 2) (following n) (masked (suc n) (mask / 2) k) ((suc (suc n) + i) ∷ []))
