-- The entry that a number opens: its mask is the window of the sixteen numbers after it. And how many entries a set needs at most.
use Prim.Native.Nat.{ℕ, zero, suc, ◌+◌, ◌*◌, ◌-◌, ◌^◌, ◌<◌, ◌≤◌}
use mathlib.Core.Path.{◌≡◌, refl, ◌∙◌}
use mathlib.Core.List.{List, ◌∷◌}
use native.Mathlib.Omega.{arith}
use native.Mathlib.Nat.{pow-suc, pow-zero, mul-zero, add-zero, mul-add, mul_assoc, mul-one, one-mul, zero-add, add_assoc}
use borrow.Author.Tests.{le-leb, lt-leb}
use lib.ListN.{length}
use Rattle.nack_store.specs.Bits.{bit_of, members, window, numbers_of}
use Rattle.nack_store.specs.Sets.{BitsBelow}
use Rattle.nack_store.proofs.Sets.{left_skip, left-take, left_none, window-out, members_skip, members-take, by_bit, by_le}
use Rattle.nack_store.proofs.Bytes.{within}
use Rattle.nack.specs.Entries.{entry, grow, entries_of}

pub grow_in : (n mask k : ℕ) (ks : List ℕ) → k ≤ n + 16 → grow n mask (k ∷ ks) ≡ grow n (mask + 2 ^ (k - suc n)) ks
unfolding grow
grow_in n mask k ks near = rw (le-leb k (n + 16) near)

pub grow-out : (n mask k : ℕ) (ks : List ℕ) → n + 16 < k → grow n mask (k ∷ ks) ≡ entry n mask ∷ grow k 0 ks
unfolding grow
grow-out n mask k ks far = rw (lt-leb k (n + 16) far)

-- past the sixteen, an open entry stands as it is
grow_far : (f : ℕ → ℕ) (end n mask at k : ℕ) → BitsBelow f end → n + 16 < at → grow n mask (members f at k) ≡ entry n mask ∷ entries_of (members f at k)
unfolding members grow entries_of
grow_far f end n mask at zero set far = refl
grow_far f end n mask at (suc k) set far =
    by_bit (f at) (set.bit at)
    (λ clear. rw (members_skip f at k clear) (grow_far f end n mask (suc at) k set (omega arith)))
    (λ there. rw (members-take f at k there) (grow-out n mask at (members f (suc at) k) far))

-- one binary digit more in front
digit_in : (p bit w : ℕ) → p * (bit + 2 * w) ≡ p * bit + p * 2 * w
digit_in p bit w = simp (mul-add, mul_assoc)

-- i numbers after n are looked at, j are to come: what the steps come to
abbrev Grown : (ℕ → ℕ) → ℕ → ℕ → ℕ → ℕ → ℕ → ℕ → Type 0
Grown f end n mask at i j =
    grow n mask (members f at (end - at)) ≡ grow n (mask + 2 ^ i * window f at j) (members f (n + 17) (end - (n + 17)))

grown_none : (f : ℕ → ℕ) (end n mask at i j : ℕ) → BitsBelow f end → at ≤ n + 17 → end ≤ at → Grown f end n mask at i j
grown_none f end n mask at i j set near past =
    let past' : end ≤ n + 17 = omega arith in
    rw (window-out f at j end set past, left_none f at end past, left_none f (n + 17) end past', mul-zero, add-zero)

grown_skip : (f : ℕ → ℕ) (end n mask at i j : ℕ) → f at ≡ 0 → Grown f end n mask (suc at) (suc i) j → Grown f end n mask at i (suc j)
unfolding window
grown_skip f end n mask at i j clear rest =
    rw (left_skip f at end clear, clear, digit_in, mul-zero, zero-add, ← pow-suc) rest

grown_take : (f : ℕ → ℕ) (end n mask at i j : ℕ) → at ≡ suc n + i → i < 16 → at < end → f at ≡ 1 → Grown f end n (mask + 2 ^ i) (suc at) (suc i) j → Grown f end n mask at i (suc j)
unfolding window
grown_take f end n mask at i j place few below there rest =
    let digit : at - suc n ≡ i = omega arith in
    let near : at ≤ n + 16 = omega arith in
    rw (left-take f at end below there, grow_in n mask at _ near, digit, there, digit_in, mul-one, ← pow-suc, ← add_assoc) rest

grow-window : (f : ℕ → ℕ) (end n mask at i j : ℕ) → BitsBelow f end → at ≡ suc n + i → i + j ≡ 16 → Grown f end n mask at i j
unfolding window
grow-window f end n mask at i zero set place all =
    let last : at ≡ n + 17 = omega arith in
    rw (mul-zero, add-zero, last)
grow-window f end n mask at i (suc j) set place all =
    by_le end at
    (λ past. grown_none f end n mask at i (suc j) set (omega arith) past)
    (λ below. by_bit (f at) (set.bit at)
    (λ clear. grown_skip f end n mask at i j clear (grow-window f end n mask (suc at) (suc i) j set (omega arith) (omega arith)))
    (λ there. grown_take f end n mask at i j place (omega arith) below there (grow-window f end n (mask + 2 ^ i) (suc at) (suc i) j set (omega arith) (omega arith))))

-- what a number that is there opens
pub opened : (f : ℕ → ℕ) (end n : ℕ) → BitsBelow f end → n < end → f n ≡ 1
    → entries_of (members f n (end - n)) ≡ entry n (window f (suc n) 16) ∷ entries_of (members f (n + 17) (end - (n + 17)))
unfolding entries_of
opened f end n set below there =
    rw (left-take f n end below there)
    (grow-window f end n 0 (suc n) 0 16 set (omega arith) refl
    ∙ (rw (pow-zero, one-mul, zero-add) (grow_far f end n (window f (suc n) 16) (n + 17) (end - (n + 17)) set (omega arith))))

-- an open entry and k numbers more: that entry, and one for each 17 past those that it covers
open_few : (f : ℕ → ℕ) (end n mask at k : ℕ) → BitsBelow f end → n < at → length (grow n mask (members f at k)) * 17 ≤ 33 + (k - (n + 17 - at))
unfolding members grow
open_few f end n mask at zero set above = omega arith
open_few f end n mask at (suc k) set above =
    by_bit (f at) (set.bit at)
    (λ clear. rw (members_skip f at k clear) (omega (arith, open_few f end n mask (suc at) k set (omega arith))))
    (λ there. rw (members-take f at k there)
    (by_le at (n + 16)
    (λ near. rw (grow_in n mask at (members f (suc at) k) near) (omega (arith, open_few f end n (mask + 2 ^ (at - suc n)) (suc at) k set (omega arith))))
    (λ far. rw (grow-out n mask at (members f (suc at) k) far) (omega (arith, open_few f end at 0 (suc at) k set (omega arith))))))

entries-few : (f : ℕ → ℕ) (end at k : ℕ) → BitsBelow f end → length (entries_of (members f at k)) * 17 ≤ k + 16
unfolding members entries_of
entries-few f end at zero set = omega arith
entries-few f end at (suc k) set =
    by_bit (f at) (set.bit at)
    (λ clear. rw (members_skip f at k clear) (omega (arith, entries-few f end (suc at) k set)))
    (λ there. rw (members-take f at k there) (omega (arith, open_few f end at 0 (suc at) k set (omega arith))))

-- no store needs more than 3,856 entries
pub most_entries_lem : (s : List ℕ) → length s ≡ 8192 → length (entries_of (numbers_of s)) ≤ 3856
unfolding numbers_of
most_entries_lem s size = omega (arith, entries-few (bit_of s) (8 * length s) 0 (8 * length s) (within s))
