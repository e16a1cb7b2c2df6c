-- What is written reads back as exactly the set, ascending, each number once; and a list that is added to an empty store, written and read
-- comes back sorted and without repeats.
use Prim.Native.Nat.{ℕ, suc, ◌+◌, ◌*◌, ◌-◌, ◌/◌, ◌%◌, ◌^◌, ◌<◌, ◌≤◌}
use mathlib.Core.Path.{◌≡◌, refl, sym, ap, ◌∙◌, subst}
use mathlib.Core.List.{List, [], ◌∷◌, ◌++◌, append_assoc}
use native.Mathlib.Omega.{arith}
use native.Mathlib.Nat.{pow-suc}
use lib.Pow.{pow_mono, pow_pos}
use lib.ListN.{length}
use Rattle.nack_store.specs.Bits.{store_size, numbers_of, added_all, empty_store}
use Rattle.nack_store.specs.Sets.{Rising, none, more, SetOf, AllBelow, Sorted}
use Rattle.nack_store.proofs.Sets.{by_le}
use Rattle.nack_store.proofs.Numbers.{numbers_rising, numbers_set, added_sorted, length-added, length-empty, sorted_unique, rising_sorted, rising_below}
use Rattle.nack.specs.Entries.{Entry, entry, masked, named, all_named, entries_in, read_nack, grow, entries_of, all_bytes, nack_of, nack_bytes}
use Rattle.nack.proofs.Masks.{masked-none, masked_top}
use Rattle.nack.proofs.Opens.{grow_in, grow-out}

-- an open entry and the numbers that follow it
grown_back : (n mask low : ℕ) (ks : List ℕ) → Rising 65536 low ks → n < low → mask < 2 ^ (low - suc n) → all_named (grow n mask ks) ≡ named n mask ++ ks
unfolding grow all_named
grown_back n mask low [] none above small = refl
grown_back n mask low (k ∷ ks) (more from below rises) above small =
    by_le k (n + 16)
    (λ near.
    let twice = pow-suc 2 (k - suc n) in
    let less : 2 ^ (low - suc n) ≤ 2 ^ (k - suc n) = pow_mono (omega arith) in
    let next : suc k - suc n ≡ suc (k - suc n) = omega arith in
    let last : suc n + (k - suc n) ≡ k = omega arith in
    let grown : mask + 2 ^ (k - suc n) < 2 ^ (suc k - suc n) = rw next (omega arith) in
    rw (
      grow_in n mask k ks near,
      grown_back n (mask + 2 ^ (k - suc n)) (suc k) ks rises (omega arith) grown,
      masked_top n mask (k - suc n) 16 (omega arith) (omega arith) (omega arith),
      last,
    )
    (ap (λ (l : List ℕ). n ∷ l) (append_assoc (masked n mask 16) (k ∷ []) ks)))
    (λ far.
    let one : 0 < 2 ^ (suc k - suc k) = pow_pos (suc k - suc k) in
    rw (grow-out n mask k ks far, grown_back k 0 (suc k) ks rises (omega arith) one, masked-none k 16))

-- the entries of an ascending list name it
entries-back : (ns : List ℕ) → Rising 65536 0 ns → all_named (entries_of ns) ≡ ns
unfolding entries_of all_named
entries-back [] none = refl
entries-back (n ∷ ns) (more from below rises) =
    let one : 0 < 2 ^ (suc n - suc n) = pow_pos (suc n - suc n) in
    rw (grown_back n 0 (suc n) ns rises (omega arith) one, masked-none n 16)

bytes_back : (es : List Entry) → entries_in (all_bytes es) ≡ es
unfolding entries_in all_bytes
bytes_back [] = refl
bytes_back (entry n mask ∷ es) =
    let number : 256 * (n / 256) + n % 256 ≡ n = omega arith in
    let bits : 256 * (mask / 256) + mask % 256 ≡ mask = omega arith in
    rw (number, bits, bytes_back es)

-- the bytes of an ascending list read as it
pub list_back : (ns : List ℕ) → Rising 65536 0 ns → read_nack (nack_of ns) ≡ ns
unfolding read_nack
list_back ns rises = rw (bytes_back (entries_of ns)) (entries-back ns rises)

-- what is written of a store reads as its numbers
pub store-back : (s : List ℕ) → length s ≡ store_size → read_nack (nack_bytes s) ≡ numbers_of s
unfolding nack_bytes
store-back s size = list_back (numbers_of s) (numbers_rising s size)

-- which are exactly the set
pub set_back : (s : List ℕ) → length s ≡ store_size → SetOf s (read_nack (nack_bytes s))
set_back s size = subst (λ (l : List ℕ). SetOf s l) (sym (store-back s size)) (numbers_set s size)

-- a list that is added to an empty store is written as its sorted numbers are
pub added-bytes : (ns sorted : List ℕ) → AllBelow 65536 ns → Sorted ns sorted → nack_bytes (added_all empty_store ns) ≡ nack_of sorted
unfolding nack_bytes
added-bytes ns sorted below s = ap nack_of (sorted_unique (added_sorted ns below) s)

-- and read back as them
pub added-back : (ns : List ℕ) → AllBelow 65536 ns → Sorted ns (read_nack (nack_bytes (added_all empty_store ns)))
added-back ns below =
    let size : length (added_all empty_store ns) ≡ store_size = length-added empty_store ns ∙ length-empty in
    subst (λ (l : List ℕ). Sorted ns l) (sym (store-back (added_all empty_store ns) size)) (added_sorted ns below)

-- an ascending list is its own sorted list
pub rising_bytes : (ns : List ℕ) → Rising 65536 0 ns → nack_bytes (added_all empty_store ns) ≡ nack_of ns
rising_bytes ns rises = added-bytes ns ns (rising_below ns rises) (rising_sorted ns rises)
