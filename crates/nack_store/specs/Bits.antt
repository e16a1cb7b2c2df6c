-- A set of numbers as a bitmap: number n at byte n / 8, bit n mod 8, bit 0 worth 1. A set is also any function that gives a
-- number's bit: the laws of its members and windows need no more.
use Rattle.std.specs.Prelude.{ℕ, zero, suc, ◌+◌, ◌*◌, ◌-◌, ◌/◌, ◌%◌, ◌^◌, List, [], ◌∷◌, get_or, set, length}
use Rattle.lent.specs.Bytes.{zero_bytes}

-- the bytes of a store: a bit for each 16-bit number
abbrev pub store_size : ℕ
store_size = 8192

-- a number's bit: 1 where the store has it
abbrev pub bit_of : List ℕ → ℕ → ℕ
bit_of s n = get_or s (n / 8) 0 / 2 ^ (n % 8) % 2

-- a byte whose bit at a place is replaced
abbrev pub with_bit : ℕ → ℕ → ℕ → ℕ
with_bit byte place bit = byte - (byte / 2 ^ place % 2) * 2 ^ place + bit * 2 ^ place

-- a store in which a number's bit is replaced
abbrev pub changed_bit : List ℕ → ℕ → ℕ → List ℕ
changed_bit s n bit = set s (n / 8) (with_bit (get_or s (n / 8) 0) (n % 8) bit)

abbrev pub added : List ℕ → ℕ → List ℕ
added s n = changed_bit s n 1

abbrev pub removed : List ℕ → ℕ → List ℕ
removed s n = changed_bit s n 0

abbrev pub empty_store : List ℕ
empty_store = zero_bytes store_size

-- numbers added one after the other
abbrev pub added_all : List ℕ → List ℕ → List ℕ
added_all s [] = s
added_all s (n ∷ ns) = added_all (added s n) ns

-- a bit decides whether a number stands in front
abbrev pub keep : ℕ → ℕ → List ℕ → List ℕ
keep zero n ns = ns
keep (suc bit) n ns = n ∷ ns

-- the members of a set f among the k numbers from n on, ascending
unfoldable pub members : (ℕ → ℕ) → ℕ → ℕ → List ℕ
members f n zero = []
members f n (suc k) = keep (f n) n (members f (suc n) k)

-- k bits of a set f from number n on as one number, the first worth 1
unfoldable pub window : (ℕ → ℕ) → ℕ → ℕ → ℕ
window f n zero = 0
window f n (suc k) = f n + 2 * window f (suc n) k

-- the numbers of a store, ascending
unfoldable pub numbers_of : List ℕ → List ℕ
numbers_of s = members (bit_of s) 0 (8 * length s)
