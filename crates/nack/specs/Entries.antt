-- Generic NACK entries, RFC 4585 section 6.2.1: a packet's number, and a mask whose bit i, counted from 1 at the least, names the
-- packet i numbers later, modulo 65,536. Which entries name a set the RFC leaves open; from `grow` on docs/RULES.md decides.
use Rattle.std.specs.Prelude.{ℕ, zero, suc, ◌+◌, ◌-◌, ◌/◌, ◌%◌, ◌^◌, List, [], ◌∷◌, ◌++◌, cond, leb}
use Rattle.octets.specs.Big.{be, be_bytes}
use Rattle.nack_store.specs.Bits.{keep, numbers_of}

pub data Entry : Type 0 where
  entry : ℕ → ℕ → Entry

-- the number after n
abbrev pub following : ℕ → ℕ
following n = suc n % 65536

-- the numbers after n that the low k bits of a mask name
unfoldable pub masked : ℕ → ℕ → ℕ → List ℕ
masked n mask zero = []
masked n mask (suc k) = keep (mask % 2) (following n) (masked (suc n) (mask / 2) k)

-- what an entry names: its number, and those of its mask
abbrev pub named : ℕ → ℕ → List ℕ
named n mask = n ∷ masked n mask 16

-- what entries name, in their order, repeats and all
unfoldable pub all_named : List Entry → List ℕ
all_named [] = []
all_named (entry n mask ∷ es) = named n mask ++ all_named es

-- bytes as entries, the high byte of each number first; up to three bytes at the end are ignored
unfoldable pub entries_in : List ℕ → List Entry
entries_in [] = []
entries_in (a ∷ []) = []
entries_in (a ∷ b ∷ []) = []
entries_in (a ∷ b ∷ c ∷ []) = []
entries_in (a ∷ b ∷ c ∷ d ∷ rest) = entry (be 2 (a ∷ b ∷ []) 0) (be 2 (c ∷ d ∷ []) 0) ∷ entries_in rest

-- what bytes read as
unfoldable pub read_nack : List ℕ → List ℕ
read_nack bytes = all_named (entries_in bytes)

-- an entry is open: a number up to 16 above its own sets a bit of its mask, one past that opens the next entry
unfoldable pub grow : ℕ → ℕ → List ℕ → List Entry
grow n mask [] = entry n mask ∷ []
grow n mask (k ∷ ks) =
    cond (leb k (n + 16)) (grow n (mask + 2 ^ (k - suc n)) ks) (entry n mask ∷ grow k 0 ks)

-- the entries of an ascending list: the lowest number left opens each
unfoldable pub entries_of : List ℕ → List Entry
entries_of [] = []
entries_of (n ∷ ns) = grow n 0 ns

abbrev pub entry_bytes : ℕ → ℕ → List ℕ
entry_bytes n mask = be_bytes 2 n ++ be_bytes 2 mask

unfoldable pub all_bytes : List Entry → List ℕ
all_bytes [] = []
all_bytes (entry n mask ∷ es) = entry_bytes n mask ++ all_bytes es

-- the bytes of an ascending list of numbers; an empty one has none, where the RFC wants an entry
abbrev pub nack_of : List ℕ → List ℕ
nack_of ns = all_bytes (entries_of ns)

-- the bytes of a store's numbers
unfoldable pub nack_bytes : List ℕ → List ℕ
nack_bytes s = nack_of (numbers_of s)
