-- What a block reads as, on any bytes (the draft, 3.1): the header's numbers, the symbols of its chunks, its delta bytes
-- and the list of status words.
use Rattle.std.specs.Prelude.{ℕ, zero, suc, ◌-◌, List, [], ◌∷◌, ◌++◌, ℤ, length, get_or, take, drop}
use Rattle.octets.specs.Big.{be}
use Rattle.twcc.specs.Time.{time_of}
use Rattle.twcc.specs.Words.{entries}
use Rattle.twcc.specs.Chunks.{stands_for}

-- ---- the header: eight bytes

abbrev pub base_of : List ℕ → ℕ
base_of block = be 2 block 0

abbrev pub status_count : List ℕ → ℕ
status_count block = be 2 block 2

abbrev pub reference_time : List ℕ → ℕ
reference_time block = time_of (be 3 block 4)

abbrev pub feedback_count : List ℕ → ℕ
feedback_count block = get_or block 7 0

-- ---- chunks and deltas. docs/RULES.md: whole chunks are taken while statuses are left, and each lowers what is left by
-- ---- its full length, not below zero; where chunks run out fewer entries are listed; the deltas start right after the
-- ---- chunks taken, an odd last byte included

-- the symbols of the chunks in the bytes, where `left` statuses are left
unfoldable pub symbols : List ℕ → ℕ → List ℕ
symbols [] left = []
symbols (a ∷ []) left = []
symbols (a ∷ b ∷ bytes) left =
    take left (stands_for (be 2 (a ∷ b ∷ []) 0)) ++ symbols bytes (left - length (stands_for (be 2 (a ∷ b ∷ []) 0)))

-- the bytes that follow the chunks taken
unfoldable pub after_chunks : List ℕ → ℕ → List ℕ
after_chunks [] left = []
after_chunks (a ∷ []) left = a ∷ []
after_chunks (a ∷ b ∷ bytes) zero = a ∷ b ∷ bytes
after_chunks (a ∷ b ∷ bytes) (suc left) = after_chunks bytes (suc left - length (stands_for (be 2 (a ∷ b ∷ []) 0)))

unfoldable pub block_symbols : List ℕ → List ℕ
block_symbols block = symbols (drop 8 block) (status_count block)

unfoldable pub block_deltas : List ℕ → List ℕ
block_deltas block = after_chunks (drop 8 block) (status_count block)

-- the list of a block of at least eight bytes
unfoldable pub listed : List ℕ → List ℤ
listed block = entries (block_symbols block) (block_deltas block)

-- where the delta bytes start
abbrev pub deltas_start : List ℕ → ℕ
deltas_start block = length block - length (block_deltas block)
