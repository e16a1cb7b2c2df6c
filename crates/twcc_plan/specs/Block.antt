-- The bytes of a block that is written: header, chunks, delta bytes, zeros to a multiple of four (the draft, 3.1).
use Rattle.std.specs.Prelude.{ℕ, ◌+◌, ◌-◌, List, ◌++◌, map, Bool, ltb, leb, ℤ, pos, negsuc, length, take, Option}
use Rattle.octets.specs.Big.{be_bytes}
use Rattle.lent.specs.Bytes.{zero_bytes}
use Rattle.twcc.specs.Time.{time_bits}
use Rattle.twcc.specs.Words.{half, symbol_of, deltas}
use Rattle.twcc.specs.Chunks.{Chunk, chunk_word, chunk_bytes}
use Rattle.twcc_plan.specs.Front.{front}
use Rattle.twcc_plan.specs.Limits.{up_four}
use Rattle.twcc_plan.specs.Plan.{plan, taken_in}

-- ---- what is written

-- the most entries of a list
abbrev pub most_entries : ℕ
most_entries = 16384

-- a word that can be written: −32,768 to 32,768
unfoldable pub in_range : ℤ → Bool
in_range (pos n) = leb n half
in_range (negsuc n) = ltb n half

-- the first place of a word that cannot, or the list's length
abbrev pub first_bad : List ℤ → ℕ
first_bad list = front in_range list

-- ---- a block

-- base and status count of two bytes each, the time's three, the feedback count
unfoldable pub header : ℕ → ℕ → ℕ → ℕ → List ℕ
header base count time feedback = be_bytes 2 base ++ be_bytes 2 count ++ be_bytes 3 (time_bits time) ++ be_bytes 1 feedback

-- a block's chunks: eight bytes are used and no entry is taken before the first
unfoldable pub chunks_of : Option ℕ → List ℤ → List Chunk
chunks_of limit list = plan limit 0 8 0 (map symbol_of list)

-- the entries that a block takes
unfoldable pub taken_of : Option ℕ → List ℤ → ℕ
taken_of limit list = taken_in (chunks_of limit list)

unfoldable pub body : Option ℕ → List ℤ → List ℕ
body limit list = chunk_bytes (map chunk_word (chunks_of limit list)) ++ deltas (take (taken_of limit list) list)

-- its bytes without padding, and with it
abbrev pub used_of : Option ℕ → List ℤ → ℕ
used_of limit list = 8 + length (body limit list)

abbrev pub size_of : Option ℕ → List ℤ → ℕ
size_of limit list = up_four (used_of limit list)

unfoldable pub block_bytes : ℕ → ℕ → ℕ → Option ℕ → List ℤ → List ℕ
block_bytes base time feedback limit list =
    header base (taken_of limit list) time feedback ++ (body limit list ++ zero_bytes (size_of limit list - used_of limit list))
