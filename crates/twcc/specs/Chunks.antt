-- Status chunks (the draft, 3.1.2 to 3.1.4): the symbols that a chunk's 16 bits stand for, and the bits and the bytes of each kind
-- of chunk. A chunk as 16 bits is called `chunk`, as what it was made of `Chunk`.
use Rattle.std.specs.Prelude.{ℕ, zero, suc, ◌+◌, ◌*◌, ◌/◌, ◌%◌, ◌^◌, List, [], ◌∷◌, ◌++◌, cond, ltb, replicate}
use Rattle.octets.specs.Big.{be_bytes}

-- ---- symbols as digits: base 2 in a one-bit vector, base 4 in a two-bit vector

-- the number of n digits, the first symbol the highest digit; a symbol that lacks counts 0
unfoldable pub pack : ℕ → ℕ → List ℕ → ℕ
pack base zero ss = 0
pack base (suc n) [] = 0
pack base (suc n) (s ∷ ss) = s * base ^ n + pack base n ss

-- the n lowest digits of a number, the highest first
unfoldable pub unpack : ℕ → ℕ → ℕ → List ℕ
unpack base zero number = []
unpack base (suc n) number = number / base ^ n % base ∷ unpack base n number

-- ---- what a chunk stands for, at its full length

-- a chunk below the first is a run, its symbol times the weight and its length; one below the second a one-bit vector
abbrev pub runs_end : ℕ
runs_end = 32768

abbrev pub ones_end : ℕ
ones_end = 49152

abbrev pub run_weight : ℕ
run_weight = 8192

abbrev pub longest_run : ℕ
longest_run = 8191

-- top bit 0: a run, of a two-bit symbol and a 13-bit length; top bits 10: 14 one-bit symbols; 11: seven two-bit symbols.
-- A one-bit 1 means received, as in the Rust's code; its comment and the draft's wording say the reverse.
unfoldable pub stands_for : ℕ → List ℕ
stands_for chunk =
    cond (ltb chunk runs_end) (replicate (chunk % run_weight) (chunk / run_weight))
    (cond (ltb chunk ones_end) (unpack 2 14 chunk)
    (unpack 4 7 chunk))

-- ---- the kinds of chunk, and their 16 bits

pub data Chunk : Type 0 where
  Run : ℕ → ℕ → Chunk
  One : List ℕ → Chunk
  Two : List ℕ → Chunk

unfoldable pub chunk_word : Chunk → ℕ
chunk_word (Run symbol count) = symbol * run_weight + count
chunk_word (One ss) = runs_end + pack 2 14 ss
chunk_word (Two ss) = ones_end + pack 4 7 ss

-- the bytes of chunks, the high byte first
unfoldable pub chunk_bytes : List ℕ → List ℕ
chunk_bytes [] = []
chunk_bytes (chunk ∷ chunks) = be_bytes 2 chunk ++ chunk_bytes chunks
