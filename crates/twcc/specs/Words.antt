-- One packet's status: its symbol, its delta bytes, and the status word that stands for it in a list.
use Rattle.std.specs.Prelude.{ℕ, zero, suc, ◌+◌, ◌-◌, ◌≤◌, ◌<◌, List, [], ◌∷◌, ◌++◌, cond, ltb, ℤ, pos, negsuc, drop}
use Rattle.octets.specs.Big.{be, be_bytes}

-- ---- the draft, 3.1.1 and 3.1.5

-- the delta bytes of a symbol: 0 not received, 1 a small delta, 2 a large or negative delta, 3 reserved
unfoldable pub bytes_of : ℕ → ℕ
bytes_of zero = 0
bytes_of (suc zero) = 1
bytes_of (suc (suc zero)) = 2
bytes_of (suc (suc (suc n))) = 0

-- the delta bytes of symbols
unfoldable pub width_of : List ℕ → ℕ
width_of [] = 0
width_of (s ∷ ss) = bytes_of s + width_of ss

-- half of what 16 bits hold: as signed numbers they go from it below zero up to one less than it
abbrev pub half : ℕ
half = 32768

unfoldable pub signed16 : ℕ → ℤ
signed16 bits = cond (ltb bits half) (pos bits) (negsuc (65535 - bits))

-- ---- docs/RULES.md: the status words, and what is read where delta bytes lack or a symbol is reserved

abbrev pub not_received : ℤ
not_received = pos half

abbrev pub truncated : ℤ
truncated = pos 32769

abbrev pub reserved : ℤ
reserved = pos 32770

-- the word of an entry with this symbol, where these delta bytes are left
unfoldable pub word_of : ℕ → List ℕ → ℤ
word_of zero ds = not_received
word_of (suc zero) [] = truncated
word_of (suc zero) (d ∷ ds) = pos d
word_of (suc (suc zero)) [] = truncated
word_of (suc (suc zero)) (d ∷ []) = truncated
word_of (suc (suc zero)) (d ∷ e ∷ ds) = signed16 (be 2 (d ∷ e ∷ []) 0)
word_of (suc (suc (suc n))) ds = reserved

-- the words of symbols and delta bytes; of too few bytes an entry eats what is there
unfoldable pub entries : List ℕ → List ℕ → List ℤ
entries [] ds = []
entries (s ∷ ss) ds = word_of s ds ∷ entries ss (drop (bytes_of s) ds)

-- ---- the way back: the words that can be written

-- −32,768 to 32,767 a delta, 32,768 not received
abbrev pub Valid : ℤ → Type 0
Valid (pos n) = n ≤ half
Valid (negsuc n) = n < half

abbrev pub AllValid : List ℤ → Type 0
AllValid [] = Unit {0}
AllValid (w ∷ ws) = Valid w × AllValid ws

-- the symbol of a word: 1 for a delta of 0 to 255, 2 for any other delta, 0 for not received
unfoldable pub symbol_of : ℤ → ℕ
symbol_of (pos n) = cond (ltb n 256) 1 (cond (ltb n half) 2 0)
symbol_of (negsuc n) = 2

-- a delta's 16 bits
unfoldable pub bits16 : ℤ → ℕ
bits16 (pos n) = n
bits16 (negsuc n) = 65535 - n

-- a word's delta bytes, as many as its symbol says
unfoldable pub delta_bytes : ℤ → List ℕ
delta_bytes w = be_bytes (symbol_of w) (bits16 w)

unfoldable pub deltas : List ℤ → List ℕ
deltas [] = []
deltas (w ∷ ws) = delta_bytes w ++ deltas ws
