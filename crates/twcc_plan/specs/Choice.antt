-- The chunk that is picked for what remains (docs/RULES.md, TWCC writing). Planning sees symbols only.
use Rattle.std.specs.Prelude.{ℕ, ◌*◌, min, List, Bool, cond, ◌&&◌, ◌||◌, ltb, leb, eqb, length, get_or, take}
use Rattle.twcc.specs.Words.{width_of}
use Rattle.twcc.specs.Chunks.{longest_run, Chunk, Run, One, Two}
use Rattle.twcc_plan.specs.Front.{front}

-- r: the run of equal symbols from the front, at most 8,191
unfoldable pub run_of : List ℕ → ℕ
run_of ss = min longest_run (front (eqb (get_or ss 0 0)) ss)

-- b: the front entries with symbol 0 or 1, at most 14
abbrev pub one_bit : ℕ → Bool
one_bit s = ltb s 2

unfoldable pub ones_of : List ℕ → ℕ
ones_of ss = min 14 (front one_bit ss)

-- a run if r > 7 and r ≥ b
abbrev pub is_run : ℕ → ℕ → Bool
is_run r b = ltb 7 r && leb b r

-- else one-bit if b = 14, or if b > 7 and nothing else remains
abbrev pub is_one : ℕ → ℕ → Bool
is_one b left = eqb b 14 || (ltb 7 b && eqb b left)

-- else two-bit, up to 7 entries
unfoldable pub choice : ℕ → ℕ → List ℕ → Chunk
choice r b ss =
    cond (is_run r b) (Run (get_or ss 0 0) r)
    (cond (is_one b (length ss)) (One (take 14 ss))
    (Two (take 7 ss)))

unfoldable pub chunk_for : List ℕ → Chunk
chunk_for ss = choice (run_of ss) (ones_of ss) ss

-- the entries that a chunk takes
unfoldable pub taken_by : Chunk → ℕ
taken_by (Run s r) = r
taken_by (One ss) = length ss
taken_by (Two ss) = length ss

-- their delta bytes; a symbol that is written is its number of delta bytes
unfoldable pub width_by : Chunk → ℕ
width_by (Run s r) = s * r
width_by (One ss) = width_of ss
width_by (Two ss) = width_of ss
