-- What is known of the chunks of a plan: all that the code that writes a block asks of them.
use Rattle.std.specs.Prelude.{ℕ, zero, ◌+◌, ◌≤◌, ◌<◌, ◌≡◌, List, [], ◌∷◌, eqb, length, take, drop, Option}
use Rattle.octets.specs.Bounds.{Below}
use Rattle.twcc.specs.Chunks.{longest_run, Chunk, Run, One, Two}
use Rattle.twcc_plan.specs.Front.{front}
use Rattle.twcc_plan.specs.Choice.{taken_by, width_by}
use Rattle.twcc_plan.specs.Limits.{Within, up_four}

-- a chunk made for the symbols ss
abbrev pub Good : List ℕ → Chunk → Type 0
Good ss (Run s r) = (zero < r) × (r ≤ longest_run) × (s < 3) × (r ≤ front (eqb s) ss)
Good ss (One xs) = (zero < length ss) × (xs ≡ take 14 ss) × Below 2 xs
Good ss (Two xs) = (zero < length ss) × (xs ≡ take 7 ss)

-- chunks made for the symbols ss, from so many bytes used on, which end within the limit
abbrev pub Planned : Option ℕ → ℕ → List Chunk → List ℕ → Type 0
Planned limit used [] ss = Within limit (up_four used)
Planned limit used (c ∷ cs) ss = Good ss c × Planned limit (used + 2 + width_by c) cs (drop (taken_by c) ss)
