-- The chunks of a block: step after step until a step stops or nothing remains.
use Rattle.std.specs.Prelude.{ℕ, zero, suc, ◌+◌, pred, List, [], ◌∷◌, Option, Some, None}
use Rattle.twcc.specs.Chunks.{Chunk}
use Rattle.twcc_plan.specs.Choice.{taken_by, width_by}
use Rattle.twcc_plan.specs.Limits.{next}

unfoldable pub more : Option Chunk → (Chunk → List Chunk) → List Chunk
more None rest = []
more (Some c) rest = c ∷ rest c

-- from so many bytes used and entries taken on, once `skip` symbols are passed over: those of the chunk before
unfoldable pub plan : Option ℕ → ℕ → ℕ → ℕ → List ℕ → List Chunk
plan limit skip used taken [] = []
plan limit zero used taken (s ∷ ss) =
    more (next limit used taken (s ∷ ss)) (λ c. plan limit (pred (taken_by c)) (used + 2 + width_by c) (taken + taken_by c) ss)
plan limit (suc skip) used taken (s ∷ ss) = plan limit skip used taken ss

-- the entries that chunks take
unfoldable pub taken_in : List Chunk → ℕ
taken_in [] = 0
taken_in (c ∷ cs) = taken_by c + taken_in cs

-- the bytes used once these chunks and their deltas are added
unfoldable pub used_by : ℕ → List Chunk → ℕ
used_by used [] = used
used_by used (c ∷ cs) = used_by (used + 2 + width_by c) cs
