-- A size limit, and the step rule: what a limit makes of the chunk that was picked (docs/RULES.md, TWCC writing).
use Rattle.std.specs.Prelude.{ℕ, zero, suc, ◌+◌, ◌*◌, ◌-◌, ◌/◌, ◌≤◌, List, cond, ltb, Option, Some, None}
use Rattle.twcc.specs.Chunks.{Chunk, Run, One, Two}
use Rattle.twcc_plan.specs.Choice.{chunk_for, width_by}

-- so many bytes keep within a limit
abbrev pub Within : Option ℕ → ℕ → Type 0
Within None n = Unit {0}
Within (Some limit) n = n ≤ limit

-- a limit under which every block takes an entry
abbrev pub Wide : Option ℕ → Type 0
Wide None = Unit {0}
Wide (Some limit) = 24 ≤ limit

abbrev pub up_four : ℕ → ℕ
up_four n = (n + 3) / 4 * 4

-- P: the block's size with this chunk, where it has `used` bytes without it
abbrev pub size_with : ℕ → Chunk → ℕ
size_with used c = up_four (used + 2 + width_by c)

-- a received run that is `over` bytes too long is shortened by v = up_four over / (bytes per delta); writing stops if
-- v > r − 1, or for any other chunk
unfoldable pub shorten : ℕ → Chunk → Option Chunk
shorten over (Run zero r) = None
shorten over (Run (suc s) r) = cond (ltb (r - 1) (up_four over / suc s)) None (Some (Run (suc s) (r - up_four over / suc s)))
shorten over (One ss) = None
shorten over (Two ss) = None

unfoldable pub fitted : Option ℕ → ℕ → Chunk → Option Chunk
fitted None used c = Some c
fitted (Some limit) used c = cond (ltb limit (size_with used c)) (shorten (size_with used c - limit) c) (Some c)

-- the next chunk of a block with so many bytes used and entries taken, before these symbols; none where writing stops.
-- A list never has more entries than a status count can state, so the entries taken stop nothing.
unfoldable pub next : Option ℕ → ℕ → ℕ → List ℕ → Option Chunk
next limit used taken ss = fitted limit used (chunk_for ss)
