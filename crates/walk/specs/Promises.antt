-- What each function promises, in the terms of compound's walk.
use Rattle.std.specs.Prelude.{ℕ, List, ◌≡◌}
use Rattle.std.specs.Borrow.{Bor}
use Rattle.compound.specs.Said.{said_walked}
use Rattle.compound.specs.Walk.{walk_step, walk_next, HandsBack}
use Rattle.compound.specs.declared.Walked.{Walked}
use Rattle.walk.specs.declared.Compound.{Compound}

-- `new`: the walk holds the bytes and is at their start
abbrev pub Starts : Bor (List ℕ) → Compound → Type 0
Starts bytes c = (c.bytes ≡ bytes) × (c.offset ≡ 0)

-- `step`
abbrev pub Steps : Compound → Walked → Type 0
Steps c w = said_walked w ≡ walk_step c.bytes.now c.offset

-- `part`
abbrev pub HandsBackPart : Compound → Bor (List ℕ) → Type 0
HandsBackPart c = HandsBack c.bytes c.offset

-- `advance`: the walk holds the same bytes and is one step on
abbrev pub Follows : Compound → Compound → Type 0
Follows c d = (d.bytes ≡ c.bytes) × (d.offset ≡ walk_next c.bytes.now c.offset)
