-- Cutting a list into blocks, over the definitions of writing and reading: the procedure, and what is asked of it.
use Rattle.std.specs.Prelude.{ℕ, zero, ◌≤◌, ◌<◌, ◌≡◌, List, [], ◌∷◌, ◌++◌, ℤ, length, drop, Option}
use Rattle.kinds.specs.Seq.{later}
use Rattle.twcc.specs.Time.{latest}
use Rattle.octets.specs.Bounds.{Below}
use Rattle.twcc.specs.Block.{base_of, reference_time, feedback_count, listed}
use Rattle.twcc_plan.specs.Block.{taken_of, block_bytes}
use Rattle.twcc_plan.specs.Limits.{Within, Wide}
use Rattle.twcc_cut.specs.Numbered.{Numbered, numbered}

-- ---- the procedure

-- what a block is written with
pub record Choice : Type 0 where
  pub limit : Option ℕ
  pub time : ℕ
  pub feedback : ℕ

-- a limit absent or at least 24, a time that fits, and a feedback count of one byte
abbrev pub Fits : Choice → Type 0
Fits c = Wide c.limit × (c.time ≤ latest) × (c.feedback < 256)

-- a block, what it was written with, and the entries that it took
pub record Part : Type 0 where
  pub choice : Choice
  pub taken : ℕ
  pub block : List ℕ

abbrev pub part_of : Choice → ℕ → List ℤ → Part
part_of c base list =
    record { choice = c; taken = taken_of c.limit list; block = block_bytes base c.time c.feedback c.limit list }

-- While entries are left, write a block of what is left, with whatever is chosen for it; go on behind the entries that it
-- took, with the base moved on by their number modulo 65,536.
pub data Cut : ℕ → List ℤ → List Part → Type 0 where
  nothing_left : {base : ℕ} → Cut base [] []
  one_more : {base : ℕ} {list : List ℤ} {parts : List Part} (c : Choice) → zero < length list
      → Cut (later base (taken_of c.limit list)) (drop (taken_of c.limit list) list) parts
      → Cut base list (part_of c base list ∷ parts)

abbrev pub AllFit : List Part → Type 0
AllFit [] = Unit {0}
AllFit (p ∷ parts) = Fits p.choice × AllFit parts

-- ---- what is asked of it

-- one block against what it was written with
pub record Kept (p : Part) : Type 0 where
  pub some-taken : zero < p.taken
  pub are_bytes : Below 256 p.block
  pub within : Within p.choice.limit (length p.block)
  pub time-back : reference_time p.block ≡ p.choice.time
  pub feedback-back : feedback_count p.block ≡ p.choice.feedback

abbrev pub AllKept : List Part → Type 0
AllKept [] = Unit {0}
AllKept (p ∷ parts) = Kept p × AllKept parts

-- the blocks, each read, laid end to end
unfoldable pub back : List Part → List Numbered
back [] = []
back (p ∷ parts) = numbered (base_of p.block) 0 (listed p.block) ++ back parts

pub record Whole (base : ℕ) (list : List ℤ) (parts : List Part) : Type 0 where
  pub each : AllKept parts
  pub read_back : back parts ≡ numbered base 0 list

-- ---- that it ends

-- a way of choosing: what the next block is written with, from the blocks before it, the last one first
abbrev pub Way : Type 0
Way = List Part → Choice

-- blocks that were written with what the way chose
abbrev pub Follows : Way → List Part → List Part → Type 0
Follows way before [] = Unit {0}
Follows way before (p ∷ parts) = (p.choice ≡ way before) × Follows way (p ∷ before) parts
