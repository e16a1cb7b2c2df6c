-- The same of the code: calls of `write` and `read` one after the other, of which nothing is known but their promises.
use Rattle.std.specs.Prelude.{ℕ, zero, ◌≤◌, ◌<◌, ◌≡◌, List, [], ◌∷◌, ◌++◌, map, ℤ, length, take, drop, Result, Ok}
use Rattle.kinds.specs.Seq.{later}
use Rattle.refusal.specs.declared.Refusal.{Refusal}
use Rattle.twcc_plan.specs.Block.{taken_of, size_of}
use Rattle.twcc_read.specs.Promise.{Reads}
use Rattle.twcc_read.specs.declared.Listed.{Listed}
use Rattle.twcc_write.specs.Promise.{Wrote}
use Rattle.twcc_write.specs.declared.Used.{Used}
use Rattle.twcc_cut.specs.Numbered.{Numbered, numbered}
use Rattle.twcc_cut.specs.Cut.{Choice, Fits, Part, AllKept}

-- one block by a call of each: the writer's buffer before and after with what it answered, and the reader's list before and
-- after with what it answered
pub record Call : Type 0 where
  pub choice : Choice
  pub before : List ℕ
  pub used : Used
  pub after : List ℕ
  pub room : List ℤ
  pub said : Listed
  pub words : List ℤ

-- the bytes that the writer wrote
abbrev pub block_of : Call → List ℕ
block_of c = take c.used.bytes c.after

abbrev pub part_from : Call → Part
part_from c = record { choice = c.choice; taken = c.used.taken; block = block_of c }

pub data Calls : ℕ → List ℤ → List Call → Type 0 where
  nothing_left : {base : ℕ} → Calls base [] []
  one_more : {base : ℕ} {list : List ℤ} {calls : List Call} (c : Call) → zero < length list
      → Wrote base c.choice.time c.choice.feedback list c.choice.limit c.before (Ok c.used) c.after
      → Reads (block_of c) c.room (Ok c.said) c.words
      → Calls (later base c.used.taken) (drop c.used.taken list) calls
      → Calls base list (c ∷ calls)

-- what the reader gave, laid end to end
unfoldable pub given : List Call → List Numbered
given [] = []
given (c ∷ calls) = numbered c.said.header.base.0 0 (take c.said.count c.words) ++ given calls

pub record CallsWhole (base : ℕ) (list : List ℤ) (calls : List Call) : Type 0 where
  pub each : AllKept (map part_from calls)
  pub read_back : given calls ≡ numbered base 0 list

-- ---- calls with room

-- what one pair of calls is made with
pub record Means : Type 0 where
  pub choice : Choice
  pub buffer : List ℕ
  pub room : List ℤ

-- a choice that fits, and room for what is left
abbrev pub Enough : Means → List ℤ → Type 0
Enough m list = Fits m.choice × (size_of m.choice.limit list ≤ length m.buffer) × (taken_of m.choice.limit list ≤ length m.room)

-- a writer and a reader that keep their promises, and nothing else is known of them
abbrev pub Writer : Type 0
Writer =
    (base : ℕ) (list : List ℤ) (m : Means)
    → (answer : Result Used Refusal) × ((new : List ℕ) × Wrote base m.choice.time m.choice.feedback list m.choice.limit m.buffer answer new)

abbrev pub Reader : Type 0
Reader = (block : List ℕ) (room : List ℤ) → (r : Result Listed Refusal) × ((words : List ℤ) × Reads block room r words)

-- a way of choosing: from the calls made so far, the last one first, and what is left
abbrev pub Ways : Type 0
Ways = List Call → List ℤ → Means
