-- What `read` promises of its answer and of the whole lent list.
use Rattle.std.specs.Prelude.{ℕ, List, [], ◌∷◌, cond, ltb, ℤ, length, Result}
use Rattle.refusal.specs.Outcome.{Outcome, gave, refuse}
use Rattle.refusal.specs.declared.Refusal.{Refusal}
use Rattle.lent.specs.Fills.{Fills}
use Rattle.twcc.specs.Block.{listed}
use Rattle.twcc_cursors.specs.Cursors.{header_of}
use Rattle.twcc_read.specs.declared.Listed.{Listed}

-- the answer, where the list has room for so many words
unfoldable pub read_answer : List ℕ → ℕ → Outcome Listed
read_answer block room =
    cond (ltb (length block) 8) (refuse 1 (8 ∷ length block ∷ []))
    (cond (ltb room (length (listed block))) (refuse 15 (length (listed block) ∷ room ∷ []))
    (gave (record { header = header_of block; count = length (listed block) })))

abbrev pub Reads : List ℕ → List ℤ → Result Listed Refusal → List ℤ → Type 0
Reads block old = Fills (read_answer block (length old)) 0 (listed block) old
