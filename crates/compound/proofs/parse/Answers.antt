-- Too few bytes for a header: of all, and of those behind the last turn. No call says there at which offset the pass stands, so the check is
-- told.
use mathlib.Core.Path.{sym}
use native.Mathlib.Omega.{arith}
use Rattle.compound.proofs.Laws.{pass-short, passing_short}
use Rattle.compound.proofs.parse.Goals as goal

pub returns-in_err-check_present : goal.returns-in_err-check_present
returns-in_err-check_present c = grind (arith, pass-short)

pub returns-then-word-end : goal.returns-then-word-end
returns-then-word-end c = sym (passing_short c.loop-word.invariant (omega arith) (omega arith))
