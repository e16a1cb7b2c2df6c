-- What fits stands in the part that it was copied to.
use native.Mathlib.Omega.{arith}
use Rattle.lent.proofs.Laws.{part_stored}
use Rattle.lent.proofs.copy.Goals as goal

pub returns : goal.returns
returns c = let a = c.args in
    part_stored a.out.now _ a.from.now a.at _ _ c.min-start.ensures (omega arith) c.copy_from_slice.ensures.after
