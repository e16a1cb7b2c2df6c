use mathlib.Core.Path.{refl}
use native.Mathlib.Omega.{arith}
use mir.Syntax.{w32}
use mir.Val.{SFits}
use borrow.Author.Rules.{rules}
use lib.IntN.{pos}
use lib.ListN.{get_or}
use Rattle.twcc_read.proofs.Filling.{copied_one, copied_all, stored}
use Rattle.twcc_read.proofs.fill.fill_eight.Goals as goal

pub loop-j-preserved : goal.loop-j-preserved
loop-j-preserved g c =
    let fits : SFits w32 (get_or c.fill_deltas.new.list c.loop-j.j (pos 0)) = search rules in
    copied_one _ _ c.loop-j.invariant (omega arith) (omega arith) (stored fits refl)

pub returns : goal.returns
returns g c = rw (copied_all _ _ c.loop-j.invariant (omega arith) (omega arith)) c.fill_deltas.ensures
