-- The chunk picked for what remains, as the limit leaves it.
use Prim.Native.Nat.{◌<◌}
use mathlib.Core.Path.{sym, ◌∙◌}
use native.Mathlib.Omega.{arith}
use borrow.Author.Tests.{eqb-true, eqb-false}
use lib.ListN.{length}
use Rattle.octets.proofs.Logic.{nothing}
use Rattle.twcc_plan.specs.Steps.{step_in}
use Rattle.twcc_plan.proofs.Stepping.{picked_slim, step_is}
use Rattle.twcc_plan.proofs.next_chunk.Goals as goal
use Rattle.twcc_plan.proofs.next_chunk.Goals.{Else-is_empty}

pub returns-then-is_empty : goal.returns-then-is_empty
unfolding step_in
returns-then-is_empty c = rw (nothing c.args.rest.now (eqb-true _ _ (sym c.is_empty.ensures ∙ c.if-is_empty.true)))

there : (c : Else-is_empty) → 0 < length c.args.rest.now
there c = omega (arith, eqb-false _ _ (sym c.is_empty.ensures ∙ c.if-is_empty.false))

pub fitted-requires : goal.fitted-requires
fitted-requires c = (omega (arith, c.requires), picked_slim _ c.args.rest.now (there (goal.at.fitted-requires c).Else-is_empty) c.pick.ensures)

pub returns : goal.returns
returns c = c.fitted.ensures ∙ step_is _ c.args.rest.now (there (goal.at.returns c).Else-is_empty) c.pick.ensures _ _
