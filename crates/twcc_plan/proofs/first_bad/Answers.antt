-- The words at the front that are in range.
use Rattle.std.proofs.Common.{rules}
use Rattle.twcc_plan.specs.Block.{in_range}
use Rattle.twcc_plan.proofs.Fronts.{front_is}
use Rattle.twcc_plan.proofs.first_bad.Goals as goal

pub returns : goal.returns
returns c = front_is in_range _ (λ w r says. search rules) _ _ c.by_blocks.ensures
