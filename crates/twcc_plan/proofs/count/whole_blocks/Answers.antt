use mathlib.Core.Path.{◌∙◌}
use Rattle.twcc_plan.proofs.Fronts.{blocks_turn}
use Rattle.twcc_plan.proofs.count.whole_blocks.Goals as goal

pub loop-block-preserved : goal.loop-block-preserved
loop-block-preserved g c =
    let steps = c.in-Some.ensures.steps in
    let before = c.loop-block.invariant in
    (steps.0 ∙ before.0, blocks_turn before.1 c.in-Some.block.now _ _ steps.1.0 (steps.1.1 ∙ before.0) (c.all_pass.ensures c.if-not-all_pass.false))
