use mathlib.Core.Path.{◌∙◌}
use native.Mathlib.Omega.{arith}
use Rattle.twcc_cursors.proofs.Steps.{step_none, step_some}
use Rattle.twcc_cursors.proofs.Chunks.next_full.Goals as goal

pub returns-then-got-gt0 : goal.returns-then-got-gt0
returns-then-got-gt0 c = (step_some _ _ c.in-Some.ensures).full c.if-got-gt0.true ∙ c.loop-got.invariant

pub loop-got-smaller : goal.loop-got-smaller
loop-got-smaller c = let t = step_some _ _ c.in-Some.ensures in omega arith

pub loop-got-preserved : goal.loop-got-preserved
loop-got-preserved c = (step_some _ _ c.in-Some.ensures).empty c.if-got-gt0.false ∙ c.loop-got.invariant

pub returns : goal.returns
returns c = (step_none _ _ c.in_default.ensures).full ∙ c.loop-got.invariant
