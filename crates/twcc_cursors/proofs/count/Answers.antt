use mathlib.Core.Path.{ap, ◌∙◌}
use native.Mathlib.Omega.{arith}
use Rattle.twcc_cursors.specs.declared.Header.{Header}
use Rattle.twcc_cursors.proofs.Steps.{headed_ok, headed_err, step_none, step_some, counting_start, counting_more, counting_over, counting_short}
use Rattle.twcc_cursors.proofs.count.Goals as goal

pub returns-in_default : goal.returns-in_default
returns-in_default c = counting_short _ (headed_err _ c.in_default.ensures).0

pub loop-got-init : goal.loop-got-init
loop-got-init c = let h = headed_ok _ c.in-Ok.ensures in
    counting_start _ _ (c.from.ensures ∙ ap (λ (k : Header). k.statuses) h.1) (omega arith) h.0

pub overflow_add-listed : goal.overflow_add-listed
overflow_add-listed c = let t = step_some _ _ c.in-Some.ensures in omega arith

pub loop-got-smaller : goal.loop-got-smaller
loop-got-smaller c = let t = step_some _ _ c.in-Some.ensures in omega arith

pub loop-got-preserved : goal.loop-got-preserved
loop-got-preserved c = counting_more c.loop-got.invariant (step_some _ _ c.in-Some.ensures)

pub returns : goal.returns
returns c = counting_over c.loop-got.invariant (step_none _ _ c.in_default-next.ensures)
