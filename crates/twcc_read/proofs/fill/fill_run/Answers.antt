-- The match says which symbol it is.
use native.Mathlib.Omega.{arith}
use Rattle.twcc_read.proofs.Runs.{run_none, run_reserved}
use Rattle.twcc_read.proofs.fill.fill_run.Goals as goal

pub returns-in-0 : goal.returns-in-0
returns-in-0 c = run_none _ _ (omega arith) (c.fill.ensures.after (λ y same. same))

pub returns-in_default : goal.returns-in_default
returns-in_default c = run_reserved _ _ (omega arith) (c.fill-in_default.ensures.after (λ y same. same))
