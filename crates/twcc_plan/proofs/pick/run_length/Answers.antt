-- The symbol at the front, and its run.
use Rattle.twcc_plan.specs.Choice.{run_of}
use Rattle.twcc_plan.proofs.pick.run_length.Goals as goal

pub returns : goal.returns
unfolding run_of
returns c = rw (← c.symbol_at.ensures.0) c.run_known.ensures
