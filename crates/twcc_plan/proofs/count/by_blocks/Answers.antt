-- The blocks, and behind them one by one.
use Rattle.twcc_plan.proofs.Fronts.{passes_on}
use Rattle.twcc_plan.proofs.count.by_blocks.Goals as goal

pub returns : goal.returns
returns g c = passes_on _ _ _ c.whole_blocks-n.ensures.pass _ c.whole_blocks-n.ensures.within c.one_by_one.ensures
