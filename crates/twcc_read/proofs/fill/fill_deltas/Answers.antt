use native.Mathlib.Omega.{arith}
use Rattle.twcc_read.proofs.Filling.{listing_start, stored}
use Rattle.twcc_read.proofs.Runs.{listing_delta, deltas_over}
use Rattle.twcc_read.proofs.fill.fill_deltas.Goals as goal

pub loop-j-init : goal.loop-j-init
loop-j-init g c = listing_start _ _ _ _ (omega arith)

pub loop-j-preserved : goal.loop-j-preserved
loop-j-preserved g c =
    listing_delta g.row.SYMBOL _ c.loop-j.invariant c.requires.a_delta.0 c.requires.a_delta.1 c.requires.there c.loop-j-test.true c.loop-j.auto.list
    (stored (record { sfits = c.word.type_inv }) c.word.ensures)

pub returns : goal.returns
returns g c = deltas_over g.row.SYMBOL _ c.loop-j.invariant (omega arith) c.loop-j.auto.list
