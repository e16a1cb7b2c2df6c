use Prim.Native.Nat.{◌/◌}
use mathlib.Core.Path.{◌≡◌}
use native.Mathlib.Omega.{arith}
use lib.ListN.{length}
use Rattle.twcc_read.proofs.Filling.{listing_start}
use Rattle.twcc_read.proofs.Runs.{listing_run, listing_rest}
use Rattle.twcc_read.proofs.fill.fill_eights.Goals as goal

pub loop-k-init : goal.loop-k-init
loop-k-init g c = listing_start _ _ _ _ (omega arith)

pub loop-k-preserved : goal.loop-k-preserved
loop-k-preserved g c = listing_run g.row.SYMBOL _ 8 _ c.loop-k.invariant c.fill_eight.ensures (omega arith) (omega arith) c.loop-k.auto.list

pub returns : goal.returns
returns g c =
    let eights : c.loop-k.k ≡ length c.args.list.now / 8 = omega arith in
    listing_rest g.row.SYMBOL _ (rw eights at c.loop-k.invariant) c.fill_deltas.ensures (omega arith) c.loop-k.auto.list
