-- All have their bytes, or those that do are listed and the rest is cut.
use native.Mathlib.Omega.{arith}
use lib.ListN.{length}
use Rattle.twcc_read.proofs.Runs.{reach, run_cut}
use Rattle.twcc_read.proofs.fill.fill_run_of.Goals as goal

pub returns : goal.returns
returns g c =
    let whole = length c.split_at_mut-whole.result.0.now in
    let far = reach g.row.SYMBOL (length c.args.list.now) whole (length c.args.bytes.now) c.requires.0 c.requires.1 (omega arith) (omega arith) in
    run_cut g.row.SYMBOL _ whole _ c.requires.0 c.requires.1 (omega arith) far.0 far.1 c.fill_eights-2.ensures (c.fill.ensures.after (λ y same. same))
