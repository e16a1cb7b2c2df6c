-- Each turn stores one word's delta bytes behind those before it.
use Prim.Native.Nat.{◌*◌}
use lib.ListN.{take}
use Rattle.twcc.specs.Words.{deltas}
use Rattle.twcc_write.specs.Stores.{Stored}
use Rattle.twcc_write.proofs.deltas.put_run.Given as goal

abbrev pub invariant-loop-n : goal.invariant-loop-n
invariant-loop-n g l = Stored (deltas (take l.n l.words)) (g.row.N * l.n) l.initial.out l.out
