-- Each turn lists one delta's word.
use Prim.Native.Nat.{◌*◌}
use lib.ListN.{length, replicate}
use Rattle.twcc_read.proofs.Filling.{Listing}
use Rattle.twcc_read.proofs.fill.fill_deltas.Given as goal

abbrev pub invariant-loop-j : goal.invariant-loop-j
invariant-loop-j g l = Listing l.bytes (replicate (length l.initial.list) g.row.SYMBOL) (g.row.SYMBOL * l.j) l.j l.list
