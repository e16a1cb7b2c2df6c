-- Each turn lists eight deltas' words.
use Prim.Native.Nat.{◌*◌}
use lib.ListN.{length, replicate}
use Rattle.twcc_read.proofs.Filling.{Listing}
use Rattle.twcc_read.proofs.fill.fill_eights.Given as goal

abbrev pub invariant-loop-k : goal.invariant-loop-k
invariant-loop-k g l = Listing l.bytes (replicate (length l.initial.list) g.row.SYMBOL) (g.row.SYMBOL * (8 * l.k)) (8 * l.k) l.list
