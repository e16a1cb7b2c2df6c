-- Each turn lists the entry of one symbol.
use lib.ListN.{length, take}
use Rattle.twcc.specs.Chunks.{stands_for}
use Rattle.twcc_read.proofs.Filling.{Listing}
use Rattle.twcc_read.proofs.fill.fill_each.Given as goal

abbrev pub invariant-loop-j : goal.invariant-loop-j
invariant-loop-j l = Listing l.bytes (take (length l.initial.list) (stands_for l.chunk)) l.deltas.at l.j l.list
