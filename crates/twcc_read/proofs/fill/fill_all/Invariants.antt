-- Each turn lists one chunk's entries.
use Prim.Native.Nat.{◌-◌}
use lib.ListN.{length}
use Rattle.twcc_read.proofs.Chunks.{Filling}
use Rattle.twcc_read.proofs.fill.fill_all.Given as goal

abbrev pub invariant-loop-got : goal.invariant-loop-got
invariant-loop-got l = Filling l.block l.statuses l.start l.c l.d l.k l.initial.list l.list

abbrev pub decreases-loop-got : goal.decreases-loop-got
decreases-loop-got l = length l.block - l.c.at
