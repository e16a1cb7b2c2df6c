-- What is counted and what the chunks to come list make the block's count.
use Prim.Native.Nat.{◌-◌}
use lib.ListN.{length}
use Rattle.twcc_cursors.proofs.Steps.{Counting}
use Rattle.twcc_cursors.proofs.count.Given as goal

abbrev pub invariant-loop-got : goal.invariant-loop-got
invariant-loop-got l = Counting l.block l.c l.listed

abbrev pub decreases-loop-got : goal.decreases-loop-got
decreases-loop-got l = length l.block - l.c.at
