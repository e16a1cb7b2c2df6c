-- A chunk that lists nothing leaves what is to come as it was.
use Prim.Native.Nat.{◌-◌}
use mathlib.Core.Path.{◌≡◌}
use lib.ListN.{length, drop}
use Rattle.twcc_cursors.specs.Cursors.{full_chunk}
use Rattle.twcc_cursors.proofs.Chunks.next_full.Given as goal

abbrev pub invariant-loop-got : goal.invariant-loop-got
invariant-loop-got l = full_chunk (drop l.c.at l.block) l.c.at l.c.left ≡ full_chunk (drop l.initial.c.at l.block) l.initial.c.at l.initial.c.left

abbrev pub decreases-loop-got : goal.decreases-loop-got
decreases-loop-got l = length l.block - l.c.at
