-- Each turn takes the plan's next chunk and stores it.
use Prim.Native.Nat.{◌-◌}
use lib.ListN.{length}
use Rattle.twcc_plan.proofs.Planning.{Planning}
use Rattle.twcc_plan.proofs.plan_chunks.Given as goal

abbrev pub invariant-loop-c : goal.invariant-loop-c
invariant-loop-c l = Planning l.list l.limit l.initial.out l.out l.chunks l.used l.taken

abbrev pub decreases-loop-c : goal.decreases-loop-c
decreases-loop-c l = length l.list - l.taken
