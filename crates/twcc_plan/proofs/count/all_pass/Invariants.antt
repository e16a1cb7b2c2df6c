-- While all passed, each word so far did.
use Rattle.std.proofs.Common.{◌≡◌, true}
use Rattle.twcc_plan.specs.Front.{Yes}
use Rattle.twcc_plan.proofs.count.all_pass.Given as goal

abbrev pub invariant-loop-word : goal.invariant-loop-word
invariant-loop-word g l = l.all ≡ true → Yes (goal.F-post g l.test) l.block l.word-index
