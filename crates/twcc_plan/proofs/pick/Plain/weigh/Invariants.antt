-- Each turn weighs one more symbol.
use mathlib.Core.List.{map}
use Rattle.twcc.specs.Words.{symbol_of}
use Rattle.twcc_plan.proofs.Fourteen.{Weighing}
use Rattle.twcc_plan.proofs.pick.Plain.weigh.Given as goal

abbrev pub invariant-loop-word : goal.invariant-loop-word
invariant-loop-word l = Weighing (map symbol_of l.self.rest.now) l.sum l.weight l.word-index
