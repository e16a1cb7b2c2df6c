-- Bits that the words together lack, each lacks.
use mir.Syntax.{w32}
use mir.Val.{of_z}
use Rattle.twcc_plan.proofs.Fourteen.{Together}
use Rattle.twcc_plan.proofs.pick.Many.plain.Given as goal

abbrev pub invariant-loop-word : goal.invariant-loop-word
invariant-loop-word l = Together l.self.rest.now (of_z w32 l.bits) l.word-index
