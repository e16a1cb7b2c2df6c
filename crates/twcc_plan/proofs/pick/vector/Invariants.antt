-- The digits so far, moved up by the places left, and the digits left make the whole.
use mathlib.Core.List.{map}
use Rattle.twcc.specs.Words.{symbol_of}
use Rattle.twcc_plan.proofs.Packing.{Packing}
use Rattle.twcc_plan.proofs.pick.vector.Given as goal

abbrev pub invariant-loop-place : goal.invariant-loop-place
invariant-loop-place l = Packing l.base l.places (map symbol_of l.rest) l.digits l.width l.place
