-- The turns that are left, from here, say what the whole pass says; fewer than four bytes at the end have no header.
use Prim.Native.Nat.{◌*◌, ◌-◌, ◌/◌}
use Rattle.compound.proofs.Laws.{Passing}
use Rattle.compound.proofs.parse.Given as goal

abbrev pub invariant-loop-word : goal.invariant-loop-word
invariant-loop-word l = Passing l.bytes (4 * l.word)

abbrev pub decreases-loop-word : goal.decreases-loop-word
decreases-loop-word l = l.end / 4 - l.word
