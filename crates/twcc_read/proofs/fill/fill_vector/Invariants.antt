-- Each turn lists one symbol's entry, and at most as many bytes go with it as it has bits.
use Rattle.twcc_read.proofs.Symbols.{Vector}
use Rattle.twcc_read.proofs.fill.fill_vector.Given as goal

abbrev pub invariant-loop-j : goal.invariant-loop-j
invariant-loop-j g l = Vector l.bytes g.row.BITS l.chunk l.p l.j l.list
