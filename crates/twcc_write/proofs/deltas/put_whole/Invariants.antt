-- Each turn stores one word's delta bytes behind those before it.
use lib.ListN.{take}
use Rattle.twcc.specs.Words.{deltas}
use Rattle.twcc_write.specs.Stores.{Begins}
use Rattle.twcc_write.proofs.deltas.put_whole.Given as goal

abbrev pub invariant-loop-word : goal.invariant-loop-word
invariant-loop-word g l = Begins (deltas (take l.word-index l.words)) l.p l.out
