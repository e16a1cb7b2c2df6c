use native.Mathlib.Omega.{arith}
use borrow.Author.Rules.{rules}
use lib.IntN.{pos}
use lib.ListN.{get_or}
use mir.Syntax.{w32}
use mir.Val.{SFits}
use mir.Facts.{to_z-of_z}
use Rattle.twcc_write.proofs.Beginning.{none_yet, next_storable, next_begins}
use Rattle.twcc_write.proofs.deltas.put_each.Goals as goal

pub loop-word-init : goal.loop-word-init
loop-word-init c = none_yet _

pub put_word-p-requires : goal.put_word-p-requires
put_word-p-requires c =
    let fits : SFits w32 (get_or c.args.words.now c.loop-word.word-index (pos 0)) = search rules in
    rw (to_z-of_z {w = w32} fits) (next_storable _ _ _ _ c.loop-word.invariant.size c.loop-word-test.true c.requires.valid (omega (arith, c.requires.room, c.loop-word.auto.out)))

pub loop-word-preserved : goal.loop-word-preserved
loop-word-preserved c =
    let fits : SFits w32 (get_or c.args.words.now c.loop-word.word-index (pos 0)) = search rules in
    next_begins _ _ _ _ c.loop-word.invariant.size c.loop-word-test.true _ _ _ c.loop-word.invariant (rw (to_z-of_z {w = w32} fits) at c.put_word-p.ensures)
