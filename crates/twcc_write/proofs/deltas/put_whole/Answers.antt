use Prim.Native.Nat.{◌*◌, ◌≤◌}
use mathlib.Core.Path.{◌≡◌}
use native.Mathlib.Omega.{arith}
use borrow.Author.Rules.{rules}
use lib.IntN.{pos}
use lib.ListN.{length, get_or}
use mir.Syntax.{w32}
use mir.Val.{SFits}
use mir.Facts.{to_z-of_z}
use Rattle.twcc_write.proofs.Beginning.{none_yet, most_storable, next_begins}
use Rattle.twcc_write.proofs.deltas.put_whole.Goals as goal

pub loop-word-init : goal.loop-word-init
loop-word-init g c = none_yet _

pub put_most-p-requires : goal.put_most-p-requires
put_most-p-requires g c =
    let ask = c.requires in
    let fits : SFits w32 (get_or c.args.words.now c.loop-word.word-index (pos 0)) = search rules in
    let size : length c.args.words.now ≡ g.row.N = search rules in
    let room : g.row.MOST * length c.args.words.now ≤ length c.loop-word.out = rw size (omega (arith, ask.0, c.loop-word.auto.out)) in
    rw (to_z-of_z {w = w32} fits) (most_storable _ _ _ _ c.loop-word.invariant.size (omega (arith, size, c.loop-word-test.true)) g.row.MOST ask.2 ask.1 room)

pub loop-word-preserved : goal.loop-word-preserved
loop-word-preserved g c =
    let fits : SFits w32 (get_or c.args.words.now c.loop-word.word-index (pos 0)) = search rules in
    let size : length c.args.words.now ≡ g.row.N = search rules in
    next_begins _ _ _ _ c.loop-word.invariant.size (omega (arith, size, c.loop-word-test.true)) _ _ _ c.loop-word.invariant (rw (to_z-of_z {w = w32} fits) at c.put_most-p.ensures)
