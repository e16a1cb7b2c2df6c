use mathlib.Core.Path.{refl, sym, ◌∙◌}
use native.Mathlib.Omega.{arith}
use mir.Syntax.{w32}
use mir.Val.{SFits}
use borrow.Author.Rules.{rules}
use lib.ListN.{length, length-take}
use lib.Seq.{get_or-take}
use Rattle.twcc.specs.Chunks.{stands_for}
use Rattle.twcc_read.proofs.Filling.{listing_start, listing_over, stored}
use Rattle.twcc_read.proofs.Symbols.{listing_next}
use Rattle.twcc_read.proofs.fill.fill_each.Goals as goal

pub loop-j-init : goal.loop-j-init
loop-j-init c = listing_start _ _ _ _ refl

pub loop-j-preserved : goal.loop-j-preserved
loop-j-preserved c =
    let n = length c.args.list.now in
    let ss = stands_for c.args.chunk in
    let more = c.loop-j-test.true in
    let fits : SFits w32 c.next-delta.result.word = search rules in
    listing_next c.next-delta.result c.loop-j.invariant (omega (arith, length-take n ss)) (omega arith)
    (c.symbol_at.ensures ∙ sym (get_or-take n ss c.loop-j.j 0 more)) c.next-delta.ensures (stored fits refl)

pub returns : goal.returns
returns c = listing_over c.loop-j.invariant (omega (arith, length-take (length c.args.list.now) (stands_for c.args.chunk))) (omega arith)
