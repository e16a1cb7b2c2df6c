use Prim.Native.Nat.{◌≤◌, ◌<◌}
use mathlib.Core.Path.{◌∙◌}
use native.Mathlib.Omega.{arith}
use borrow.Author.Rules.{rules}
use lib.IntN.{pos}
use lib.ListN.{length, get_or, take, length-take}
use lib.Seq.{get_or-take}
use mir.Syntax.{w32}
use mir.Val.{SFits}
use mir.Facts.{to_z-of_z}
use Rattle.twcc_plan.proofs.Symbols.{symbol-there}
use Rattle.twcc_plan.proofs.Fourteen.{ones_long, weighing_turn, weighing_over}
use Rattle.twcc_plan.proofs.pick.Plain.weigh.Goals as goal

pub loop-word-preserved : goal.loop-word-preserved
loop-word-preserved c =
    let rest = c.args.self.now.rest.now in
    let n = c.loop-word.word-index in
    let ones = c.args.self.now.ones in
    let long : 14 ≤ length rest = ones_long rest ones in
    let more : n < 14 = omega (arith, length-take 14 rest) in
    let fits : SFits w32 (get_or (take 14 rest) n (pos 0)) = search rules in
    let is = to_z-of_z {w = w32} fits ∙ get_or-take 14 rest n (pos 0) more in
    weighing_turn c.loop-word.invariant ones more _
    (rw (is, symbol-there rest n (pos 0) (omega arith)) at c.weighed-sum.ensures.0) c.weighed-sum.ensures.1

pub returns : goal.returns
returns c = let rest = c.args.self.now.rest.now in
    weighing_over c.loop-word.invariant (omega (arith, length-take 14 rest, ones_long rest c.args.self.now.ones))

pub slice_bounds-word-items-end : goal.slice_bounds-word-items-end
slice_bounds-word-items-end c = let rest = c.args.self.now.rest.now in
    omega (arith, length-take 14 rest, ones_long rest c.args.self.now.ones)
