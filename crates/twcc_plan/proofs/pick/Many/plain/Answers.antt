use Prim.Native.Nat.{◌<◌}
use lib.IntN.{pos}
use lib.ListN.{get_or, take, length-take}
use lib.Seq.{get_or-take}
use mir.Syntax.{w32}
use mir.Val.{SFits}
use Rattle.std.proofs.Math.Facts.{of_z-to_z, Fits-of_z, Fits-or}
use native.Mathlib.Omega.{arith}
use borrow.Author.Rules.{rules}
use Rattle.twcc_plan.proofs.Fourteen.{together_turn, together_over}
use Rattle.twcc_plan.proofs.pick.Many.plain.Goals as goal

pub loop-word-preserved : goal.loop-word-preserved
loop-word-preserved c =
    let rest = c.args.self.now.rest.now in
    let n = c.loop-word.word-index in
    let more : n < 14 = omega (arith, length-take 14 rest) in
    let fits : SFits w32 (get_or (take 14 rest) n (pos 0)) = search rules in
    let same = get_or-take 14 rest n (pos 0) more in
    let back = of_z-to_z {w = w32} c.loop-word.auto.bits-fits in
    rw (of_z-to_z {w = w32} (Fits-or {w = w32} c.loop-word.auto.bits-fits (Fits-of_z {w = w32} fits)), same)
    (together_turn (rw back at c.loop-word.invariant) more (omega arith) (rw same at fits))

pub returns-then-contains : goal.returns-then-contains
returns-then-contains c = λ plain. together_over c.loop-word.invariant (omega (arith, length-take 14 c.args.self.now.rest.now)) (search rules)
