use Prim.Native.Nat.{◌+◌, ◌*◌, ◌≤◌, ◌<◌}
use native.Mathlib.Omega.{arith}
use Rattle.std.proofs.Common.{rules}
use lib.ListN.{drop, length-take, length-drop}
use lib.Seq.{get_or-drop, get_or-take}
use Rattle.twcc_plan.proofs.Symbols.{symbol-there}
use Rattle.twcc_plan.proofs.Packing.{turn-fits}
use Rattle.twcc_plan.proofs.Sevens.{four, gathering_turn, gathering_over}
use Rattle.twcc_plan.proofs.pick.Many.gather.Goals as goal
use Rattle.twcc_plan.proofs.pick.Many.gather.Goals.{After-symbol-symbol}

more : (c : After-symbol-symbol) → c.loop-word.word-index < 7
more c = omega (arith, c.loop-word-test.true, length-take 7 (drop c.args.at c.args.self.now.rest.now))

-- the sums are small
small : (c : After-symbol-symbol) → (c.loop-word.two * 4 + 4 ≤ 32768) × (c.loop-word.width ≤ 14) × (c.loop-word.twos ≤ 7)
small c = let g = c.loop-word.invariant in
    (turn-fits four _ g.wide (more c), omega (arith, g.wide.light, g.wide.within), omega (arith, g.few, g.wide.within))

pub overflow_mul-two : goal.overflow_mul-two
overflow_mul-two c = omega (arith, small (goal.at.overflow_mul-two c).After-symbol-symbol)

pub overflow_add-two : goal.overflow_add-two
overflow_add-two c = omega (arith, small (goal.at.overflow_add-two c).After-symbol-symbol, c.symbol-symbol.ensures.1)

pub loop-word-preserved : goal.loop-word-preserved
loop-word-preserved c =
    gathering_turn c.loop-word.invariant (more (goal.at.loop-word-preserved c).After-symbol-symbol) _ (search (rules, symbol-there, get_or-take, get_or-drop)) c.symbol-symbol.ensures.1

pub returns : goal.returns
returns c = gathering_over c.loop-word.invariant (omega (arith, length-take 7 (drop c.args.at c.args.self.now.rest.now), length-drop c.args.at c.args.self.now.rest.now))
