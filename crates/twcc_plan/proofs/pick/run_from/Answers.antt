-- The near part, and where that is a run the blocks and what is left of them.
use Prim.Native.Nat.{◌+◌, min}
use Rattle.std.proofs.Common.{rules}
use mathlib.Core.Path.{◌≡◌}
use mathlib.Core.List.{map}
use native.Mathlib.Omega.{arith}
use lib.Dec.{eqb}
use lib.ListN.{length-map}
use Rattle.twcc.specs.Words.{symbol_of}
use Rattle.twcc_plan.specs.Front.{front}
use Rattle.twcc_plan.proofs.Fronts.{front_le, front_between}
use Rattle.twcc_plan.proofs.pick.run_from.Goals as goal
use Rattle.twcc_plan.proofs.pick.run_from.Goals.{After-one_by_one}

-- the near part
near : (g : _) (c : After-one_by_one g) → c.args.from + c.one_by_one.result ≡ min c.min.result (front (eqb g.row.SYMBOL) (map symbol_of c.args.rest.now))
near g c = front_between (eqb g.row.SYMBOL) _ (λ w r says. search rules) c.args.rest.now c.args.from c.min.result c.one_by_one.result c.requires.run (omega (arith, c.requires.within, length-map c.args.rest.now symbol_of)) c.one_by_one.ensures

pub returns-then-n-far : goal.returns-then-n-far
returns-then-n-far g c = omega (arith, near g (goal.at.returns-then-n-far g c).After-one_by_one, c.if-n-far.true, front_le (eqb g.row.SYMBOL) (map symbol_of c.args.rest.now), length-map c.args.rest.now symbol_of)

pub returns : goal.returns
returns g c =
    let known = near g (goal.at.returns g c).After-one_by_one in
    let far = front_between (eqb g.row.SYMBOL) _ (λ w r says. search rules) c.args.rest.now (c.args.from + c.one_by_one.result) c.min-end.result c.by_blocks.result (omega (arith, known)) (omega (arith, known)) c.by_blocks.ensures in
    omega (arith, far, front_le (eqb g.row.SYMBOL) (map symbol_of c.args.rest.now), length-map c.args.rest.now symbol_of)
