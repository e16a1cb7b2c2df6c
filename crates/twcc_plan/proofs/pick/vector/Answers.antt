use Prim.Native.Nat.{min}
use mathlib.Core.Path.{sym, ap, ◌∙◌}
use mathlib.Core.List.{map}
use native.Mathlib.Omega.{arith}
use lib.ListN.{length-map}
use Rattle.twcc.specs.Words.{symbol_of}
use Rattle.twcc_plan.specs.Picked.{vector_of}
use Rattle.twcc_plan.proofs.Packing.{turn-fits, packing_turn, packing_over}
use Rattle.twcc_plan.proofs.pick.vector.Goals as goal

pub overflow_mul-digits : goal.overflow_mul-digits
overflow_mul-digits c = omega (arith, turn-fits c.requires _ c.loop-place.invariant c.loop-place-test.true)

pub overflow_add-digits : goal.overflow_add-digits
overflow_add-digits c = omega (arith, turn-fits c.requires _ c.loop-place.invariant c.loop-place-test.true, c.symbol_at-symbol.ensures.1)

pub loop-place-preserved : goal.loop-place-preserved
loop-place-preserved c = packing_turn c.requires _ c.loop-place.invariant c.loop-place-test.true _ c.symbol_at-symbol.ensures.0 c.symbol_at-symbol.ensures.1

pub returns : goal.returns
unfolding vector_of
returns c = let a = c.args in
    let over = packing_over c.requires (map symbol_of a.rest.now) c.loop-place.invariant c.loop-place-test.false in
    let count = c.lesser.ensures ∙ ap (min a.places) (sym (length-map a.rest.now symbol_of)) in
    cc
