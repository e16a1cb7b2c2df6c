-- The weight settles whether all are equal.
use Prim.Native.Nat.{◌/◌}
use mathlib.Core.Path.{◌∙◌}
use mathlib.Core.List.{map}
use native.Mathlib.Omega.{arith}
use lib.ListN.{length-map}
use Rattle.twcc.specs.Words.{symbol_of}
use Rattle.twcc_plan.specs.Picked.{Known}
use Rattle.twcc_plan.proofs.Fourteen.{ones_long, plain_alike, plain_known, plain-run, plain-one}
use Rattle.twcc_plan.proofs.pick.Plain.pick.Goals as goal

pub run_known-requires : goal.run_known-requires
run_known-requires c =
    let many = c.args.self.now in
    let ss = map symbol_of many.rest.now in
    let sum = c.weigh-sum.ensures in
    let equal = c.if-width-eq0.true in
    let known : Known ss (c.weigh-sum.result / 65536 / 14) 14 = record { within = rw length-map (omega (arith, ones_long many.rest.now many.ones)); run = plain_alike ss many.ones _ sum equal } in
    (omega (arith, plain_known ss many.ones _ sum equal), known)

pub run_picked-requires : goal.run_picked-requires
run_picked-requires c =
    let many = c.args.self.now in
    (omega (arith, plain_known (map symbol_of many.rest.now) many.ones _ c.weigh-sum.ensures c.if-width-eq0.true), omega (arith, c.run_known.ensures))

pub returns-then-width-eq0 : goal.returns-then-width-eq0
returns-then-width-eq0 c =
    let many = c.args.self.now in
    c.run_picked.ensures ∙ plain-run (map symbol_of many.rest.now) many.ones _ c.weigh-sum.ensures c.if-width-eq0.true _ c.run_known.ensures

pub returns : goal.returns
returns c = let many = c.args.self.now in plain-one (map symbol_of many.rest.now) many.ones _ c.weigh-sum.ensures c.if-width-eq0.false
