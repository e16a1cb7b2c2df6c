-- At most fourteen.
use Rattle.std.proofs.Common.{rules}
use mathlib.Core.List.{map}
use native.Mathlib.Omega.{arith}
use lib.ListN.{length-map}
use Rattle.twcc.specs.Words.{symbol_of}
use Rattle.twcc_plan.specs.Choice.{one_bit, ones_of}
use Rattle.twcc_plan.proofs.Fronts.{front_le, front_first}
use Rattle.twcc_plan.proofs.pick.ones_length.Goals as goal

pub returns : goal.returns
unfolding ones_of
returns c =
    let rest = c.args.rest.now in
    omega (arith, front_first one_bit _ (λ w r says. search rules) rest _ _ c.one_by_one.ensures, front_le one_bit (map symbol_of rest), length-map rest symbol_of)
