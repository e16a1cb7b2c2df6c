-- The counts and the tests are those of the rule.
use mathlib.Core.Path.{sym, ap, ◌∙◌}
use mathlib.Core.List.{map}
use native.Mathlib.Omega.{arith}
use lib.ListN.{length-map}
use Rattle.twcc.specs.Words.{symbol_of}
use Rattle.twcc_plan.specs.Choice.{is_one}
use Rattle.twcc_plan.proofs.Choosing.{run_le, picks_run, picks_one, picks_two}
use Rattle.twcc_plan.proofs.pick.pick_counted.Goals as goal

pub run_picked-requires : goal.run_picked-requires
run_picked-requires c = (omega (arith, c.symbol_at.ensures.1), omega (arith, c.run_length-r.ensures, run_le (map symbol_of c.args.rest.now)))

pub returns-then-is_run : goal.returns-then-is_run
returns-then-is_run c = c.run_picked.ensures
    ∙ picks_run (map symbol_of c.args.rest.now) _ _ c.run_length-r.ensures c.ones_length-b.ensures _ (sym c.is_run.ensures ∙ c.if-is_run.true) c.symbol_at.ensures.0

pub returns-then-is_one : goal.returns-then-is_one
returns-then-is_one c = let rest = c.args.rest.now in
    c.vector.ensures
    ∙ picks_one (map symbol_of rest) _ _ c.run_length-r.ensures c.ones_length-b.ensures (sym c.is_run.ensures ∙ c.if-is_run.false)
    (ap (is_one c.ones_length-b.result) (length-map rest symbol_of) ∙ sym c.is_one.ensures ∙ c.if-is_one.true)

pub returns : goal.returns
returns c = let rest = c.args.rest.now in
    c.vector-2.ensures
    ∙ picks_two (map symbol_of rest) _ _ c.run_length-r.ensures c.ones_length-b.ensures (sym c.is_run.ensures ∙ c.if-is_run.false)
    (ap (is_one c.ones_length-b.result) (length-map rest symbol_of) ∙ sym c.is_one.ensures ∙ c.if-is_one.false)
