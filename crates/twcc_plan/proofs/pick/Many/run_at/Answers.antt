-- Seven that are not all equal make no run.
use mathlib.Core.List.{map}
use native.Mathlib.Omega.{arith}
use lib.ListN.{length-map}
use Rattle.twcc.specs.Words.{symbol_of}
use Rattle.twcc.proofs.Written.{symbols_lt}
use Rattle.twcc_plan.proofs.Sevens.{unlike, alike}
use Rattle.twcc_plan.proofs.pick.Many.run_at.Goals as goal

pub returns-then-two-first : goal.returns-then-two-first
returns-then-two-first c = let rest = c.args.self.now.rest.now in
    unlike (map symbol_of rest) (symbols_lt rest) (rw length-map (omega (arith))) (λ same. c.if-two-first.true (rw c.requires.0 same))

pub run_ahead-requires : goal.run_ahead-requires
run_ahead-requires c = let rest = c.args.self.now.rest.now in
    rw c.requires.0 (alike (map symbol_of rest) (symbols_lt rest) (rw length-map (omega (arith))) (rw c.requires.0 at c.if-two-first.false))
