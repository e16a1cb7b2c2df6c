-- What seven or fourteen symbols settle, the counts would too.
use Prim.Native.Nat.{ℕ, ◌/◌}
use mathlib.Core.Path.{◌≡◌, refl, sym, ap, ◌∙◌}
use mathlib.Core.List.{map}
use native.Mathlib.Omega.{arith}
use Rattle.std.proofs.lemmas.Option.{cond_some}
use lib.ListN.{length-map}
use Rattle.twcc.specs.Words.{symbol_of}
use Rattle.twcc.proofs.Written.{symbols_lt}
use Rattle.twcc_plan.specs.Choice.{ones_of}
use Rattle.twcc_plan.proofs.Choosing.{run_le, picks_run}
use Rattle.twcc_plan.proofs.Sevens.{first-digit, settled_none, two_early, two_late}
use Rattle.twcc_plan.proofs.pick.Many.pick.Goals as goal

pub run_picked-requires : goal.run_picked-requires
run_picked-requires c =
    let rest = c.args.self.now.rest.now in
    let run = cond_some _ _ _ (sym c.in-Some.ensures) in
    (omega (arith, first-digit (map symbol_of rest) (symbols_lt rest) (rw length-map (omega arith)), c.gather-a.ensures.two), omega (arith, run.1, run_le (map symbol_of rest)))

pub returns-in-Some : goal.returns-in-Some
returns-in-Some c =
    let rest = c.args.self.now.rest.now in
    let ss = map symbol_of rest in
    let first = first-digit ss (symbols_lt rest) (rw length-map (omega arith)) in
    let run = cond_some _ _ _ (sym c.in-Some.ensures) in
    c.run_picked.ensures ∙ picks_run ss _ (ones_of ss) (sym run.1) refl _ (rw (← run.1) run.0) (ap (λ (n : ℕ). n / 4096) c.gather-a.ensures.two ∙ first.0)

pub returns-then-a-gt0 : goal.returns-then-a-gt0
returns-then-a-gt0 c =
    let ss = map symbol_of c.args.self.now.rest.now in
    c.two_picked.ensures ∙ two_early ss (rw length-map (omega (arith))) _ c.gather-a.ensures (settled_none ss c.in_default.ensures) c.if-a-gt0.true

pub returns-then-gather-gt0 : goal.returns-then-gather-gt0
returns-then-gather-gt0 c =
    let ss = map symbol_of c.args.self.now.rest.now in
    let none : c.gather-a.result.twos ≡ 0 = omega (arith, c.if-a-gt0.false) in
    c.two_picked-then-gather-gt0.ensures
    ∙ two_late ss (rw length-map (omega (arith))) _ c.gather-a.ensures (settled_none ss c.in_default.ensures) none _ c.gather.ensures c.if-gather-gt0.true
