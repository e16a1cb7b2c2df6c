-- The run, and by the symbol behind it whether the one-bit symbols go on.
use Prim.Native.Nat.{◌+◌, ◌≤◌}
use mathlib.Core.Path.{◌≡◌}
use mathlib.Core.List.{map}
use native.Mathlib.Omega.{arith}
use borrow.Author.Rules.{rules}
use borrow.Author.Tests.{leb-true, leb-false, lt-ltb, le-ltb}
use lib.Dec.{leb}
use lib.ListN.{length, get_or, length-map}
use Rattle.octets.proofs.Logic.{by_test}
use Rattle.twcc.specs.Words.{symbol_of}
use Rattle.twcc_plan.proofs.Symbols.{symbol-there}
use Rattle.twcc_plan.proofs.Sevens.{long_settles, seven_settles, bits_settle, two_settles}
use Rattle.twcc_plan.proofs.pick.Many.run_ahead.Goals as goal
use Rattle.twcc_plan.proofs.pick.Many.run_ahead.Goals.{then-r-gt13, else-r-gt13+then-r-gt7, else-r-gt13+else-r-gt7}

pub returns : goal.returns
returns c =
    let rest = c.args.self.now.rest.now in
    let ss = map symbol_of rest in
    let long : 14 ≤ length ss = rw length-map (omega (arith)) in
    let run = c.run_known-r.ensures in
    let r = c.run_known-r.result in
    elim c.if-r-gt13.branch [
      | then-r-gt13 w ↦ rw (c.then_some.ensures, w.settled-is, lt-ltb 13 r w.if-r-gt13.true) (long_settles ss long _ c.requires r run w.if-r-gt13.true)
      | else-r-gt13+then-r-gt7 w ↦
          let sum = c.args.first + w.symbol.result in
          let behind : w.symbol.result ≡ get_or ss r 0 = search (rules, symbol-there) in
          by_test (leb 2 sum)
          (λ e. rw (c.then_some.ensures, w.settled-is, e) (two_settles ss long _ c.requires r run w.if-r-gt13.false _ behind w.if-r-gt7.true (leb-true 2 sum e)))
          (λ e. rw (c.then_some.ensures, w.settled-is, e) (bits_settle ss long _ c.requires r run w.if-r-gt13.false _ behind (leb-false 2 sum e)))
      | else-r-gt13+else-r-gt7 w ↦ rw (c.then_some.ensures, w.settled-is, le-ltb 7 r w.if-r-gt7.false) (seven_settles ss long _ c.requires r run w.if-r-gt7.false)
    ]
