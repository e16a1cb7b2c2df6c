-- Each refusal comes where its test comes; a block that passes them all can be written.
use Prim.Native.Nat.{◌≤◌}
use mathlib.Core.Path.{sym, ◌∙◌}
use native.Mathlib.Omega.{arith}
use borrow.Author.Tests.{lt-ltb, le-ltb}
use lib.ListN.{length}
use Rattle.twcc_plan.specs.Block.{first_bad, size_of}
use Rattle.twcc_plan.proofs.BlockLaws.{none_bad}
use Rattle.twcc_write.specs.Limits.{least_of}
use Rattle.twcc_write.specs.Promise.{written}
use Rattle.twcc_write.proofs.Answers.{eight-within}
use Rattle.twcc_write.proofs.Joining.{lacked, suffices}
use Rattle.twcc_write.proofs.Block.check.Goals as goal

pub returns-then-time-gt-LATEST_TIME : goal.returns-then-time-gt-LATEST_TIME
unfolding written
returns-then-time-gt-LATEST_TIME c = simp (lt-ltb _ _ c.if-time-gt-LATEST_TIME.true)

pub returns-then-self-gt-MOST_ENTRIES : goal.returns-then-self-gt-MOST_ENTRIES
unfolding written
returns-then-self-gt-MOST_ENTRIES c = simp (le-ltb _ _ c.if-time-gt-LATEST_TIME.false, lt-ltb _ _ c.if-self-gt-MOST_ENTRIES.true)

pub returns-then-bad-self : goal.returns-then-bad-self
unfolding written
returns-then-bad-self c = simp (le-ltb _ _ c.if-time-gt-LATEST_TIME.false, le-ltb _ _ c.if-self-gt-MOST_ENTRIES.false, ← c.first_bad-bad.ensures, lt-ltb _ _ c.if-bad-self.true)

pub returns-then-least-lt8 : goal.returns-then-least-lt8
unfolding written
returns-then-least-lt8 c =
    simp (le-ltb _ _ c.if-time-gt-LATEST_TIME.false, le-ltb _ _ c.if-self-gt-MOST_ENTRIES.false, ← c.first_bad-bad.ensures, le-ltb _ _ c.if-bad-self.false, ← c.unwrap_or-least.ensures, lt-ltb _ _ c.if-least-lt8.true)

pub returns-in-Some : goal.returns-in-Some
unfolding written
returns-in-Some c =
    let block = c.args.self.now in
    let lack = lacked c.args.room (size_of block.limit block.list.now) _ (sym c.lacking.ensures ∙ c.in-Some.is) in
    simp (le-ltb _ _ c.if-time-gt-LATEST_TIME.false, le-ltb _ _ c.if-self-gt-MOST_ENTRIES.false, ← c.first_bad-bad.ensures, le-ltb _ _ c.if-bad-self.false, ← c.unwrap_or-least.ensures, le-ltb _ _ c.if-least-lt8.false, lt-ltb _ _ lack.1, lack.0)

pub returns-in-None : goal.returns-in-None
returns-in-None c =
    let block = c.args.self.now in
    let list = block.list.now in
    let fine : length list ≤ first_bad list = omega (arith, c.first_bad-bad.ensures, c.if-bad-self.false) in
    let eight : 8 ≤ least_of block.limit = omega (arith, c.unwrap_or-least.ensures, c.if-least-lt8.false) in
    record {
      fits = c.if-time-gt-LATEST_TIME.false;
      plannable = record { short = c.if-self-gt-MOST_ENTRIES.false; eight = eight-within block.limit eight };
      valid = none_bad list fine;
      room = suffices c.args.room (size_of block.limit list) (sym c.lacking.ensures ∙ c.in-None.is);
    }
