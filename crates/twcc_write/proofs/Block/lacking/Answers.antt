-- The limit or the list's length tells that the room suffices, or the plan tells the size.
use Prim.Native.Nat.{◌≤◌}
use mathlib.Core.Path.{refl}
use native.Mathlib.Omega.{arith}
use borrow.Author.Rules.{rules}
use Rattle.twcc_plan.specs.Block.{size_of}
use Rattle.twcc_plan.proofs.BlockLaws.{size_small, size-within}
use Rattle.twcc_write.proofs.Joining.{plan-size, limit-enough, enough}
use Rattle.twcc_write.proofs.Block.lacking.Goals as goal
use Rattle.twcc_write.proofs.Block.lacking.Goals.{then-is_some_and-via-then-is_some_and, then-is_some_and-via-else-is_some_and+then-self-room}

pub returns-then-is_some_and : goal.returns-then-is_some_and
returns-then-is_some_and c =
    let block = c.args.self.now in
    let limit = block.limit in
    let list = block.list.now in
    let size = size_of limit list in
    let fits : size ≤ c.args.room =
    elim c.then-is_some_and.branch [
      | then-is_some_and-via-then-is_some_and w ↦ limit-enough limit c.args.room size c.is_some_and.result c.is_some_and.ensures (λ bytes says. search rules) (size-within limit list c.requires.eight) w.if-is_some_and.true
      | then-is_some_and-via-else-is_some_and+then-self-room w ↦ omega (arith, size_small limit list c.requires.eight, w.if-self-room.true)
    ] in
    enough c.args.room size fits

pub returns : goal.returns
returns c = rw (c.then_some.ensures, plan-size c.requires.eight c.plan_chunks-needed.ensures) refl
