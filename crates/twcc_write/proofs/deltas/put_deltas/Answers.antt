use Prim.Native.Nat.{min}
use mathlib.Core.Path.{ap, ap₂, ◌∙◌}
use mathlib.Core.List.{◌++◌}
use native.Mathlib.Omega.{arith}
use lib.ListN.{length, length-take, length-drop}
use Rattle.std.specs.Slice.Iter.{chunks_exact_rest}
use Rattle.twcc_write.proofs.Carrying.{Carried, carried, carried_over}
use Rattle.twcc_write.proofs.deltas.put_deltas.Goals as goal
use Rattle.twcc_write.proofs.deltas.put_deltas.Goals.{After-split_at}

-- what a turn carries
next : (c : After-split_at) → Carried c.args.list.now c.joined-chunk.result (chunks_exact_rest c.next.new.self) c.loop-bytes.rest.now c.lesser.result c.loop-bytes.p c.loop-bytes.out
next c =
    let steps = c.in-Some.ensures.steps in
    let before = c.loop-bytes.invariant in
    carried before.1 c.in-Some.bytes.now _ steps.1.0 (steps.1.1 ∙ before.0) _ _ c.joined-chunk.ensures.0
    (c.lesser.ensures ∙ ap (λ (n : _). min n (length c.loop-bytes.rest.now)) c.size.ensures)

pub put_chunk-p-requires : goal.put_chunk-p-requires
put_chunk-p-requires c = rw c.split_at.ensures.front (next (goal.at.put_chunk-p-requires c).After-split_at).storable

pub loop-bytes-preserved : goal.loop-bytes-preserved
loop-bytes-preserved c =
    let steps = c.in-Some.ensures.steps in
    let before = c.loop-bytes.invariant in
    let carries = next (goal.at.loop-bytes-preserved c).After-split_at in
    (steps.0 ∙ before.0, rw c.split_at.ensures.back (carries.further _ _ (c.put_chunk-p.auto.out ∙ simp (length-take, length-drop) (omega arith)) (rw c.split_at.ensures.front at c.put_chunk-p.ensures)))

pub returns : goal.returns
returns c = ap₂ ◌++◌ c.split_at_mut-chunks.ensures.front (carried_over c.loop-bytes.invariant.1 (omega (arith, c.in-None.ensures.steps.1.0, c.loop-bytes.invariant.0)))
