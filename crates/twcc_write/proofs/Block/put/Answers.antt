-- Chunk words, deltas and zeros behind the header's place, and the header, are the block.
use mathlib.Core.Path.{refl}
use native.Mathlib.Omega.{arith}
use Rattle.twcc_write.proofs.Joining.{used_sum, padded_fits, used_fits, carriable, filled}
use Rattle.twcc_write.proofs.Block.put.Goals as goal

pub slice_bounds-put_deltas-count : goal.slice_bounds-put_deltas-count
slice_bounds-put_deltas-count c = omega (arith, used_sum c.requires c.plan_chunks-chunks.ensures)

pub slice_bounds-put_deltas-start : goal.slice_bounds-put_deltas-start
slice_bounds-put_deltas-start c = omega (arith, used_sum c.requires c.plan_chunks-chunks.ensures)

pub slice_bounds-put_deltas-end-2 : goal.slice_bounds-put_deltas-end-2
slice_bounds-put_deltas-end-2 c = omega (arith, used_fits c.requires c.plan_chunks-chunks.ensures, c.plan_chunks-chunks.auto.out)

pub put_deltas-requires : goal.put_deltas-requires
put_deltas-requires c = carriable c.requires c.plan_chunks-chunks.ensures

pub slice_bounds-fill-end : goal.slice_bounds-fill-end
slice_bounds-fill-end c = omega (arith, padded_fits c.requires c.plan_chunks-chunks.ensures, c.plan_chunks-chunks.auto.out)

pub returns : goal.returns
returns c = filled c.requires c.plan_chunks-chunks.ensures (rw c.put_deltas.ensures refl) _ _ _ _ _ (c.fill.ensures.after (λ y e. e)) refl c.put_header.ensures
