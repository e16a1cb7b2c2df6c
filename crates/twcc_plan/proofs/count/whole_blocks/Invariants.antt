-- Each turn passes a block.
use Rattle.std.proofs.Common.{◌≡◌}
use Rattle.std.specs.Slice.Iter.{chunks_exact_rest, chunks_exact_size}
use Rattle.twcc_plan.proofs.Fronts.{Blocks}
use Rattle.twcc_plan.proofs.count.whole_blocks.Given as goal

abbrev pub invariant-loop-block : goal.invariant-loop-block
invariant-loop-block g l = (chunks_exact_size l.block-iterator ≡ g.row.N) × Blocks (goal.F-post g l.test) l.list l.n (chunks_exact_rest l.block-iterator)
