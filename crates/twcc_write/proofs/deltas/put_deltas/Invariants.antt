-- Each turn stores the deltas of one chunk.
use Rattle.std.proofs.Common.{◌≡◌}
use Rattle.std.specs.Slice.Iter.{chunks_exact_rest, chunks_exact_size}
use Rattle.twcc_write.proofs.Carrying.{Carrying}
use Rattle.twcc_write.proofs.deltas.put_deltas.Given as goal

abbrev pub invariant-loop-bytes : goal.invariant-loop-bytes
invariant-loop-bytes l = (chunks_exact_size l.bytes-iterator ≡ 2) × Carrying l.list (chunks_exact_rest l.bytes-iterator) l.rest l.p l.out
