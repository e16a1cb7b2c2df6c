-- The table is settled by computing the definitions; a store of 8,192 bytes is computed by the law of its numbers.
use Prim.Native.Nat.{ℕ, ◌<◌}
use mathlib.Core.Path.{refl}
use mathlib.Core.List.{[], ◌∷◌}
use native.Mathlib.Omega.{arith}
use lib.Count.{count_leading_zeros}
use Rattle.lent.specs.Bytes.{zero_bytes}
use Rattle.utils.specs.Check.{own_length, check_length, padding_fits}
use Rattle.compound.specs.Pass.{first_turn, turns_from, pass_by, first_pass}
use Rattle.compound.specs.Record.{padding_of, misfits, check_record, own_record}
use Rattle.compound.specs.Walk.{walk_step}
use Rattle.nack_store.specs.Sets.{Rising, none, more}
use Rattle.nack.specs.Entries.{masked, all_named, entries_in, read_nack, grow, entries_of, all_bytes}
use Rattle.nack.proofs.Back.{rising_bytes}
use Rattle.twcc.specs.Words.{signed16, word_of, entries, symbol_of, width_of, bytes_of, bits16, delta_bytes, deltas}
use Rattle.twcc.specs.Chunks.{unpack, stands_for, pack, chunk_word, chunk_bytes}
use Rattle.twcc.specs.Block.{symbols, after_chunks, block_symbols, block_deltas, listed}
use Rattle.twcc.specs.Status.{status_of}
use Rattle.arrival.specs.Arrivals.{sum_of, readable, arrivals_behind}
use Rattle.arrival.specs.Overlay.{quarters}
use Rattle.twcc_plan.specs.Front.{front}
use Rattle.twcc_plan.specs.Choice.{run_of, ones_of, choice, chunk_for, taken_by, width_by}
use Rattle.twcc_plan.specs.Limits.{shorten, fitted, next}
use Rattle.twcc_plan.specs.Plan.{more as more_plan, plan, taken_in}
use Rattle.twcc_plan.specs.Block.{header, chunks_of, taken_of, body, block_bytes}
use Rattle.fixed.specs.Examples.{settled, table, Settled}

-- a set of 0 and another number ascends
rises : (second : ℕ) → 0 < second → second < 65536 → Rising 65536 0 (0 ∷ second ∷ [])
rises second above below = more {low = 0} {n = 0} (omega arith) (omega arith) (more {low = 1} {n = second} (omega arith) below none)

pub examples : Settled
unfolding settled table status_of sum_of readable arrivals_behind quarters count_leading_zeros own_length check_length padding_fits first_turn turns_from pass_by first_pass padding_of misfits check_record own_record walk_step read_nack entries_in all_named masked all_bytes entries_of grow listed block_symbols block_deltas entries symbols after_chunks stands_for unpack word_of bytes_of signed16 block_bytes header body taken_of chunks_of taken_in plan more_plan next fitted shorten width_by taken_by chunk_for choice ones_of run_of front symbol_of width_of bits16 delta_bytes deltas pack chunk_word chunk_bytes zero_bytes
examples = rw (rising_bytes (0 ∷ 16 ∷ []) (rises 16 (omega arith) (omega arith)), rising_bytes (0 ∷ 17 ∷ []) (rises 17 (omega arith) (omega arith))) refl
