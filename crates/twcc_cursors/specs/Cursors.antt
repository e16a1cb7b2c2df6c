-- The cursors' steps, as the promises state them.
use Rattle.std.specs.Prelude.{ℕ, ◌+◌, ◌-◌, ◌*◌, min, List, [], ◌∷◌, cond, ltb, eqb, length, drop, Option, None, Some}
use Rattle.refusal.specs.Outcome.{Outcome, gave, refuse}
use Rattle.twcc.specs.Words.{bytes_of, word_of}
use Rattle.twcc.specs.Chunks.{stands_for}
use Rattle.octets.specs.Big.{be}
use Rattle.twcc.specs.Block.{base_of, status_count, reference_time, feedback_count, block_symbols, deltas_start}
use Rattle.twcc_cursors.specs.declared.Header.{Header}
use Rattle.twcc_cursors.specs.declared.Counts.{Counts}
use Rattle.twcc_cursors.specs.declared.Chunks.{Chunks}
use Rattle.twcc_cursors.specs.declared.NextChunk.{NextChunk}
use Rattle.twcc_cursors.specs.declared.Delta.{Delta}
use Rattle.twcc_cursors.specs.declared.Deltas.{Deltas}

abbrev pub header_of : List ℕ → Header
header_of block =
    record {
      base = record { 0 = base_of block };
      statuses = status_count block;
      time = record { 0 = reference_time block };
      feedback = feedback_count block;
    }

-- a block of fewer than eight bytes has no header
unfoldable pub headed : List ℕ → Outcome Header
headed block = cond (ltb (length block) 8) (refuse 1 (8 ∷ length block ∷ [])) (gave (header_of block))

abbrev pub counts_of : List ℕ → Counts
counts_of block = record { listed = length (block_symbols block); start = deltas_start block }

-- a chunk, the entries that it lists where `left` statuses are left, and the chunks after it
abbrev pub taken : ℕ → ℕ → ℕ → NextChunk
taken at left chunk =
    record {
      chunk = chunk;
      count = min left (length (stands_for chunk));
      next = record { at = at + 2; left = left - length (stands_for chunk) };
    }

unfoldable pub next_chunk : List ℕ → Chunks → Option NextChunk
next_chunk block c =
    cond (eqb c.left 0) None
    (cond (ltb (length block) (c.at + 2)) None
    (Some (taken c.at c.left (be 2 block c.at))))

-- the next chunk that lists an entry, where `left` statuses are left; the bytes are those from the place `at` on
unfoldable pub full_chunk : List ℕ → ℕ → ℕ → Option NextChunk
full_chunk [] at left = None
full_chunk (a ∷ []) at left = None
full_chunk (a ∷ b ∷ bytes) at left =
    cond (eqb left 0) None
    (cond (eqb (length (stands_for (256 * a + b))) 0) (full_chunk bytes (at + 2) left)
    (Some (taken at left (256 * a + b))))

unfoldable pub next_delta : List ℕ → Deltas → ℕ → Delta
next_delta block c symbol =
    record {
      word = word_of symbol (drop c.at block);
      next = record { at = c.at + min (bytes_of symbol) (length block - c.at) };
    }
