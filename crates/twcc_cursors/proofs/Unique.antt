-- No slack: two answers that meet a promise are equal.
use Prim.Native.Nat.{ℕ, ◌+◌, ◌*◌}
use mathlib.Core.Path.{◌≡◌, sym, ◌∙◌}
use mathlib.Core.List.{List}
use lib.IntN.{ℤ}
use Rattle.std.specs.Prelude.{Option, Result}
use Rattle.refusal.specs.Said.{said}
use Rattle.refusal.specs.declared.Refusal.{Refusal}
use Rattle.refusal.proofs.Unique.{said_unique}
use Rattle.twcc.specs.Words.{signed16}
use Rattle.twcc_cursors.specs.Cursors.{headed, counts_of, next_chunk, next_delta}
use Rattle.twcc_cursors.specs.Packets.{opened, next_packet}
use Rattle.twcc_cursors.specs.declared.Header.{Header}
use Rattle.twcc_cursors.specs.declared.Counts.{Counts}
use Rattle.twcc_cursors.specs.declared.Chunks.{Chunks}
use Rattle.twcc_cursors.specs.declared.NextChunk.{NextChunk}
use Rattle.twcc_cursors.specs.declared.Delta.{Delta}
use Rattle.twcc_cursors.specs.declared.Deltas.{Deltas}
use Rattle.twcc_cursors.specs.declared.Packets.{Packets}
use Rattle.twcc_cursors.specs.declared.NextPacket.{NextPacket}

module _ (block : List ℕ) where
  -- `Header::of`
  pub headed_unique : (a b : Result Header Refusal) → said a ≡ headed block → said b ≡ headed block → a ≡ b
  headed_unique a b one two = said_unique a b (one ∙ sym two)

  -- `count`
  pub count_unique : (a b : Counts) → a ≡ counts_of block → b ≡ counts_of block → a ≡ b
  count_unique a b one two = one ∙ sym two

  -- `Chunks::next`
  pub chunk_unique : (c : Chunks) (a b : Option NextChunk) → a ≡ next_chunk block c → b ≡ next_chunk block c → a ≡ b
  chunk_unique c a b one two = one ∙ sym two

  -- `Deltas::next`
  pub delta_unique : (c : Deltas) (symbol : ℕ) (a b : Delta) → a ≡ next_delta block c symbol → b ≡ next_delta block c symbol → a ≡ b
  delta_unique c symbol a b one two = one ∙ sym two

  -- `Packets::of`
  pub opened_unique : (a b : Result Packets Refusal) → said a ≡ opened block → said b ≡ opened block → a ≡ b
  opened_unique a b one two = said_unique a b (one ∙ sym two)

  -- `Packets::next`
  pub packet_unique : (p : Packets) (a b : Option NextPacket) → a ≡ next_packet block p → b ≡ next_packet block p → a ≡ b
  packet_unique p a b one two = one ∙ sym two

-- `large`
pub large_unique : (high low : ℕ) (a b : ℤ) → a ≡ signed16 (256 * high + low) → b ≡ signed16 (256 * high + low) → a ≡ b
large_unique high low a b one two = one ∙ sym two
