-- The packets of a block one by one, and what walking them gives.
use Rattle.std.specs.Prelude.{ℕ, suc, ◌+◌, ◌≡◌, List, [], ◌∷◌, cond, ltb, ℤ, length, get_or, drop, Option, None, Some}
use Rattle.kinds.specs.Seq.{later}
use Rattle.refusal.specs.Outcome.{Outcome, gave, refuse}
use Rattle.twcc.specs.Chunks.{stands_for}
use Rattle.twcc.specs.Block.{base_of, status_count, deltas_start}
use Rattle.twcc_cursors.specs.Cursors.{full_chunk, next_delta}
use Rattle.twcc_cursors.specs.declared.NextChunk.{NextChunk}
use Rattle.twcc_cursors.specs.declared.Packets.{Packets}
use Rattle.twcc_cursors.specs.declared.NextPacket.{NextPacket}

abbrev pub first_packets : List ℕ → Packets
first_packets block =
    record {
      number = record { 0 = base_of block };
      chunk = 0;
      place = 0;
      end = 0;
      chunks = record { at = 8; left = status_count block };
      deltas = record { at = deltas_start block };
    }

unfoldable pub opened : List ℕ → Outcome Packets
opened block = cond (ltb (length block) 8) (refuse 1 (8 ∷ length block ∷ [])) (gave (first_packets block))

-- the symbol of the next packet, where the chunk being listed still lists one
abbrev pub symbol_here : Packets → ℕ
symbol_here p = get_or (stands_for p.chunk) p.place 0

-- the packets after it
abbrev pub packets_after : List ℕ → Packets → Packets
packets_after block p =
    record {
      number = record { 0 = later p.number.0 1 };
      chunk = p.chunk;
      place = p.place + 1;
      end = p.end;
      chunks = p.chunks;
      deltas = (next_delta block p.deltas (symbol_here p)).next;
    }

unfoldable pub packet_at : List ℕ → Packets → NextPacket
packet_at block p =
    record { number = p.number; word = (next_delta block p.deltas (symbol_here p)).word; next = packets_after block p }

-- the packets from a chunk on
abbrev pub on_chunk : Packets → NextChunk → Packets
on_chunk p got =
    record { number = p.number; chunk = got.chunk; place = 0; end = got.count; chunks = got.next; deltas = p.deltas }

abbrev pub from_chunk : List ℕ → Packets → Option NextChunk → Option NextPacket
from_chunk block p None = None
from_chunk block p (Some got) = Some (packet_at block (on_chunk p got))

unfoldable pub next_packet : List ℕ → Packets → Option NextPacket
next_packet block p =
    cond (ltb p.place p.end) (Some (packet_at block p))
    (from_chunk block p (full_chunk (drop p.chunks.at block) p.chunks.at p.chunks.left))

-- walking from the cursor on gives these words, numbered from base + k on modulo 65,536, and then is over
abbrev pub Walks : List ℕ → ℕ → ℕ → Packets → List ℤ → Type 0
Walks block base k p [] = next_packet block p ≡ None
Walks block base k p (w ∷ ws) =
    (next : Packets) × ((next_packet block p ≡ Some (record { number = record { 0 = later base k }; word = w; next = next })) × Walks block base (suc k) next ws)
