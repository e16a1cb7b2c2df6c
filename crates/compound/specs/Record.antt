-- The packet record: how a packet's bytes are shared out between the header's four, the body, and the padding. RFC 3550, section
-- 6.4.1: "The last octet of the padding is a count of how many padding octets should be ignored, including itself".
use Rattle.std.specs.Prelude.{ℕ, ◌+◌, ◌-◌, List, [], ◌≡◌, Bool, false, cond, not, length, drop, eqb}
use Rattle.refusal.specs.Outcome.{Outcome, gave, refuse, and_then}
use Rattle.utils.specs.Header.{shortest, padding_bit_of, length_of}
use Rattle.utils.specs.Check.{last_byte_of, padding_fits, check_length}
use Rattle.compound.specs.declared.Packet.{Packet}

-- the padding of the packet that stands at the front: none where the padding bit is clear
unfoldable pub padding_of : List ℕ → ℕ
padding_of packet = cond (eqb (padding_bit_of packet) 0) 0 (last_byte_of packet)

-- a padded packet whose count does not fit
unfoldable pub misfits : List ℕ → Bool
misfits packet = cond (eqb (padding_bit_of packet) 0) false (not (padding_fits packet))

-- the record of the packet that stands at the front, where that starts at an offset: the body is what header and padding leave
abbrev pub record_at : ℕ → List ℕ → Packet
record_at start packet = record { start = start; length = length_of packet; body = length_of packet - (shortest + padding_of packet); padding = padding_of packet }

-- of the packet that starts at an offset
abbrev pub packet_at : List ℕ → ℕ → Packet
packet_at bytes at = record_at at (drop at bytes)

-- header, body and padding are the whole packet
abbrev pub AddsUp : Packet → Type 0
AddsUp p = shortest + p.body + p.padding ≡ p.length

-- a record of these bytes, whoever made it: they are as many as it says, and it adds up to them
unfoldable pub check_record : List ℕ → Packet → Outcome Unit
check_record packet p =
    cond (not (eqb p.length (length packet))) (refuse 5 [])
    (cond (not (eqb (shortest + p.body + p.padding) (length packet))) (refuse 5 [])
    (gave tt))

-- the record of bytes that are one packet, by their own padding count, multiple of four or not
unfoldable pub own_record : List ℕ → Outcome Packet
own_record packet = and_then (check_length packet) (λ _. and_then (check_record packet (packet_at packet 0)) (λ _. gave (packet_at packet 0)))
