-- The bytes of a packet, from RFC 3550 section 6.4.1: header, body, padding.
use Rattle.std.specs.Prelude.{ℕ, ◌+◌, ◌-◌, ◌/◌, List, [], ◌∷◌, ◌++◌, cond, eqb, length}
use Rattle.octets.specs.Big.{be_bytes}
use Rattle.lent.specs.Bytes.{zero_bytes}

-- version 2 in the top two bits, the padding bit, the count
unfoldable pub first_byte : ℕ → ℕ → ℕ
first_byte count padding = cond (eqb padding 0) (128 + count) (160 + count)

-- the header, the body and the padding
abbrev pub size_of : ℕ → ℕ → ℕ
size_of body padding = 4 + body + padding

-- "the length of this RTCP packet in 32-bit words minus one, including the header and any padding"
abbrev pub length_field : ℕ → ℕ → ℕ
length_field body padding = size_of body padding / 4 - 1

-- "the last octet of the padding is a count of how many padding octets should be ignored, including itself"
unfoldable pub pad_bytes : ℕ → List ℕ
pad_bytes padding = cond (eqb padding 0) [] (zero_bytes (padding - 1) ++ padding ∷ [])

-- the packet without its padding
unfoldable pub body_bytes : ℕ → ℕ → List ℕ → ℕ → List ℕ
body_bytes count type body padding = (first_byte count padding ∷ type ∷ be_bytes 2 (length_field (length body) padding)) ++ body

abbrev pub packet_bytes : ℕ → ℕ → List ℕ → ℕ → List ℕ
packet_bytes count type body padding = body_bytes count type body padding ++ pad_bytes padding
