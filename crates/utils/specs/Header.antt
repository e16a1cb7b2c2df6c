-- The fields of the header that all RTCP packets share, from RFC 3550 section 6.4.1:
--
--     0                   1                   2                   3
--     0 1 2 3 4 5 6 7 8 9 0 1 2 3 4 5 6 7 8 9 0 1 2 3 4 5 6 7 8 9 0 1
--     |V=2|P|    RC   |      PT       |             length            |
--
-- A byte that is missing counts as 0; whoever reads a field tests the length first.
use Rattle.std.specs.Prelude.{ℕ, ◌+◌, ◌*◌, ◌/◌, ◌%◌, List, get_or}
use Rattle.octets.specs.Big.{be}

-- the sizes of a packet: its header alone, and the most that the length field can say
abbrev pub shortest : ℕ
shortest = 4

abbrev pub longest : ℕ
longest = 262144

-- version (V): 2 bits
abbrev pub version_of : List ℕ → ℕ
version_of packet = get_or packet 0 0 / 64

-- padding (P): 1 bit
abbrev pub padding_bit_of : List ℕ → ℕ
padding_bit_of packet = get_or packet 0 0 / 32 % 2

-- reception report count (RC), in other packets a format or a subtype: 5 bits
abbrev pub count_of : List ℕ → ℕ
count_of packet = get_or packet 0 0 % 32

-- packet type (PT): 8 bits
abbrev pub type_of : List ℕ → ℕ
type_of packet = get_or packet 1 0

-- length: 16 bits, "the length of this RTCP packet in 32-bit words minus one, including the header and any padding"; here in bytes
abbrev pub length_of : List ℕ → ℕ
length_of packet = 4 * (be 2 packet 2 + 1)
