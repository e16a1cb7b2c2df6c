-- What is asked of a packet, test by test in the order of docs/RULES.md.
use Rattle.std.specs.Prelude.{ℕ, ◌+◌, ◌-◌, ◌/◌, ◌%◌, List, [], ◌∷◌, Bool, false, cond, not, ◌||◌, Option, Some, None, length, get_or, eqb, ltb, leb}
use Rattle.refusal.specs.Outcome.{Outcome, gave, refuse, and_then}
use Rattle.utils.specs.Header.{shortest, longest, version_of, padding_bit_of, type_of, length_of}

-- so many bytes are there
abbrev pub check_present : List ℕ → ℕ → Outcome Unit
check_present bytes expected = cond (ltb (length bytes) expected) (refuse 1 (expected ∷ length bytes ∷ [])) (gave tt)

-- the version in a packet's first byte is 2
abbrev pub check_version : ℕ → Outcome Unit
check_version first = cond (not (eqb (first / 64) 2)) (refuse 2 (first / 64 ∷ [])) (gave tt)

-- a field read alone needs the header's four bytes
abbrev pub field : List ℕ → ℕ → Outcome ℕ
field packet value = cond (ltb (length packet) shortest) (refuse 1 (shortest ∷ length packet ∷ [])) (gave value)

-- the last byte of the packet that stands at the front, by its own length
abbrev pub last_byte_of : List ℕ → ℕ
last_byte_of packet = get_or packet (length_of packet - 1) 0

-- that byte, where the padding bit is set
unfoldable pub padding_byte : List ℕ → Outcome (Option ℕ)
padding_byte packet =
    cond (ltb (length packet) shortest) (refuse 1 (shortest ∷ length packet ∷ []))
    (cond (eqb (padding_bit_of packet) 0) (gave None)
    (cond (ltb (length packet) (length_of packet)) (refuse 1 (length_of packet ∷ length packet ∷ []))
    (gave (Some (last_byte_of packet)))))

-- the packet is as long as it says
unfoldable pub own_length : List ℕ → Outcome Unit
own_length packet =
    cond (ltb (length packet) (length_of packet)) (refuse 1 (length_of packet ∷ length packet ∷ []))
    (cond (ltb (length_of packet) (length packet)) (refuse 4 (length_of packet ∷ length packet ∷ []))
    (gave tt))

-- the same of any bytes: under four have no length
unfoldable pub check_length : List ℕ → Outcome Unit
check_length packet = cond (ltb (length packet) shortest) (refuse 1 (shortest ∷ length packet ∷ [])) (own_length packet)

-- a padded packet's last byte, which counts its padding, is not 0
unfoldable pub own_padding : List ℕ → Outcome Unit
own_padding packet =
    cond (eqb (padding_bit_of packet) 0) (gave tt)
    (cond (eqb (last_byte_of packet) 0) (refuse 5 [])
    (gave tt))

-- whether a whole packet's padding count can be right: "a count of how many padding octets should be ignored, including itself (it
-- will be a multiple of four)", inside the packet behind its header
unfoldable pub padding_fits : List ℕ → Bool
padding_fits packet =
    cond (eqb (last_byte_of packet) 0) false
    (cond (not (eqb (last_byte_of packet % 4) 0)) false
    (leb (shortest + last_byte_of packet) (length_of packet)))

unfoldable pub check_packet : List ℕ → ℕ → ℕ → Outcome Unit
check_packet packet least type =
    cond (ltb least shortest || ltb longest least) (refuse 17 (least ∷ []))
    (cond (ltb (length packet) least) (refuse 1 (least ∷ length packet ∷ []))
    (cond (not (eqb (version_of packet) 2)) (refuse 2 (version_of packet ∷ []))
    (cond (not (eqb (type_of packet) type)) (refuse 3 (type_of packet ∷ type ∷ []))
    (and_then (own_length packet) (λ _. own_padding packet)))))
