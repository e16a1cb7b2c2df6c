-- The way back: a packet that was written is accepted by `Unknown::parse`, and its fields are those given.
use Prim.Native.Nat.{ℕ, ◌+◌, ◌-◌, ◌%◌, ◌≤◌}
use mathlib.Core.List.{List, ◌++◌}
use mathlib.Core.Path.{◌≡◌, refl, ap, ◌∙◌}
use mathlib.Core.Bool.{cond}
use native.Mathlib.Omega.{arith}
use lib.Dec.{eqb}
use lib.ListN.{length, get_or}
use lib.Seq.{take-append_seam}
use Rattle.std.proofs.lemmas.Grind.{common_steps}
use Rattle.refusal.specs.Outcome.{gave}
use Rattle.lent.proofs.Laws.{length-zero_bytes}
use Rattle.utils.specs.Header.{version_of, padding_bit_of, length_of}
use Rattle.utils.specs.Check.{last_byte_of, padding_byte}
use Rattle.unknown.specs.Packet.{size_of, first_byte, pad_bytes, body_bytes, packet_bytes}
use Rattle.unknown.specs.Write.{written}
use Rattle.unknown.specs.Back.{padding_given, ReadsAs}
use Rattle.unknown.proofs.Laws.{unknown_whole, length-body_bytes, length-packet_bytes}

-- what the tests of the writer show of a packet that is written
pub record Fits (count body padding room : ℕ) : Type 0 where
  pub count_fits : count ≤ 31
  pub padding_even : padding % 4 ≡ 0
  pub body_even : body % 4 ≡ 0
  pub short : size_of body padding ≤ 262144
  pub room-enough : size_of body padding ≤ room

pub written-fits : (count body padding room n : ℕ) → written count body padding room ≡ gave n → Fits count body padding room
unfolding written
written-fits count body padding room n gives = grind arith

-- the last byte of the padding is its count
last-padding : (front : List ℕ) (padding : ℕ) → (padding ≡ 0 → ⊥) → get_or (front ++ pad_bytes padding) (length front + padding - 1) 0 ≡ padding
unfolding pad_bytes
last-padding front padding some = grind (arith, common_steps, length-zero_bytes)

module _ (count type : ℕ) (body : List ℕ) (padding room n : ℕ) (gives : written count (length body) padding room ≡ gave n) where
  abbrev packet : List ℕ
  packet = packet_bytes count type body padding

  fits : Fits count (length body) padding room
  fits = written-fits count (length body) padding room n gives

  own_length_lem : length_of packet ≡ length packet
  unfolding body_bytes
  own_length_lem =
      let f = fits in
      omega (arith, length-packet_bytes count type body padding)

  is_version_2 : version_of packet ≡ 2
  unfolding body_bytes first_byte
  is_version_2 = let f = fits in grind arith

  last_byte : (padding ≡ 0 → ⊥) → last_byte_of packet ≡ padding
  last_byte some =
      let front = body_bytes count type body padding in
      let place : length_of packet - 1 ≡ length front + padding - 1 = omega (arith, own_length_lem, length-packet_bytes count type body padding, length-body_bytes count type body padding) in
      ap (λ (k : ℕ). get_or packet k 0) place ∙ last-padding front padding some

  bit : padding_bit_of packet ≡ cond (eqb padding 0) 0 1
  unfolding body_bytes first_byte
  bit = let f = fits in grind arith

  own_padding_lem : padding_byte packet ≡ gave (padding_given padding)
  unfolding padding_byte
  own_padding_lem =
      let whole : length packet ≡ size_of (length body) padding = length-packet_bytes count type body padding in
      grind (arith, bit, last_byte, own_length_lem)

  -- what is written reads as what was given
  pub reads-back : ReadsAs packet count type body padding
  unfolding body_bytes first_byte
  reads-back =
      let f = fits in
      let whole : length packet ≡ size_of (length body) padding = length-packet_bytes count type body padding in
      let header : 4 ≤ length packet = omega arith in
      record {
        accepted = unknown_whole packet header is_version_2 own_length_lem;
        version = is_version_2;
        count-back = grind arith;
        type_back = refl;
        length_back = own_length_lem;
        padding-back = own_padding_lem;
        body_back = take-append_seam body (pad_bytes padding);
      }
