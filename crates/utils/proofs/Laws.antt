-- Laws that callers use instead of the definitions' text.
use Prim.Native.Nat.{ℕ, ◌+◌, ◌%◌, ◌≤◌, ◌<◌}
use mathlib.Core.Path.{◌≡◌}
use mathlib.Core.Bool.{true, false}
use mathlib.Core.List.{List, ◌++◌}
use native.Mathlib.Omega.{arith}
use lib.ListN.{length, take, get_or-append}
use Rattle.std.proofs.lemmas.List.{get_or-take}
use Rattle.refusal.specs.Outcome.{gave}
use Rattle.utils.specs.Header.{shortest, length_of}
use Rattle.utils.specs.Check.{last_byte_of, own_length, check_length, padding_fits}

-- bytes are one packet exactly where their length is right
pub one-packet : (packet : List ℕ) → length packet ≡ length_of packet → check_length packet ≡ gave tt
unfolding check_length own_length
one-packet packet whole = grind arith

pub right_length : (packet : List ℕ) → check_length packet ≡ gave tt → length packet ≡ length_of packet
unfolding check_length own_length
right_length packet right = grind arith

-- a padding count that fits: so many words of four bytes, itself among them, between the header and the packet's end
pub record Fits (packet : List ℕ) : Type 0 where
  pub some : 0 < last_byte_of packet
  pub even : last_byte_of packet % 4 ≡ 0
  pub behind : shortest + last_byte_of packet ≤ length_of packet

pub fitting : (packet : List ℕ) → padding_fits packet ≡ true → Fits packet
unfolding padding_fits
fitting packet fits = grind arith

-- a header alone has no room for it
pub lone_misfits : (packet : List ℕ) → length_of packet ≡ shortest → padding_fits packet ≡ false
unfolding padding_fits
lone_misfits packet lone = grind arith

-- the last byte of the packet at the front of some bytes, and whether that counts its padding, are a matter of its own bytes
pub own_fits : (packet behind : List ℕ) → length packet ≡ length_of packet → padding_fits (packet ++ behind) ≡ padding_fits packet
unfolding padding_fits
own_fits packet behind whole = grind (arith, get_or-append)

module _ (s : List ℕ) (n : ℕ) (size : n ≡ length_of s) (there : n ≤ length s) where
  pub take_last : last_byte_of (take n s) ≡ last_byte_of s
  take_last = grind (arith, get_or-take)

  pub take_fits : padding_fits (take n s) ≡ padding_fits s
  unfolding padding_fits
  take_fits = grind (arith, get_or-take)
