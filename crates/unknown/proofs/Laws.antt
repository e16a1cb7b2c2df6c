-- Laws of a packet of any type: that it is accepted, and the size of its bytes.
use Prim.Native.Nat.{ℕ, ◌+◌, ◌≤◌}
use mathlib.Core.List.{List, [], ◌∷◌, ◌++◌}
use mathlib.Core.Path.{◌≡◌}
use native.Mathlib.Omega.{arith}
use lib.ListN.{length, length-append, set}
use lib.Seq.{sets}
use Rattle.refusal.specs.Outcome.{gave}
use Rattle.lent.proofs.Laws.{sets_append, length-zero_bytes}
use Rattle.utils.specs.Header.{version_of, length_of}
use Rattle.utils.specs.Check.{own_length}
use Rattle.unknown.specs.Parse.{unknown}
use Rattle.unknown.specs.Packet.{size_of, body_bytes, pad_bytes, packet_bytes}

-- one packet of version 2 that is as long as it says is accepted
pub unknown_whole : (bytes : List ℕ) → 4 ≤ length bytes → version_of bytes ≡ 2 → length_of bytes ≡ length bytes → unknown bytes ≡ gave tt
unfolding unknown own_length
unknown_whole bytes header two whole = grind arith

pub length-pad_bytes : (padding : ℕ) → length (pad_bytes padding) ≡ padding
unfolding pad_bytes
length-pad_bytes padding = grind (arith, length-append, length-zero_bytes)

pub length-body_bytes : (count type : ℕ) (body : List ℕ) (padding : ℕ) → length (body_bytes count type body padding) ≡ 4 + length body
unfolding body_bytes
length-body_bytes count type body padding = omega arith

pub length-packet_bytes : (count type : ℕ) (body : List ℕ) (padding : ℕ) → length (packet_bytes count type body padding) ≡ size_of (length body) padding
length-packet_bytes count type body padding = grind (arith, length-append, length-body_bytes, length-pad_bytes)

-- bytes stored right behind others
pub sets_behind : (old first rest : List ℕ) (at from : ℕ) → from ≡ at + length first → sets (sets old at first) from rest ≡ sets old at (first ++ rest)
sets_behind old first rest at from end = rw end (sets_append old at first rest)

pub set_behind : (old first : List ℕ) (at from : ℕ) (byte : ℕ) → from ≡ at + length first → set (sets old at first) from byte ≡ sets old at (first ++ byte ∷ [])
set_behind old first at from byte end = sets_behind old first (byte ∷ []) at from end

pub ruleset stores = (sets_behind, set_behind, length-zero_bytes, length-body_bytes)
