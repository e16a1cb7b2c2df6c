-- Laws of the packet record: what callers use instead of the definitions' text.
use Prim.Native.Nat.{ℕ, ◌+◌, ◌-◌, ◌%◌, ◌≤◌}
use mathlib.Core.List.{List}
use mathlib.Core.Path.{◌≡◌}
use mathlib.Core.Bool.{false}
use native.Mathlib.Omega.{arith}
use lib.ListN.{length, take, drop}
use Rattle.std.proofs.lemmas.List.{length-drop, length-take, get_or-drop, take_all}
use Rattle.refusal.specs.Outcome.{gave}
use Rattle.utils.specs.Header.{shortest, length_of}
use Rattle.utils.proofs.Laws.{fitting, take_last, take_fits}
use Rattle.compound.specs.Record.{padding_of, misfits, AddsUp, check_record, own_record}
use Rattle.compound.specs.declared.Packet.{Packet}

-- a part that goes to the end
pub take_rest : (s : List ℕ) (at : ℕ) → take (length s - at) (drop at s) ≡ drop at s
take_rest s at = take_all (length s - at) (drop at s) (omega (arith, length-drop at s))

-- the packet at the front of some bytes says the same alone
module _ (s : List ℕ) (n : ℕ) (size : n ≡ length_of s) (there : n ≤ length s) where
  pub take_padding : padding_of (take n s) ≡ padding_of s
  unfolding padding_of
  take_padding = grind (arith, take_last)

  pub take_misfits : misfits (take n s) ≡ misfits s
  unfolding misfits
  take_misfits = grind (arith, take_fits, take_last)

pub ruleset front = (length-drop, length-take, get_or-drop, take_rest, take_fits, take_padding, take_misfits)

-- where the padding fits, or there is none, it is whole words behind the header
pub record SharedOut (packet : List ℕ) : Type 0 where
  pub inside : shortest + padding_of packet ≤ length_of packet
  pub even : padding_of packet % 4 ≡ 0

pub shared_out : (packet : List ℕ) → misfits packet ≡ false → SharedOut packet
unfolding misfits padding_of
shared_out packet good = grind (arith, fitting)

-- a record that adds up to these bytes passes the test, and no other
pub record IsOf (packet : List ℕ) (p : Packet) : Type 0 where
  pub long : p.length ≡ length packet
  pub sum : AddsUp p

pub adds_up : (packet : List ℕ) (p : Packet) → p.length ≡ length packet → AddsUp p → check_record packet p ≡ gave tt
unfolding check_record
adds_up packet p long sum = grind arith

pub checked_adds_up : (packet : List ℕ) (p : Packet) → check_record packet p ≡ gave tt → IsOf packet p
unfolding check_record
checked_adds_up packet p right = grind arith

-- every record that a packet's own bytes give is of them
pub own_adds_up : (packet : List ℕ) (p : Packet) → own_record packet ≡ gave p → IsOf packet p
unfolding own_record
own_adds_up packet p gives = grind (arith, checked_adds_up)
