-- The pass and the walk speak of the same packets: on bytes that the first pass accepted, the walk hands back exactly the
-- packets, and laid end to end they are the bytes.
use Prim.Native.Nat.{ℕ, zero, suc, ◌-◌, ◌≤◌, ◌<◌}
use mathlib.Core.List.{List, [], ◌∷◌}
use mathlib.Core.Path.{◌≡◌}
use native.Mathlib.Omega.{arith}
use lib.Dec.{ltb}
use lib.IntN.{ℤ}
use lib.ListN.{length, drop, drop_of_length-le, take-append-drop}
use lib.Seq.{drop-drop}
use Rattle.octets.proofs.Logic.{by_test}
use Rattle.refusal.specs.Outcome.{gave, refused}
use Rattle.utils.specs.Header.{version_of, length_of}
use Rattle.compound.specs.Pass.{end_of, first_turn, turns_from, pass_by, first_pass}
use Rattle.compound.specs.Record.{misfits, packet_at}
use Rattle.compound.specs.Walk.{step, walk_step}
use Rattle.compound.specs.Packets.{Reached, start, on, bytes_in, packets_from, walked_from, packets_in, walked_in, end_to_end}
use Rattle.compound.proofs.Laws.{Passed, turn_on}

-- a pass that accepts what is left has a turn that goes on, or is at the end
pub data Accepted (most : ℕ) (bytes : List ℕ) (at : ℕ) : Type 0 where
  ended : length bytes ≤ at → Accepted most bytes at
  passed : at < length bytes → Passed bytes at (end_of bytes at) → turns_from first_turn most bytes (end_of bytes at) ≡ gave tt → Accepted most bytes at

pub accepted : (most : ℕ) (bytes : List ℕ) (at : ℕ) → turns_from first_turn (suc most) bytes at ≡ gave tt → Accepted most bytes at
unfolding turns_from first_turn
accepted most bytes at passes =
    by_test (ltb at (length bytes))
    (λ more. passed (grind arith) (turn_on _ _ _ (grind arith)) (grind arith))
    (λ none. ended (grind arith))

-- one packet more, or none
pub packets_more : (most : ℕ) (bytes : List ℕ) (at : ℕ) → at < length bytes
    → packets_from (suc most) bytes at ≡ bytes_in bytes (packet_at bytes at) ∷ packets_from most bytes (end_of bytes at)
unfolding packets_from
packets_more most bytes at more = grind arith

pub packets_none : (most : ℕ) (bytes : List ℕ) (at : ℕ) → length bytes ≤ at → packets_from most bytes at ≡ []
unfolding packets_from
packets_none zero bytes at none = grind arith
packets_none (suc most) bytes at none = grind arith

walk_visits : (most : ℕ) (bytes : List ℕ) (at : ℕ) → turns_from first_turn most bytes at ≡ gave tt → walked_from most bytes at ≡ packets_from most bytes at
unfolding packets_from walked_from turns_from first_turn walk_step misfits
walk_visits zero bytes at passes = grind arith
walk_visits (suc most) bytes at passes = grind (arith, walk_visits most bytes (end_of bytes at))

packets_whole : (most : ℕ) (bytes : List ℕ) (at : ℕ) → length bytes - at ≤ most → turns_from first_turn most bytes at ≡ gave tt → end_to_end (packets_from most bytes at) ≡ drop at bytes
unfolding packets_from end_to_end
packets_whole zero bytes at enough passes = grind (arith, drop_of_length-le)
packets_whole (suc most) bytes at enough passes = go (accepted most bytes at passes) (λ fewer goes. packets_whole most bytes (end_of bytes at) fewer goes)
  where
    go : Accepted most bytes at → (length bytes - end_of bytes at ≤ most → turns_from first_turn most bytes (end_of bytes at) ≡ gave tt → end_to_end (packets_from most bytes (end_of bytes at)) ≡ drop (end_of bytes at) bytes)
        → end_to_end (packets_from (suc most) bytes at) ≡ drop at bytes
    go (ended none) again = grind (arith, drop_of_length-le)
    go (passed more t goes) again =
        grind (arith, again (let m = t.turned.moves in omega arith) goes, drop-drop (length_of (drop at bytes)) at bytes, take-append-drop (length_of (drop at bytes)) (drop at bytes))

pub from_start : (bytes : List ℕ) → first_pass bytes ≡ gave tt → turns_from first_turn (length bytes) bytes 0 ≡ gave tt
unfolding pass_by first_pass
from_start bytes passes = grind arith

-- the first packet has version 2
pub first-version : (bytes : List ℕ) → first_pass bytes ≡ gave tt → version_of bytes ≡ 2
unfolding pass_by first_pass turns_from first_turn
first-version [] passes = grind arith
first-version (b ∷ bytes) passes = grind arith

-- the pass accepts what is left from an offset on
record Left (bytes : List ℕ) (at : ℕ) : Type 0 where
  turns : ℕ
  enough : length bytes - at ≤ turns
  rest : turns_from first_turn turns bytes at ≡ gave tt

-- as from every offset that the walk comes to
reached : (bytes : List ℕ) (at : ℕ) → first_pass bytes ≡ gave tt → Reached bytes at → Left bytes at
unfolding turns_from first_turn walk_step
reached bytes at passes start = record { turns = length bytes; enough = omega arith; rest = from_start bytes passes }
reached bytes at passes (on {at = before} r steps) = let l = reached bytes before passes r in go l.turns l.enough l.rest
  where
    go : (turns : ℕ) → length bytes - before ≤ turns → turns_from first_turn turns bytes before ≡ gave tt → Left bytes at
    go zero enough rest = absurd (grind arith)
    go (suc turns) enough rest = record { turns = turns; enough = grind arith; rest = grind arith }

module _ (bytes : List ℕ) (passes : first_pass bytes ≡ gave tt) where
  -- the walk hands back exactly the packets
  pub walk_hands_back : walked_in bytes ≡ packets_in bytes
  walk_hands_back = walk_visits (length bytes) bytes 0 (from_start bytes passes)

  -- laid end to end they are the bytes
  pub packets_are_all : end_to_end (packets_in bytes) ≡ bytes
  packets_are_all = packets_whole (length bytes) bytes 0 (omega arith) (from_start bytes passes)

  -- and no step of it is refused
  pub walk_never_refuses : (at next number : ℕ) (values : List ℤ) → Reached bytes at → walk_step bytes at ≡ step (refused number values) next → ⊥
  unfolding turns_from first_turn walk_step misfits
  walk_never_refuses at next number values r refuses = let l = reached bytes at passes r in go l.turns l.enough l.rest
    where
      go : (turns : ℕ) → length bytes - at ≤ turns → turns_from first_turn turns bytes at ≡ gave tt → ⊥
      go zero enough rest = grind arith
      go (suc turns) enough rest = grind arith
