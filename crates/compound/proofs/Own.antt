-- Readers take the same from the walk's record and from a packet's own bytes.
use Prim.Native.Nat.{ℕ}
use mathlib.Core.List.{List}
use mathlib.Core.Path.{◌≡◌}
use native.Mathlib.Omega.{arith}
use Rattle.std.proofs.lemmas.List.{get_or-take, length-take, length-drop}
use Rattle.std.specs.Prelude.{Some}
use Rattle.refusal.specs.Outcome.{gave}
use Rattle.utils.proofs.Laws.{one-packet}
use Rattle.compound.specs.Record.{check_record, own_record}
use Rattle.compound.specs.Walk.{walk_step, step}
use Rattle.compound.specs.Packets.{bytes_in}
use Rattle.compound.specs.declared.Packet.{Packet}
use Rattle.compound.proofs.Record.{adds_up, take_padding}
use Rattle.compound.proofs.Laws.{Handed, walk-packet}

module _ (bytes : List ℕ) (at next : ℕ) (p : Packet) (steps : walk_step bytes at ≡ step (gave (Some p)) next) where
  handed : Handed bytes at next p
  handed = walk-packet bytes at next p steps

  -- a record that the walk made is of its packet's bytes
  pub walk_checks : check_record (bytes_in bytes p) p ≡ gave tt
  walk_checks = let h = handed in grind (arith, length-take, length-drop, adds_up)

  abbrev alone : Packet
  alone = record { start = 0; length = p.length; body = p.body; padding = p.padding }

  -- and says what those bytes say
  pub walk_own : own_record (bytes_in bytes p) ≡ gave alone
  unfolding own_record
  walk_own = let h = handed in grind (arith, length-take, length-drop, get_or-take, one-packet, adds_up, take_padding)
