-- Laws of one turn of the pass, of the pass, and of one step of the walk: what callers use instead of the definitions' text.
use Prim.Native.Nat.{ℕ, zero, suc, ◌+◌, ◌-◌, ◌%◌, ◌≤◌, ◌<◌}
use mathlib.Core.List.{List, [], ◌∷◌}
use mathlib.Core.Path.{◌≡◌, ap, sym, ◌∙◌}
use mathlib.Core.Bool.{true}
use native.Mathlib.Omega.{arith}
use lib.IntN.{ℤ}
use lib.ListN.{length, drop}
use Rattle.std.specs.Prelude.{Some}
use Rattle.refusal.specs.Outcome.{gave, refused, refuse}
use Rattle.utils.specs.Header.{version_of, padding_bit_of}
use Rattle.utils.specs.Check.{padding_fits}
use Rattle.compound.specs.Pass.{end_of, first_turn, turns_from, pass_by, first_pass}
use Rattle.compound.specs.Record.{packet_at, AddsUp}
use Rattle.compound.specs.Walk.{walk_step, step, next_of, walk_next}
use Rattle.compound.specs.Said.{said_walked}
use Rattle.compound.specs.declared.Packet.{Packet}
use Rattle.compound.specs.declared.Walked.{Walked}
use Rattle.compound.proofs.Record.{shared_out}

-- ---- one turn

-- a turn that goes on has a whole packet of version 2 before it, four bytes at least
pub record Turned (bytes : List ℕ) (at next : ℕ) : Type 0 where
  pub moves : at + 4 ≤ next
  pub within : next ≤ length bytes
  pub ends : next ≡ end_of bytes at
  pub two : version_of (drop at bytes) ≡ 2

-- and where that is padded it is the last, and its count fits
pub record Passed (bytes : List ℕ) (at next : ℕ) : Type 0 where
  pub turned : Turned bytes at next
  pub last : (padding_bit_of (drop at bytes) ≡ 0 → ⊥) → length bytes ≤ next
  pub fits : (padding_bit_of (drop at bytes) ≡ 0 → ⊥) → padding_fits (drop at bytes) ≡ true

pub turn_on : (bytes : List ℕ) (at next : ℕ) → first_turn bytes at ≡ gave next → Passed bytes at next
unfolding first_turn
turn_on bytes at next goes = grind arith

-- ---- the turns of the pass

-- none past the end
pub turns_end : (most : ℕ) (bytes : List ℕ) (at : ℕ) → length bytes ≤ at → turns_from first_turn most bytes at ≡ gave tt
unfolding turns_from
turns_end zero bytes at none = grind arith
turns_end (suc most) bytes at none = grind arith

-- the turns that are left from an offset on say what the whole pass says
pub record Passing (bytes : List ℕ) (at : ℕ) : Type 0 where
  pub turns : ℕ
  pub enough : length bytes - at ≤ turns
  pub within : at ≤ length bytes
  pub same : turns_from first_turn turns bytes at ≡ first_pass bytes

pub pass-start : (bytes : List ℕ) → 0 < length bytes → turns_from first_turn (length bytes) bytes 0 ≡ first_pass bytes
unfolding pass_by first_pass
pass-start bytes some = grind arith

pub passing_start : (bytes : List ℕ) → 0 < length bytes → Passing bytes 0
passing_start bytes some = record { turns = length bytes; enough = omega arith; within = omega arith; same = pass-start bytes some }

-- it goes on
pub passing_next : {bytes : List ℕ} {at : ℕ} (next : ℕ) → at < length bytes → first_turn bytes at ≡ gave next → Passing bytes at → Passing bytes next
unfolding turns_from
passing_next {bytes} {at} next more goes p = go p.turns p.enough p.same
  where
    on : Turned bytes at next
    on = (turn_on bytes at next goes).turned

    go : (turns : ℕ) → length bytes - at ≤ turns → turns_from first_turn turns bytes at ≡ first_pass bytes → Passing bytes next
    go zero enough same = absurd (omega arith)
    go (suc turns) enough same = record { turns = turns; enough = omega (arith, on); within = on.within; same = grind arith }

-- it refuses
pub passing_no : {bytes : List ℕ} {at : ℕ} (number : ℕ) (values : List ℤ) → at < length bytes → first_turn bytes at ≡ refused number values → Passing bytes at
    → first_pass bytes ≡ refused number values
unfolding turns_from
passing_no {bytes} {at} number values more refuses p = go p.turns p.enough p.same
  where
    go : (turns : ℕ) → length bytes - at ≤ turns → turns_from first_turn turns bytes at ≡ first_pass bytes → first_pass bytes ≡ refused number values
    go zero enough same = absurd (omega arith)
    go (suc turns) enough same = grind arith

-- it is at the end
pub passing_end : {bytes : List ℕ} {at : ℕ} → length bytes ≤ at → Passing bytes at → first_pass bytes ≡ gave tt
passing_end {bytes} {at} past p = sym p.same ∙ turns_end p.turns bytes at past

-- what is left has no header
pub turn-short : (bytes : List ℕ) (at : ℕ) → length bytes < at + 4 → first_turn bytes at ≡ refuse 1 ((at + 4) ∷ length bytes ∷ [])
unfolding first_turn
turn-short bytes at short = grind arith

pub passing_short : {bytes : List ℕ} {at : ℕ} → Passing bytes at → at < length bytes → length bytes < at + 4 → first_pass bytes ≡ refuse 1 ((at + 4) ∷ length bytes ∷ [])
passing_short p more short = passing_no _ _ more (turn-short _ _ short) p

pub pass-short : (bytes : List ℕ) → length bytes < 4 → first_pass bytes ≡ refuse 1 (4 ∷ length bytes ∷ [])
unfolding pass_by first_pass
pass-short [] short = grind arith
pass-short (b ∷ bytes) short = passing_short (passing_start (b ∷ bytes) (omega arith)) (omega arith) short

pub ruleset passing = (turn_on, pass-short, passing_short, passing_start, passing_next, passing_no, passing_end)

-- ---- a step of the walk

-- a packet that the walk hands back starts there and ends where the walk goes on; it lies within the bytes and has four bytes at least.
-- Its record says what its bytes say; header, body and padding are its length, and the padding is whole words
pub record Handed (bytes : List ℕ) (at next : ℕ) (p : Packet) : Type 0 where
  pub starts : p.start ≡ at
  pub size : p.length ≡ next - at
  pub turned : Turned bytes at next
  pub own : p ≡ packet_at bytes at
  pub adds_up : AddsUp p
  pub even : p.padding % 4 ≡ 0

pub walk-packet : (bytes : List ℕ) (at next : ℕ) (p : Packet) → walk_step bytes at ≡ step (gave (Some p)) next → Handed bytes at next p
unfolding walk_step
walk-packet bytes at next p steps = grind (arith, shared_out)

-- every step before the end moves on, and none past it; so does the answer to it
pub record Moves (bytes : List ℕ) (at next : ℕ) : Type 0 where
  pub on : at < next
  pub within : next ≤ length bytes

pub walk_moves : (bytes : List ℕ) (at : ℕ) → at < length bytes → Moves bytes at (walk_next bytes at)
unfolding walk_next walk_step
walk_moves bytes at more = grind arith

pub answer_moves : (bytes : List ℕ) (at : ℕ) (w : Walked) → said_walked w ≡ walk_step bytes at → at < length bytes → Moves bytes at w.next
unfolding walk_next
answer_moves bytes at w said more = rw (ap next_of said) (walk_moves bytes at more)
