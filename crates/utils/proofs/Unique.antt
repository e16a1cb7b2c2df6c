-- No slack: two answers that satisfy one promise are equal.
use Prim.Native.Nat.{ℕ}
use mathlib.Core.List.{List}
use mathlib.Core.Path.{◌≡◌, sym, ◌∙◌}
use Rattle.std.specs.Prelude.{Result, Option}
use Rattle.refusal.specs.Said.{said}
use Rattle.refusal.proofs.Unique.{said_unique}
use Rattle.refusal.specs.declared.Refusal.{Refusal}
use Rattle.utils.specs.Check.{check_present, check_version, field, padding_byte, check_length, check_packet}

pub check_present_unique : (bytes : List ℕ) (expected : ℕ) (a b : Result Unit Refusal) → said a ≡ check_present bytes expected → said b ≡ check_present bytes expected → a ≡ b
check_present_unique bytes expected a b p q = said_unique a b (p ∙ sym q)

pub check_version_unique : (first : ℕ) (a b : Result Unit Refusal) → said a ≡ check_version first → said b ≡ check_version first → a ≡ b
check_version_unique first a b p q = said_unique a b (p ∙ sym q)

-- version, padding bit, count, type and length: `value` is any of them
pub field_unique : (packet : List ℕ) (value : ℕ) (a b : Result ℕ Refusal) → said a ≡ field packet value → said b ≡ field packet value → a ≡ b
field_unique packet value a b p q = said_unique a b (p ∙ sym q)

pub padding_unique : (packet : List ℕ) (a b : Result (Option ℕ) Refusal) → said a ≡ padding_byte packet → said b ≡ padding_byte packet → a ≡ b
padding_unique packet a b p q = said_unique a b (p ∙ sym q)

pub check_length_unique : (packet : List ℕ) (a b : Result Unit Refusal) → said a ≡ check_length packet → said b ≡ check_length packet → a ≡ b
check_length_unique packet a b p q = said_unique a b (p ∙ sym q)

pub check_packet_unique : (packet : List ℕ) (least type : ℕ) (a b : Result Unit Refusal) → said a ≡ check_packet packet least type → said b ≡ check_packet packet least type → a ≡ b
check_packet_unique packet least type a b p q = said_unique a b (p ∙ sym q)
