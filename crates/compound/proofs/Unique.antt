-- No slack: two answers that satisfy one promise are equal.
use Prim.Native.Nat.{ℕ}
use mathlib.Core.List.{List}
use mathlib.Core.Path.{◌≡◌, ap₂, sym, ◌∙◌}
use denote.Ref.{Bor}
use Rattle.std.specs.Prelude.{Result, Option}
use Rattle.refusal.specs.Said.{said}
use Rattle.refusal.proofs.Unique.{said_unique}
use Rattle.refusal.specs.declared.Refusal.{Refusal}
use Rattle.lent.proofs.Unique.{SamePart, part_unique}
use Rattle.compound.specs.Pass.{first_pass}
use Rattle.compound.specs.Walk.{walk_step, walk_next, HandsBack}
use Rattle.compound.specs.Record.{check_record, own_record}
use Rattle.compound.specs.Said.{said_walked}
use Rattle.compound.specs.declared.Packet.{Packet}
use Rattle.compound.specs.declared.Walked.{Walked}

pub parse_unique : (bytes : List ℕ) (a b : Result Unit Refusal) → said a ≡ first_pass bytes → said b ≡ first_pass bytes → a ≡ b
parse_unique bytes a b p q = said_unique a b (p ∙ sym q)

pub check_record_unique : (packet : List ℕ) (p : Packet) (a b : Result Unit Refusal) → said a ≡ check_record packet p → said b ≡ check_record packet p → a ≡ b
check_record_unique packet p a b q r = said_unique a b (q ∙ sym r)

pub record_of_unique : (packet : List ℕ) (a b : Result Packet Refusal) → said a ≡ own_record packet → said b ≡ own_record packet → a ≡ b
record_of_unique packet a b p q = said_unique a b (p ∙ sym q)

pub walk_unique : (bytes : List ℕ) (at : ℕ) (a b : Walked) → said_walked a ≡ walk_step bytes at → said_walked b ≡ walk_step bytes at → a ≡ b
walk_unique bytes at a b p q =
    let same : said_walked a ≡ said_walked b = p ∙ sym q in
    ap₂ (λ (f : Result (Option Packet) Refusal) (n : ℕ). record { found = f; next = n }) (said_unique a.found b.found (cc)) (cc)

pub walk_part_unique : (bytes : Bor (List ℕ)) (at : ℕ) (a b : Bor (List ℕ)) → HandsBack bytes at a → HandsBack bytes at b → SamePart a b
walk_part_unique bytes at a b p q = part_unique p q

pub walk_next_unique : (bytes : List ℕ) (at a b : ℕ) → a ≡ walk_next bytes at → b ≡ walk_next bytes at → a ≡ b
walk_next_unique bytes at a b p q = p ∙ sym q
