-- No slack: two outcomes that satisfy one promise agree. A walk is promised whole; a part, by what it reads and where it stands.
use Prim.Native.Nat.{ℕ}
use mathlib.Core.List.{List}
use mathlib.Core.Path.{◌≡◌, ap₂, sym, ◌∙◌}
use denote.Ref.{Bor}
use Rattle.lent.proofs.Unique.{SamePart}
use Rattle.compound.proofs.Unique.{walk_unique, walk_part_unique}
use Rattle.compound.specs.Walk.{walk_next}
use Rattle.compound.specs.declared.Walked.{Walked}
use Rattle.walk.specs.Promises.{Starts, Steps, HandsBackPart, Follows}
use Rattle.walk.specs.declared.Compound.{Compound}

same : (bytes : Bor (List ℕ)) (offset : ℕ) (a b : Compound) → (a.bytes ≡ bytes) × (a.offset ≡ offset) → (b.bytes ≡ bytes) × (b.offset ≡ offset) → a ≡ b
same bytes offset a b p q = ap₂ (λ (s : Bor (List ℕ)) (n : ℕ). record { bytes = s; offset = n }) (p.0 ∙ sym q.0) (p.1 ∙ sym q.1)

pub new_unique : (bytes : Bor (List ℕ)) (a b : Compound) → Starts bytes a → Starts bytes b → a ≡ b
new_unique bytes = same bytes 0

pub step_unique : (c : Compound) (a b : Walked) → Steps c a → Steps c b → a ≡ b
step_unique c = walk_unique c.bytes.now c.offset

pub part_unique : (c : Compound) (a b : Bor (List ℕ)) → HandsBackPart c a → HandsBackPart c b → SamePart a b
part_unique c = walk_part_unique c.bytes c.offset

pub advance_unique : (c a b : Compound) → Follows c a → Follows c b → a ≡ b
advance_unique c = same c.bytes (walk_next c.bytes.now c.offset)
