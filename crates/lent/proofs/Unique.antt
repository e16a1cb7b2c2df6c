-- No slack: what a store leaves in the buffer is one list of bytes, and a part that is handed back is one part.
use Prim.Native.Nat.{ℕ}
use mathlib.Core.List.{List}
use mathlib.Core.Path.{◌≡◌, sym, ◌∙◌}
use denote.Ref.{Bor}
use Rattle.std.specs.Prelude.{Result}
use Rattle.refusal.specs.Outcome.{Outcome}
use Rattle.refusal.specs.declared.Refusal.{Refusal}
use Rattle.refusal.proofs.Unique.{said_unique}
use Rattle.lent.specs.Fills.{Fills}
use Rattle.lent.specs.Store.{Stored}
use Rattle.lent.specs.Part.{PartOf}

-- `put`, `put16`, `zeros` and `copy` differ in the bytes alone
pub store_unique : (old : List ℕ) (at : ℕ) (bytes new other : List ℕ) → Stored old at bytes new → Stored old at bytes other → new ≡ other
store_unique old at bytes new other a b = a ∙ sym b

-- a call that fills memory
pub fills_unique : {A B : Type 0} {outcome : Outcome B} {at : ℕ} {elements old new other : List A} {r q : Result B Refusal}
    → Fills outcome at elements old r new → Fills outcome at elements old q other → (r ≡ q) × (new ≡ other)
fills_unique a b = (said_unique _ _ (a.answer ∙ sym b.answer), a.memory ∙ sym b.memory)

-- two parts that satisfy one promise read the same and stand at the same place
pub record SamePart (a b : Bor (List ℕ)) : Type 0 where
  pub reads : a.now ≡ b.now
  pub memory : a.ref_ptr.0 ≡ b.ref_ptr.0
  pub place : a.ref_ptr.1 ≡ b.ref_ptr.1

pub part_unique : {lent : Bor (List ℕ)} {start size : ℕ} {a b : Bor (List ℕ)} → PartOf lent start size a → PartOf lent start size b → SamePart a b
part_unique p q = record { reads = p.reads ∙ sym q.reads; memory = p.memory ∙ sym q.memory; place = p.place ∙ sym q.place }
