-- What a call promises that fills lent memory from a place on.
use Rattle.std.specs.Prelude.{ℕ, ◌≡◌, List, Result}
use Rattle.std.proofs.lemmas.List.Edits.{sets}
use Rattle.refusal.specs.Outcome.{Outcome, gave, refused}
use Rattle.refusal.specs.Said.{said}
use Rattle.refusal.specs.declared.Refusal.{Refusal}

-- after an answer what the memory is to hold; after a refusal what it held
abbrev pub held : {A B : Type 0} → Outcome B → List A → List A → List A
held (gave answer) new old = new
held (refused number values) new old = old

-- the outcome, and all of the memory: after an answer the elements stand there from the place on
pub record Fills {A B : Type 0} (outcome : Outcome B) (at : ℕ) (elements old : List A) (r : Result B Refusal) (new : List A) : Type 0 where
  pub answer : said r ≡ outcome
  pub memory : new ≡ held outcome (sets old at elements) old
