-- What a promise speaks of: the answer, or a refusal by its number in docs/RULES.md and the values that go with it.
use Rattle.std.specs.Prelude.{ℕ, List, map, ℤ, pos}

pub data Outcome (A : Type 0) : Type 0 where
  gave : A → Outcome A
  refused : ℕ → List ℤ → Outcome A

-- a refusal whose values are sizes, places and codes: none of them is below zero
abbrev pub refuse : {A : Type 0} → ℕ → List ℕ → Outcome A
refuse number values = refused number (map pos values)

-- go on with the answer, or keep the refusal
abbrev pub and_then : {A B : Type 0} → Outcome A → (A → Outcome B) → Outcome B
and_then (gave a) f = f a
and_then (refused number values) f = refused number values
