-- No slack: two outcomes, answer and buffer, that satisfy the writer's promise are equal.
use Prim.Native.Nat.{ℕ}
use mathlib.Core.Path.{◌≡◌}
use mathlib.Core.List.{List}
use Rattle.std.specs.Prelude.{Option, Result}
use lib.IntN.{ℤ}
use Rattle.lent.proofs.Unique.{fills_unique}
use Rattle.refusal.specs.declared.Refusal.{Refusal}
use Rattle.twcc_write.specs.Promise.{Wrote}
use Rattle.twcc_write.specs.declared.Used.{Used}

pub write_unique : (base time feedback : ℕ) (list : List ℤ) (limit : Option ℕ) (old : List ℕ) {a b : Result Used Refusal} {new other : List ℕ}
    → Wrote base time feedback list limit old a new → Wrote base time feedback list limit old b other → (a ≡ b) × (new ≡ other)
write_unique base time feedback list limit old one two = fills_unique one two
