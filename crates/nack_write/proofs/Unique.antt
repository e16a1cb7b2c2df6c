-- No slack: two outcomes, answer and lent memory, that satisfy the promise are equal.
use Prim.Native.Nat.{ℕ}
use mathlib.Core.List.{List}
use mathlib.Core.Path.{◌≡◌}
use Rattle.std.specs.Prelude.{Result}
use Rattle.refusal.specs.declared.Refusal.{Refusal}
use Rattle.lent.proofs.Unique.{fills_unique}
use Rattle.nack_write.specs.Promise.{Wrote}

pub write_unique : (store out : List ℕ) {r q : Result ℕ Refusal} {new other : List ℕ} → Wrote store out r new → Wrote store out q other → (r ≡ q) × (new ≡ other)
write_unique store out a b = fills_unique a b
