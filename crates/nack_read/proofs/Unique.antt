-- No slack: two outcomes, answer and lent memory, that satisfy the promise are equal.
use Prim.Native.Nat.{ℕ}
use mathlib.Core.List.{List}
use mathlib.Core.Path.{◌≡◌}
use Rattle.std.specs.Prelude.{Result}
use Rattle.refusal.specs.declared.Refusal.{Refusal}
use Rattle.lent.proofs.Unique.{fills_unique}
use Rattle.nack_read.specs.Promise.{Read}

pub read_unique : (bytes list : List ℕ) {r q : Result ℕ Refusal} {new other : List ℕ} → Read bytes list r new → Read bytes list q other → (r ≡ q) × (new ≡ other)
read_unique bytes list a b = fills_unique a b
