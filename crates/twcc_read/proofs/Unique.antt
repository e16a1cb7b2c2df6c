-- No slack: two outcomes of `read` that meet its promise are equal, the list included.
use mathlib.Core.Path.{◌≡◌}
use mathlib.Core.List.{List}
use Prim.Native.Nat.{ℕ}
use lib.IntN.{ℤ}
use Rattle.std.specs.Prelude.{Result}
use Rattle.refusal.specs.declared.Refusal.{Refusal}
use Rattle.lent.proofs.Unique.{fills_unique}
use Rattle.twcc_read.specs.Promise.{Reads}
use Rattle.twcc_read.specs.declared.Listed.{Listed}

pub read_unique : (block : List ℕ) (old : List ℤ) {a b : Result Listed Refusal} {new other : List ℤ} → Reads block old a new → Reads block old b other → (a ≡ b) × (new ≡ other)
read_unique block old one two = fills_unique one two
