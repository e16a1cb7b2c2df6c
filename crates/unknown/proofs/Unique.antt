-- No slack: two outcomes, answer and buffer, that satisfy one promise are equal.
use Prim.Native.Nat.{ℕ}
use mathlib.Core.List.{List}
use mathlib.Core.Path.{◌≡◌, sym, ◌∙◌}
use Rattle.std.specs.Prelude.{Result}
use Rattle.refusal.specs.Said.{said}
use Rattle.refusal.proofs.Unique.{said_unique}
use Rattle.refusal.specs.declared.Refusal.{Refusal}
use Rattle.lent.proofs.Unique.{fills_unique}
use Rattle.unknown.specs.Parse.{unknown}
use Rattle.unknown.specs.Write.{Wrote}

pub parse_unique : (packet : List ℕ) (a b : Result Unit Refusal) → said a ≡ unknown packet → said b ≡ unknown packet → a ≡ b
parse_unique packet a b p q = said_unique a b (p ∙ sym q)

pub write_unique : (count type : ℕ) (body : List ℕ) (padding : ℕ) (old : List ℕ) {r q : Result ℕ Refusal} {new other : List ℕ} → Wrote count type body padding old r new → Wrote count type body padding old q other → (r ≡ q) × (new ≡ other)
write_unique count type body padding old a b = fills_unique a b
