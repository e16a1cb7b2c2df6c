-- No slack: two answers that meet a promise are equal.
use Prim.Native.Nat.{ℕ}
use mathlib.Core.Path.{◌≡◌, sym, ◌∙◌}
use Rattle.kinds.specs.Seq.{later}
use Rattle.kinds.specs.declared.Seq.{Seq}

pub next_base_unique : (base : Seq) (taken : ℕ) (a b : Seq) → a.0 ≡ later base.0 taken → b.0 ≡ later base.0 taken → a ≡ b
next_base_unique base taken a b one two = λ i. record { 0 = (one ∙ sym two) i }
