-- No slack: two outcomes that satisfy one promise are equal.
use mathlib.Core.Path.{◌≡◌, sym, ◌∙◌}
use mathlib.Core.List.{List}
use lib.IntN.{ℤ}
use Rattle.refusal.specs.Outcome.{Outcome}
use Rattle.exports.specs.Says.{Answers}
use Rattle.exports.specs.Wrote.{Wrote}
use Rattle.exports.specs.declared.Said.{Said}

-- each call that changes no memory: `outcome` is what the function behind it promises
pub said_unique : (outcome : Outcome (List ℤ)) (a b : Said) → Answers outcome a → Answers outcome b → a ≡ b
said_unique outcome a b p q = p ∙ sym q

-- each call that does
pub wrote_unique : {A B : Type 0} {say : Outcome A → Outcome (List ℤ)} {outcome : Outcome A} {new old memory₁ memory₂ : List B} {s₁ s₂ : Said}
    → Wrote say outcome new old s₁ memory₁ → Wrote say outcome new old s₂ memory₂ → (s₁ ≡ s₂) × (memory₁ ≡ memory₂)
wrote_unique a b = (a.said ∙ sym b.said, a.holds ∙ sym b.holds)
