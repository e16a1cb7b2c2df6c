-- No slack: two outcomes, plan and buffer, that meet a promise are equal.
use Prim.Native.Nat.{ℕ}
use mathlib.Core.Path.{◌≡◌, sym, ap, ◌∙◌}
use mathlib.Core.List.{List}
use Rattle.std.specs.Prelude.{Option}
use lib.IntN.{ℤ}
use Rattle.twcc_plan.specs.Limits.{up_four}
use Rattle.twcc_plan.specs.Block.{first_bad}
use Rattle.twcc_plan.specs.Promise.{Plans}
use Rattle.twcc_plan.specs.declared.Plan.{Plan}

pub plans_unique : {list : List ℤ} {limit : Option ℕ} {old new₁ new₂ : List ℕ} {p q : Plan} → Plans list limit old p new₁ → Plans list limit old q new₂ → (p ≡ q) × (new₁ ≡ new₂)
plans_unique {p = p} {q = q} one two =
    let chunks = one.chunks ∙ sym two.chunks in
    let used = one.used ∙ sym two.used in
    let bytes = one.bytes ∙ ap up_four used ∙ sym two.bytes in
    let taken = one.taken ∙ sym two.taken in
    (λ i. record { chunks = chunks i; used = used i; bytes = bytes i; taken = taken i }, one.stored ∙ sym two.stored)

pub first_bad_unique : (list : List ℤ) (a b : ℕ) → a ≡ first_bad list → b ≡ first_bad list → a ≡ b
first_bad_unique list a b one two = one ∙ sym two
