-- Small steps that proofs everywhere take.
use Prim.Native.Nat.{ℕ}
use mathlib.Core.Path.{◌≡◌, refl}
use mathlib.Core.Bool.{Bool, true, false}
use mathlib.Core.List.{List, [], ◌∷◌}
use native.Mathlib.Omega.{arith}
use lib.ListN.{length}

-- by whether a test holds, with what that says of it
pub by_test : {X : Type 0} (b : Bool) → (b ≡ true → X) → (b ≡ false → X) → X
by_test true holds fails = holds refl
by_test false holds fails = fails refl

-- a list without elements is empty
pub nothing : {A : Type 0} (xs : List A) → length xs ≡ 0 → xs ≡ []
nothing [] none = refl
nothing (x ∷ xs) none = absurd (omega arith)

-- a case that can't be: what is given makes 0 and 1 equal
pub never : {X : Type 0} → ◌≡◌ {A = ℕ} 0 1 → X
never same = absurd (omega (arith, same))
