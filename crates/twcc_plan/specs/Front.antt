-- How many elements at the front of a list pass a test: the run, the one-bit symbols, the words in range.
use Rattle.std.specs.Prelude.{ℕ, suc, ◌≤◌, ◌<◌, List, [], ◌∷◌, Bool, true, false, cond, ℤ, pos, length, get_or}

unfoldable pub front : {A : Type 0} → (A → Bool) → List A → ℕ
front p [] = 0
front p (x ∷ xs) = cond (p x) (suc (front p xs)) 0

-- a test as the code calls it says yes of the first n words
abbrev pub Yes : (ℤ → Bool → Type 0) → List ℤ → ℕ → Type 0
Yes says list n = (k : ℕ) → k < n → says (get_or list k (pos 0)) true

-- and no of the next, if there is one
pub record Passes (says : ℤ → Bool → Type 0) (list : List ℤ) (n : ℕ) : Type 0 where
  pub within : n ≤ length list
  pub before : Yes says list n
  pub ends : n < length list → says (get_or list n (pos 0)) false
