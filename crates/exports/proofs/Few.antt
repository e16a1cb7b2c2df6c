-- Eight values at most, with zeros behind them.
use Prim.Native.Nat.{ℕ, ◌≤◌}
use mathlib.Core.Path.{◌≡◌, refl, sym, ap}
use mathlib.Core.List.{List, [], ◌∷◌, ◌++◌, map}
use native.Mathlib.Omega.{arith}
use lib.IntN.{pos}
use lib.ListN.{length, take, drop, length-take, replicate}
use Rattle.exports.specs.Says.{says}

few : (xs : List ℕ) → length xs ≤ 8 → (says 0 (map pos xs)).values ≡ xs ++ drop (length xs) (replicate 8 0)
few [] fits = refl
few (a ∷ []) fits = refl
few (a ∷ b ∷ []) fits = refl
few (a ∷ b ∷ c ∷ []) fits = refl
few (a ∷ b ∷ c ∷ d ∷ []) fits = refl
few (a ∷ b ∷ c ∷ d ∷ e ∷ []) fits = refl
few (a ∷ b ∷ c ∷ d ∷ e ∷ f ∷ []) fits = refl
few (a ∷ b ∷ c ∷ d ∷ e ∷ f ∷ g ∷ []) fits = refl
few (a ∷ b ∷ c ∷ d ∷ e ∷ f ∷ g ∷ h ∷ []) fits = refl
few (a ∷ b ∷ c ∷ d ∷ e ∷ f ∷ g ∷ h ∷ i ∷ xs) fits = absurd (omega arith)

-- `front` is what was copied over the first n of eight zeros
pub behind_zeros : (n : ℕ) (xs front : List ℕ) → front ≡ xs → length front ≡ length (take n (replicate {A = ℕ} 8 0)) → n ≤ 8
    → record { number = 0; values = front ++ drop n (replicate 8 0) } ≡ says 0 (map pos xs)
behind_zeros n xs front same size fits =
    let all : length xs ≡ n = omega (arith, ap length same, size, length-take {A = ℕ} n (replicate 8 0)) in
    let eight : length xs ≤ 8 = omega arith in
    ap (λ (l : List ℕ). record { number = 0; values = l }) (rw (same, ← all) (sym (few xs eight)))
