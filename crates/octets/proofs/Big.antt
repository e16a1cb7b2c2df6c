-- The way back: a number's bytes hold the number.
use Prim.Native.Nat.{ℕ, zero, suc, ◌+◌, ◌*◌, ◌/◌, ◌%◌, ◌^◌, ◌<◌}
use mathlib.Core.List.{List, ◌∷◌, ◌++◌}
use mathlib.Core.Path.{◌≡◌, refl, sym, ap, ◌∙◌}
use native.Mathlib.Nat.{zero-add, pow-suc, mul_assoc, one-le-pow, mod-lt, div-add-mod'}
use native.Mathlib.Omega.{arith}
use lib.ListN.{length, get_or}
use Rattle.octets.specs.Big.{be, be_bytes}

-- a number has k bytes
pub length-be_bytes : (k number : ℕ) → length (be_bytes k number) ≡ k
length-be_bytes zero number = refl
length-be_bytes (suc zero) number = refl
length-be_bytes (suc (suc k)) number = ap suc (length-be_bytes (suc k) (number % 256 ^ suc k))

one_more : (a b g h y z : ℕ) → a ≡ y + b → z ≡ y * 256 → g ≡ h → 256 * a + g ≡ z + (256 * b + h)
one_more a b g h y z front grows last = omega (arith, front, grows, last)

-- the high byte, and the rest
pub be_high : (k x : ℕ) (bytes : List ℕ) → be (suc k) (x ∷ bytes) 0 ≡ x * 256 ^ k + be k bytes 0
be_high zero x bytes = omega arith
be_high (suc zero) x bytes = omega arith
be_high (suc (suc k)) x bytes =
    one_more (be (suc (suc k)) (x ∷ bytes) 0) (be (suc k) bytes 0) (get_or (x ∷ bytes) (0 + suc (suc k)) 0) (get_or bytes (0 + suc k) 0) (x * 256 ^ suc k) (x * 256 ^ suc (suc k))
    (be_high (suc k) x bytes)
    (ap (λ (p : ℕ). x * p) (pow-suc 256 (suc k)) ∙ sym (mul_assoc x (256 ^ suc k) 256))
    (ap (λ (i : ℕ). get_or (x ∷ bytes) i 0) (zero-add (suc (suc k))) ∙ sym (ap (λ (i : ℕ). get_or bytes i 0) (zero-add (suc k))))

-- what a number's bytes hold, whatever stands behind them
pub be-back : (k number : ℕ) (rest : List ℕ) → number < 256 ^ k → be k (be_bytes k number ++ rest) 0 ≡ number
be-back zero number rest small = omega arith
be-back (suc zero) number rest small = refl
be-back (suc (suc k)) number rest small =
    let p = 256 ^ suc k in
    be_high (suc k) (number / p) (be_bytes (suc k) (number % p) ++ rest)
    ∙ ap (λ (low : ℕ). number / p * p + low) (be-back (suc k) (number % p) rest (mod-lt number (one-le-pow (suc k) 256 (omega arith))))
    ∙ div-add-mod' number p
