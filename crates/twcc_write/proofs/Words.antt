-- One status word, and its delta bytes as the code takes them.
use Prim.Native.Nat.{ℕ, zero, suc, ◌+◌, ◌/◌, ◌%◌, ◌≤◌, ◌<◌}
use mathlib.Core.Path.{◌≡◌, ap, ◌∙◌}
use mathlib.Core.List.{List, [], ◌∷◌, map}
use native.Mathlib.Omega.{arith}
use native.Mathlib.Nat.{not-suc-le-zero, le_of_suc-le-suc}
use borrow.Author.Tests.{ltb-true}
use lib.Dec.{ltb}
use lib.IntN.{ℤ, pos, negsuc}
use lib.ListN.{length, get_or, replicate, get_or-replicate}
use mir.Syntax.{w32}
use mir.Val.{of_z}
use Rattle.octets.proofs.Logic.{by_test}
use Rattle.octets.specs.Bounds.{Below}
use Rattle.twcc_plan.proofs.Symbols.{symbol-there}
use Rattle.twcc.specs.Words.{half, Valid, AllValid, symbol_of, bits16}

pub valid-at : (list : List ℤ) (n : ℕ) (d : ℤ) → AllValid list → n < length list → Valid (get_or list n d)
valid-at [] n d valid inside = absurd (not-suc-le-zero inside)
valid-at (w ∷ list) zero d valid inside = valid.0
valid-at (w ∷ list) (suc n) d valid inside = valid-at list n d valid.1 (le_of_suc-le-suc inside)

pub light-at : (most : ℕ) (list : List ℤ) (n : ℕ) (d : ℤ) → Below (most + 1) (map symbol_of list) → n < length list → symbol_of (get_or list n d) ≤ most
light-at most [] n d below inside = absurd (not-suc-le-zero inside)
light-at most (w ∷ list) zero d below inside = omega (arith, below.0)
light-at most (w ∷ list) (suc n) d below inside = light-at most list n d below.1 (le_of_suc-le-suc inside)

-- a run's words have its symbol
pub run-symbol : (words : List ℤ) (n symbol : ℕ) → map symbol_of words ≡ replicate (length words) symbol → n < length words → symbol_of (get_or words n (pos 0)) ≡ symbol
run-symbol words n symbol same inside =
    symbol-there words n (pos 0) inside ∙ ap (λ (ss : List ℕ). get_or ss n 0) same ∙ get_or-replicate (length words) n symbol 0 inside

-- the two low bytes of the word as the machine holds it
pub low_bytes : (w : ℤ) → Valid w → (of_z w32 w / 256 % 256 ≡ bits16 w / 256) × (of_z w32 w % 256 ≡ bits16 w % 256)
unfolding bits16
low_bytes (pos n) valid = (omega arith, omega arith)
low_bytes (negsuc n) valid = (omega arith, omega arith)

-- a word with symbol 1 is a byte
pub small-bits : (w : ℤ) → symbol_of w ≡ 1 → bits16 w < 256
unfolding symbol_of bits16
small-bits (pos n) one =
    by_test (ltb n 256) (λ e. ltb-true n 256 e)
    (λ e. by_test (ltb n half)
    (λ f. absurd (let z : ◌≡◌ {A = ℕ} 2 1 = rw (e, f) at one in omega arith))
    (λ f. absurd (let z : ◌≡◌ {A = ℕ} 0 1 = rw (e, f) at one in omega arith)))
small-bits (negsuc n) one = absurd (omega arith)
