-- The symbol at a place of a list.
use Prim.Native.Nat.{ℕ, zero, suc, ◌≤◌, ◌<◌}
use mathlib.Core.Path.{◌≡◌, refl}
use mathlib.Core.List.{List, [], ◌∷◌, map}
use native.Mathlib.Nat.{not-suc-le-zero, le_of_suc-le-suc}
use lib.IntN.{ℤ}
use lib.ListN.{length, get_or}
use Rattle.twcc.specs.Words.{symbol_of}

pub symbol-there : (list : List ℤ) (at : ℕ) (d : ℤ) → at < length list → symbol_of (get_or list at d) ≡ get_or (map symbol_of list) at 0
symbol-there [] at d inside = absurd (not-suc-le-zero inside)
symbol-there (w ∷ list) zero d inside = refl
symbol-there (w ∷ list) (suc at) d inside = symbol-there list at d (le_of_suc-le-suc inside)

pub symbol-past : (list : List ℤ) (at : ℕ) → length list ≤ at → 0 ≡ get_or (map symbol_of list) at 0
symbol-past [] at past = refl
symbol-past (w ∷ list) zero past = absurd (not-suc-le-zero past)
symbol-past (w ∷ list) (suc at) past = symbol-past list at (le_of_suc-le-suc past)
