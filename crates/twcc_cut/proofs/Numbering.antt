-- Laws of numbered entries: those of appended lists, and of a base that moved on.
use Prim.Native.Nat.{ℕ, zero, suc, ◌+◌, ◌%◌, ◌<◌}
use mathlib.Core.Path.{◌≡◌, refl}
use mathlib.Core.List.{List, [], ◌∷◌, ◌++◌}
use native.Mathlib.Nat.{mod-add-mod, add_assoc, add-zero, add-suc, not-suc-le-zero, le_of_suc-le-suc}
use native.Mathlib.Omega.{arith}
use lib.IntN.{ℤ}
use lib.ListN.{length, get_or}
use Rattle.twcc_cut.specs.Numbered.{Numbered, numbered}

pub numbered-append : (base first : ℕ) (xs ys : List ℤ) → numbered base first (xs ++ ys) ≡ numbered base first xs ++ numbered base (first + length xs) ys
unfolding numbered
numbered-append base first [] ys = rw add-zero refl
numbered-append base first (x ∷ xs) ys =
    let place : first + suc (length xs) ≡ suc first + length xs = omega arith in
    rw (place, numbered-append base (suc first) xs ys)

-- a base that moved on by n numbers the entries behind n others
pub numbered-moved : (base n first : ℕ) (xs : List ℤ) → numbered ((base + n) % 65536) first xs ≡ numbered base (n + first) xs
unfolding numbered
numbered-moved base n first [] = refl
numbered-moved base n first (x ∷ xs) = rw (mod-add-mod, add_assoc, numbered-moved base n (suc first) xs, add-suc)

pub numbered-at : (base first place : ℕ) (xs : List ℤ) (d : Numbered) (e : ℤ) → place < length xs
    → get_or (numbered base first xs) place d ≡ record { number = (base + (first + place)) % 65536; word = get_or xs place e }
unfolding numbered
numbered-at base first place [] d e inside = absurd (not-suc-le-zero inside)
numbered-at base first zero (x ∷ xs) d e inside = rw add-zero refl
numbered-at base first (suc place) (x ∷ xs) d e inside =
    let further : suc first + place ≡ first + suc place = omega arith in
    rw (← further) (numbered-at base (suc first) place xs d e (le_of_suc-le-suc inside))
