-- The symbol and the status of a word, by the tests of `symbol`, `small` and `Status::of`.
use Prim.Native.Nat.{ℕ, ◌%◌}
use mathlib.Core.Path.{◌≡◌, refl, sym, ap, ◌∙◌}
use mathlib.Core.Bool.{Bool, cond}
use native.Mathlib.Omega.{arith}
use lib.Dec.{ltb, eqb}
use lib.IntN.{ℤ, pos, negsuc}
use lib.Signed.{lt_z, le_z}
use mir.Syntax.{w16, w32}
use mir.Val.{SFits, to_z, of_z}
use mir.Facts.{to_z-of_z}
use Rattle.twcc.specs.Words.{half, not_received, symbol_of}
use Rattle.twcc.specs.Status.{status_of}
use Rattle.twcc.specs.declared.Status.{Status}
use Rattle.twcc.specs.declared.Status.TheVariants.{Received, NotReceived, Truncated, Reserved, NoStatus}
use Rattle.std.proofs.lemmas.Bool.Decides.{nat_tests}
use Rattle.octets.proofs.Logic.{by_test}

abbrev pub tested : ℤ → ℕ
tested w = cond (le_z not_received w) 0 (cond (lt_z w (pos 0)) 2 (cond (lt_z (pos 255) w) 2 1))

pub symbol_tested : (w : ℤ) → tested w ≡ symbol_of w
unfolding symbol_of
symbol_tested (pos n) = grind (arith, nat_tests)
symbol_tested (negsuc n) = refl

-- whether it is 1, by two tests
abbrev pub tested_small : ℤ → ℕ
tested_small w = cond (lt_z w (pos 0)) 0 (cond (lt_z (pos 255) w) 0 1)

pub small_tested : (w : ℤ) → tested_small w ≡ symbol_of w % 2
unfolding symbol_of
small_tested (pos n) = grind (arith, nat_tests)
small_tested (negsuc n) = refl

-- the same of a word as the machine reads it back
pub symbol_read : (w : ℤ) → SFits w32 w → symbol_of w ≡ tested (to_z w32 (of_z w32 w))
symbol_read w fits = rw (to_z-of_z {w = w32} fits) (sym (symbol_tested w))

pub small_read : (w : ℤ) → SFits w32 w → symbol_of w % 2 ≡ tested_small (to_z w32 (of_z w32 w))
small_read w fits = rw (to_z-of_z {w = w32} fits) (sym (small_tested w))

-- ---- the status of a word, by the tests of `Status::of`; `bits` are the word's

abbrev pub tested_status : ℤ → ℕ → Status
tested_status w bits =
    cond (lt_z w (negsuc 32767)) NoStatus
    (cond (lt_z w not_received) (Received (to_z w16 (of_z w16 w)))
    (cond (eqb bits half) NotReceived
    (cond (eqb bits 32769) Truncated
    (cond (eqb bits 32770) Reserved NoStatus))))

status_tested : (w : ℤ) → status_of w ≡ tested_status w (of_z w32 w)
unfolding status_of
status_tested (pos n) =
    by_test (ltb n half) (λ e. rw e) (λ e. rw e)
status_tested (negsuc n) = grind (arith, nat_tests)

pub status_read : (w : ℤ) → SFits w32 w → status_of w ≡ tested_status (to_z w32 (of_z w32 w)) (of_z w32 w)
status_read w fits = rw (to_z-of_z {w = w32} fits) (status_tested w)

-- a test of the bits is a test of the number
pub read : {w : ℤ} (f : ℤ → Bool) {t : Bool} → SFits w32 w → f (to_z w32 (of_z w32 w)) ≡ t → f w ≡ t
read {w} f fits e = ap f (sym (to_z-of_z {w = w32} {z = w} fits)) ∙ e

pub ruleset statuses = (status_read, nat_tests)
