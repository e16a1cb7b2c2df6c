-- No slack: number and values determine a refusal, and what is said determines an answer.
use Prim.Native.Nat.{ℕ}
use mathlib.Core.List.{List}
use mathlib.Core.Path.{◌≡◌, refl, ap, sym, ◌∙◌}
use mathlib.Core.Bool.{cond}
use lib.Dec.{eqb}
use lib.IntN.{ℤ, nat_abs, pos}
use lib.ListN.{get_or}
use Rattle.refusal.specs.Number.{number_of, values_of, no}
use Rattle.std.specs.Prelude.{Result, Ok, Err}
use Rattle.refusal.specs.Said.{said}
use Rattle.refusal.specs.Told.{Tells}
use Rattle.refusal.specs.Words.{words}
use Rattle.refusal.specs.declared.Refusal.{Refusal}
use Rattle.refusal.specs.declared.Told.{Told}
use Rattle.refusal.specs.declared.Refusal.TheVariants.{Truncated, UnsupportedVersion, PacketTypeMismatch, TooLarge, InvalidPadding, CountOutOfRange, UnevenPadding, ReferenceTimeTooLarge, BodyLength, StatusOutOfRange, ListTooLong, LimitTooSmall, OutputTooSmall, StoreLength, LeastLength}

-- the value at a place
abbrev value_at : List ℤ → ℕ → ℕ
value_at values place = nat_abs (get_or values place (pos 0))

-- the refusal of a number and its values
abbrev refusal_of : ℕ → List ℤ → Refusal
refusal_of number values =
    cond (eqb number 1) (Truncated (value_at values 0) (value_at values 1))
    (cond (eqb number 2) (UnsupportedVersion (value_at values 0))
    (cond (eqb number 3) (PacketTypeMismatch (value_at values 0) (value_at values 1))
    (cond (eqb number 4) (TooLarge (value_at values 0) (value_at values 1))
    (cond (eqb number 5) InvalidPadding
    (cond (eqb number 8) (CountOutOfRange (value_at values 0))
    (cond (eqb number 9) (UnevenPadding (value_at values 0))
    (cond (eqb number 10) (ReferenceTimeTooLarge (value_at values 0))
    (cond (eqb number 11) (BodyLength (value_at values 0))
    (cond (eqb number 12) (StatusOutOfRange (value_at values 0))
    (cond (eqb number 13) (ListTooLong (value_at values 0))
    (cond (eqb number 14) (LimitTooSmall (value_at values 0))
    (cond (eqb number 15) (OutputTooSmall (value_at values 0) (value_at values 1))
    (cond (eqb number 16) (StoreLength (value_at values 0))
    (LeastLength (value_at values 0)))))))))))))))

refusal_back : (r : Refusal) → refusal_of (number_of r) (values_of r) ≡ r
refusal_back (Truncated a b) = refl
refusal_back (UnsupportedVersion a) = refl
refusal_back (PacketTypeMismatch a b) = refl
refusal_back (TooLarge a b) = refl
refusal_back InvalidPadding = refl
refusal_back (CountOutOfRange a) = refl
refusal_back (UnevenPadding a) = refl
refusal_back (ReferenceTimeTooLarge a) = refl
refusal_back (BodyLength a) = refl
refusal_back (StatusOutOfRange a) = refl
refusal_back (ListTooLong a) = refl
refusal_back (LimitTooSmall a) = refl
refusal_back (OutputTooSmall a b) = refl
refusal_back (StoreLength a) = refl
refusal_back (LeastLength a) = refl

pub refusal_unique : (a b : Refusal) → number_of a ≡ number_of b → values_of a ≡ values_of b → a ≡ b
refusal_unique a b numbers values = sym (refusal_back a) ∙ (cc) ∙ refusal_back b

pub no_unique : {A : Type 0} → (a b : Refusal) → no {A = A} a ≡ no {A = A} b → a ≡ b
no_unique a b same = refusal_unique a b (cc) (cc)

pub said_unique : {A : Type 0} → (a b : Result A Refusal) → said a ≡ said b → a ≡ b
said_unique (Ok a) (Ok b) same = cc
said_unique (Ok a) (Err r) same = cc
said_unique (Err r) (Ok a) same = cc
said_unique (Err r) (Err q) same = ap Err (no_unique r q same)

-- what is told of a refusal is one struct
pub tells_unique : (r : Refusal) (a b : Told) → Tells r a → Tells r b → a ≡ b
tells_unique r a b p q i =
    record { number = (p.number ∙ sym q.number) i; first = (p.first ∙ sym q.first) i; second = (p.second ∙ sym q.second) i }

-- two texts of one refusal
pub words_unique : (r : Refusal) {a b : List ℕ} → a ≡ words r → b ≡ words r → a ≡ b
words_unique r p q = p ∙ sym q
