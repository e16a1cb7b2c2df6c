-- The number and the values of each case of the enum `Refusal`, in the order of the table in docs/RULES.md.
use Rattle.std.specs.Prelude.{ℕ, List, [], ◌∷◌, ℤ, pos}
use Rattle.refusal.specs.Outcome.{Outcome, refused}
use Rattle.refusal.specs.declared.Refusal.{Refusal}
use Rattle.refusal.specs.declared.Refusal.TheVariants.{Truncated, UnsupportedVersion, PacketTypeMismatch, TooLarge, InvalidPadding, CountOutOfRange, UnevenPadding, ReferenceTimeTooLarge, BodyLength, StatusOutOfRange, ListTooLong, LimitTooSmall, OutputTooSmall, StoreLength, LeastLength}

abbrev pub number_of : Refusal → ℕ
number_of (Truncated expected actual) = 1
number_of (UnsupportedVersion version) = 2
number_of (PacketTypeMismatch actual requested) = 3
number_of (TooLarge expected actual) = 4
number_of InvalidPadding = 5
number_of (CountOutOfRange count) = 8
number_of (UnevenPadding padding) = 9
number_of (ReferenceTimeTooLarge time) = 10
number_of (BodyLength size) = 11
number_of (StatusOutOfRange place) = 12
number_of (ListTooLong size) = 13
number_of (LimitTooSmall limit) = 14
number_of (OutputTooSmall needed present) = 15
number_of (StoreLength size) = 16
number_of (LeastLength least) = 17

abbrev pub values_of : Refusal → List ℤ
values_of (Truncated expected actual) = pos expected ∷ pos actual ∷ []
values_of (UnsupportedVersion version) = pos version ∷ []
values_of (PacketTypeMismatch actual requested) = pos actual ∷ pos requested ∷ []
values_of (TooLarge expected actual) = pos expected ∷ pos actual ∷ []
values_of InvalidPadding = []
values_of (CountOutOfRange count) = pos count ∷ []
values_of (UnevenPadding padding) = pos padding ∷ []
values_of (ReferenceTimeTooLarge time) = pos time ∷ []
values_of (BodyLength size) = pos size ∷ []
values_of (StatusOutOfRange place) = pos place ∷ []
values_of (ListTooLong size) = pos size ∷ []
values_of (LimitTooSmall limit) = pos limit ∷ []
values_of (OutputTooSmall needed present) = pos needed ∷ pos present ∷ []
values_of (StoreLength size) = pos size ∷ []
values_of (LeastLength least) = pos least ∷ []

-- a refusal as a promise speaks of it
abbrev pub no : {A : Type 0} → Refusal → Outcome A
no r = refused (number_of r) (values_of r)
