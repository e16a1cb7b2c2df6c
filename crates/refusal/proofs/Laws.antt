-- A refusal's values are two at most.
use Prim.Native.Nat.{ℕ, suc}
use mathlib.Core.Path.{◌≡◌, refl}
use Rattle.refusal.specs.Number.{values_of}
use Rattle.refusal.specs.Told.{value_bits}
use Rattle.refusal.specs.declared.Refusal.{Refusal}
use Rattle.refusal.specs.declared.Refusal.TheVariants.{Truncated, UnsupportedVersion, PacketTypeMismatch, TooLarge, InvalidPadding, CountOutOfRange, UnevenPadding, ReferenceTimeTooLarge, BodyLength, StatusOutOfRange, ListTooLong, LimitTooSmall, OutputTooSmall, StoreLength, LeastLength}

pub two_at_most : (r : Refusal) (place : ℕ) → value_bits (values_of r) (suc (suc place)) ≡ 0
two_at_most (Truncated a b) place = refl
two_at_most (UnsupportedVersion a) place = refl
two_at_most (PacketTypeMismatch a b) place = refl
two_at_most (TooLarge a b) place = refl
two_at_most InvalidPadding place = refl
two_at_most (CountOutOfRange a) place = refl
two_at_most (UnevenPadding a) place = refl
two_at_most (ReferenceTimeTooLarge a) place = refl
two_at_most (BodyLength a) place = refl
two_at_most (StatusOutOfRange a) place = refl
two_at_most (ListTooLong a) place = refl
two_at_most (LimitTooSmall a) place = refl
two_at_most (OutputTooSmall a b) place = refl
two_at_most (StoreLength a) place = refl
two_at_most (LeastLength a) place = refl
