-- No slack: two answers that satisfy one promise are equal.
use Prim.Native.Nat.{ℕ, ◌+◌, ◌*◌, ◌<◌, min}
use mathlib.Core.List.{List}
use mathlib.Core.Path.{◌≡◌, sym, ◌∙◌}
use lib.IntN.{ℤ}
use lib.ListN.{get_or}
use Rattle.octets.specs.Big.{be}
use Rattle.octets.specs.Signed.{bits64}

pub wide_unique : (byte a b : ℕ) → (a ≡ byte) × (a < 256) → (b ≡ byte) × (b < 256) → a ≡ b
wide_unique byte a b p q = p.0 ∙ sym q.0

pub byte_at_unique : (bytes : List ℕ) (at a b : ℕ) → (a ≡ get_or bytes at 0) × (a < 256) → (b ≡ get_or bytes at 0) × (b < 256) → a ≡ b
byte_at_unique bytes at a b p q = p.0 ∙ sym q.0

pub joined_unique : (high low a b : ℕ) → (a ≡ 256 * high + low) × (a < 65536) → (b ≡ 256 * high + low) × (b < 65536) → a ≡ b
joined_unique high low a b p q = p.0 ∙ sym q.0

pub be16_at_unique : (bytes : List ℕ) (at a b : ℕ) → (a ≡ be 2 bytes at) × (a < 65536) → (b ≡ be 2 bytes at) × (b < 65536) → a ≡ b
be16_at_unique bytes at a b p q = p.0 ∙ sym q.0

pub lesser_unique : (x y a b : ℕ) → a ≡ min x y → b ≡ min x y → a ≡ b
lesser_unique x y a b p q = p ∙ sym q

pub bits64_unique : (number : ℤ) (a b : ℕ) → a ≡ bits64 number → b ≡ bits64 number → a ≡ b
bits64_unique number a b p q = p ∙ sym q
