-- An arrival in milliseconds, ticks / 4, as a 64-bit float that is fixed by its bits (IEEE 754, binary64): the sign, eleven bits of
-- the exponent plus 1,023, and the 52 binary digits behind the leading one.
use Rattle.std.specs.Prelude.{ℕ, zero, suc, ◌+◌, ◌-◌, ◌*◌, ◌^◌, cond, ℤ, pos, negsuc, Float}
use Rattle.std.specs.Int.Count.{count_leading_zeros}
use Rattle.std.specs.Float.Ieee.{of_bits}
use Rattle.std.specs.Float.{binary64}
use Rattle.arrival.specs.Cursor.{exact}
use Rattle.kinds.specs.declared.Tick.{Tick}
use Rattle.arrival.specs.declared.Arrival.{Arrival}
use Rattle.arrival.specs.declared.Arrival.TheVariants.{Missing, Unreadable, Unplaced, At}

-- the weight of the exponent's lowest bit, 2 ^ 52, and that of the sign, 2 ^ 63
abbrev pub exponent_weight : ℕ
exponent_weight = 4503599627370496

abbrev pub sign_weight : ℕ
sign_weight = 9223372036854775808

-- the bits of infinity: those of any other number lie below, those of a NaN above
abbrev pub infinity : ℕ
infinity = 9218868437227405312

-- the place of a number's leading binary digit: 2 to this power is at most the number, and twice that is more
abbrev pub leading : ℕ → ℕ
leading m = 63 - count_leading_zeros 64 m

-- the bits of m / 4, for an m of at most 53 binary digits: its exponent is that of m less 2; zero is +0
unfoldable pub quarters : ℕ → ℕ
quarters zero = 0
quarters (suc n) =
    (1023 + leading (suc n) - 2) * exponent_weight + (suc n * 2 ^ (52 - leading (suc n)) - exponent_weight)

abbrev pub millisecond_bits : ℤ → ℕ
millisecond_bits (pos m) = quarters m
millisecond_bits (negsuc k) = sign_weight + quarters (suc k)

abbrev pub milliseconds : ℤ → Float
milliseconds tick = of_bits binary64 (millisecond_bits tick)

-- an arrival for a display: milliseconds for ticks
abbrev pub Overlay : Type 0
Overlay = Arrival Float

abbrev pub shown_at : ℤ → Overlay
shown_at tick = cond (exact tick) (At (milliseconds tick)) Unplaced

unfoldable pub shown_of : Arrival Tick → Overlay
shown_of Missing = Missing
shown_of Unreadable = Unreadable
shown_of Unplaced = Unplaced
shown_of (At tick) = shown_at tick.0

-- the bits of the milliseconds shown, 0 where none are
unfoldable pub shown_bits : Arrival Tick → ℕ
shown_bits Missing = 0
shown_bits Unreadable = 0
shown_bits Unplaced = 0
shown_bits (At tick) = cond (exact tick.0) (millisecond_bits tick.0) 0
