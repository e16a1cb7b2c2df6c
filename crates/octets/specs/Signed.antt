-- Signed numbers as plain bits.
use Rattle.std.specs.Prelude.{ℕ, ◌-◌, ℤ, pos, negsuc}

-- an integer in 64 bits, two's complement
abbrev pub bits64 : ℤ → ℕ
bits64 (pos n) = n
bits64 (negsuc n) = 18446744073709551615 - n
