-- The reference time of a TWCC block: which times there are, and their 24 bits
-- (draft-holmer-rmcat-transport-wide-cc-extensions-01, 3.1). The draft calls the number signed; docs/RULES.md takes it as
-- unsigned, as the Rust does. Nothing else knows how the bits are read.
use Rattle.std.specs.Prelude.{ℕ, Bool, ltb}

-- the last time that 24 bits hold, in counts of 64 ms
abbrev pub latest : ℕ
latest = 16777215

-- whether the time has no 24 bits
abbrev pub too_late : ℕ → Bool
too_late time = ltb latest time

-- the time of 24 bits
abbrev pub time_of : ℕ → ℕ
time_of bits = bits

-- the 24 bits of a time
abbrev pub time_bits : ℕ → ℕ
time_bits time = time
