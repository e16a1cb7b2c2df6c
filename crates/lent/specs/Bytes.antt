-- The bytes that the stores put.
use Rattle.std.specs.Prelude.{ℕ, ◌-◌, List, min, replicate}

unfoldable pub zero_bytes : ℕ → List ℕ
zero_bytes count = replicate count 0

-- how many of some bytes fit from a place on
abbrev pub fitting : ℕ → ℕ → ℕ → ℕ
fitting room at bytes = min bytes (room - at)
