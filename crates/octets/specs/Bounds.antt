-- Numbers below a bound: bytes below 256, digits below their base.
use Rattle.std.specs.Prelude.{ℕ, ◌<◌, List, [], ◌∷◌}

-- every number of the list is below the bound
abbrev pub Below : ℕ → List ℕ → Type 0
Below bound [] = Unit {0}
Below bound (n ∷ ns) = (n < bound) × Below bound ns
