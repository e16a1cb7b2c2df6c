-- A refusal as plain 64-bit numbers.
use Rattle.std.specs.Prelude.{ℕ, ◌≡◌, List, ℤ, pos, get_or}
use Rattle.octets.specs.Signed.{bits64}
use Rattle.refusal.specs.Number.{number_of, values_of}
use Rattle.refusal.specs.declared.Refusal.{Refusal}
use Rattle.refusal.specs.declared.Told.{Told}

-- the value at a place, 0 where there is none
abbrev pub value_bits : List ℤ → ℕ → ℕ
value_bits values place = bits64 (get_or values place (pos 0))

-- what `Told::from` promises
pub record Tells (r : Refusal) (t : Told) : Type 0 where
  pub number : t.number ≡ number_of r
  pub first : t.first ≡ value_bits (values_of r) 0
  pub second : t.second ≡ value_bits (values_of r) 1
