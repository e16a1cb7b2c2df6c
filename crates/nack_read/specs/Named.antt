-- What entries of four bytes each name.
use Rattle.std.specs.Prelude.{ℕ, List}
use Rattle.std.specs.List.{flat_map}
use Rattle.octets.specs.Big.{be}
use Rattle.nack.specs.Entries.{named}

abbrev pub entry_named : List ℕ → List ℕ
entry_named e = named (be 2 e 0) (be 2 e 2)

-- in their order, repeats and all
abbrev pub named_by : List (List ℕ) → List ℕ
named_by es = flat_map entry_named es
