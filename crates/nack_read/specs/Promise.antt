-- What reading promises: the numbers that the bytes name, from the list's front, where it has room for them.
use Rattle.std.specs.Prelude.{ℕ, List, Result, length}
use Rattle.refusal.specs.declared.Refusal.{Refusal}
use Rattle.lent.specs.Fills.{Fills}
use Rattle.nack.specs.Entries.{read_nack}
use Rattle.nack.specs.Promise.{into_room}

abbrev pub Read : List ℕ → List ℕ → Result ℕ Refusal → List ℕ → Type 0
Read bytes list = Fills (into_room (length (read_nack bytes)) (length list)) 0 (read_nack bytes) list
