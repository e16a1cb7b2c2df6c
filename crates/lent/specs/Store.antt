-- What the stores promise.
use Rattle.std.specs.Prelude.{ℕ, ◌≡◌, List}
use Rattle.std.proofs.lemmas.List.Edits.{sets}

-- the memory holds some bytes from a place on, and else what it held; bytes past its end fall away
abbrev pub Stored : List ℕ → ℕ → List ℕ → List ℕ → Type 0
Stored old at bytes new = new ≡ sets old at bytes
