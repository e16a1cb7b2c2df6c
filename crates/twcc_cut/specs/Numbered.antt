-- Entries with the numbers of their packets.
use Rattle.std.specs.Prelude.{ℕ, suc, List, [], ◌∷◌, ℤ}
use Rattle.kinds.specs.Seq.{later}

pub record Numbered : Type 0 where
  pub number : ℕ
  pub word : ℤ

-- the entry at place k is numbered base plus k modulo 65,536; `first` is the place of the first one here
unfoldable pub numbered : ℕ → ℕ → List ℤ → List Numbered
numbered base first [] = []
numbered base first (w ∷ ws) = record { number = later base first; word = w } ∷ numbered base (suc first) ws
