-- What the inner fills ask and promise.
use Rattle.std.specs.Prelude.{ℕ, ◌≤◌, ◌<◌, ◌≡◌, List, ℤ, length, drop}
use Rattle.std.proofs.lemmas.List.Edits.{sets}
use Rattle.twcc.specs.Words.{width_of, entries}
use Rattle.twcc.specs.Block.{symbols}

-- of the bytes of a delta, and of the bits of a vector's symbols
abbrev pub OneOrTwo : ℕ → Type 0
OneOrTwo n = (0 < n) × (n ≤ 2)

-- the list holds the words of the symbols ss, with the delta bytes at hand, and so many of these are eaten
pub record Filled (bytes ss : List ℕ) (eaten : ℕ) (list : List ℤ) : Type 0 where
  pub words : list ≡ entries ss bytes
  pub rest : drop eaten bytes ≡ drop (width_of ss) bytes
  pub inside : eaten ≤ length bytes

-- the same of all chunks of a block, where the deltas start at a place: there is room for their words
pub record AllFillable (s : List ℕ) (statuses start : ℕ) (list : List ℤ) : Type 0 where
  pub room : length (symbols (drop 8 s) statuses) ≤ length list
  pub inside : start ≤ length s

abbrev pub AllFilled : List ℕ → ℕ → ℕ → List ℤ → List ℤ → Type 0
AllFilled s statuses start old new = new ≡ sets old 0 (entries (symbols (drop 8 s) statuses) (drop start s))
