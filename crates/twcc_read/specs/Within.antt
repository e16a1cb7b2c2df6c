-- What keeping within its list means for the reader: it writes the first `count listed` places and no other.
use Rattle.std.specs.Prelude.{ℕ, ◌≤◌, ◌≡◌, List, ℤ, length, take, drop, Result, Ok, Err}
use Rattle.refusal.specs.declared.Refusal.{Refusal}
use Rattle.twcc.specs.Block.{listed}
use Rattle.twcc_read.specs.declared.Listed.{Listed}

-- of an outcome: the list keeps its length; where an answer was given its first places are the words and the others as
-- before, otherwise all of them are as before
pub record FrontSet (words old new : List ℤ) : Type 0 where
  pub room : length words ≤ length old
  pub same : length new ≡ length old
  pub front : take (length words) new ≡ words
  pub rest : drop (length words) new ≡ drop (length words) old

abbrev pub KeepsWithin : List ℕ → List ℤ → Result Listed Refusal → List ℤ → Type 0
KeepsWithin block old (Ok l) new = (l.count ≡ length (listed block)) × FrontSet (listed block) old new
KeepsWithin block old (Err r) new = new ≡ old
