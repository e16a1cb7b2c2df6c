-- What a call promises that hands back a part of the bytes it was lent.
use Rattle.std.specs.Prelude.{ℕ, ◌+◌, ◌≡◌, List, take, drop}
use Rattle.std.specs.Borrow.{Bor}

-- so many of the lent bytes from a place on, and there: equal bytes elsewhere are another part
pub record PartOf (lent : Bor (List ℕ)) (start size : ℕ) (part : Bor (List ℕ)) : Type 0 where
  pub reads : part.now ≡ take size (drop start lent.now)
  pub memory : part.ref_ptr.0 ≡ lent.ref_ptr.0
  pub place : part.ref_ptr.1 ≡ lent.ref_ptr.1 + start
