-- What a call comes to that fills lent memory with so many numbers or bytes.
use Rattle.std.specs.Prelude.{ℕ, min, [], ◌∷◌, cond, ltb}
use Rattle.refusal.specs.Outcome.{Outcome, gave, refuse}

-- a figure too large for 64 bits is given as the largest
abbrev pub capped : ℕ → ℕ
capped n = min n 18446744073709551615

-- so many numbers or bytes into so much room
abbrev pub into_room : ℕ → ℕ → Outcome ℕ
into_room needed present = cond (ltb present needed) (refuse 15 (capped needed ∷ present ∷ [])) (gave needed)
