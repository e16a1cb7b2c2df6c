-- Refusal 15: lack of room.
use Rattle.std.specs.Prelude.{ℕ, [], ◌∷◌, map, cond, eqb, ltb, ℤ, pos, ◌+ℤ◌}
use Rattle.refusal.specs.Outcome.{Outcome, gave, refused, refuse}

-- an answer that needs so much room and finds so much
abbrev pub in_room : {A : Type 0} → ℕ → ℕ → A → Outcome A
in_room needed present answer = cond (ltb present needed) (refuse 15 (needed ∷ present ∷ [])) (gave answer)

-- the same outcome where so many bytes more are needed and present
unfoldable pub room_for : {A : Type 0} → ℕ → Outcome A → Outcome A
room_for more (gave answer) = gave answer
room_for more (refused number values) = refused number (cond (eqb number 15) (map (λ (v : ℤ). pos more +ℤ v) values) values)
