-- One packet of any type, test by test in the order of docs/RULES.md. Neither type nor padding is looked at.
use Rattle.std.specs.Prelude.{ℕ, List, [], ◌∷◌, cond, not, length, eqb, ltb}
use Rattle.refusal.specs.Outcome.{Outcome, refuse}
use Rattle.utils.specs.Header.{shortest, version_of}
use Rattle.utils.specs.Check.{own_length}

unfoldable pub unknown : List ℕ → Outcome Unit
unknown packet =
    cond (ltb (length packet) shortest) (refuse 1 (shortest ∷ length packet ∷ []))
    (cond (not (eqb (version_of packet) 2)) (refuse 2 (version_of packet ∷ []))
    (own_length packet))
