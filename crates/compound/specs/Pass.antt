-- The first pass over a compound: RFC 3550 section A.2, as far as docs/RULES.md takes it. Expected lengths count from the
-- start of the bytes.
use Rattle.std.specs.Prelude.{ℕ, zero, suc, ◌+◌, List, [], ◌∷◌, cond, not, length, drop, eqb, ltb}
use Rattle.refusal.specs.Outcome.{Outcome, gave, refuse, and_then}
use Rattle.utils.specs.Header.{version_of, padding_bit_of, length_of}
use Rattle.utils.specs.Check.{padding_fits}

-- where the packet that starts at an offset ends
abbrev pub end_of : List ℕ → ℕ → ℕ
end_of bytes at = at + length_of (drop at bytes)

-- the tests at one offset, and the next offset
unfoldable pub first_turn : List ℕ → ℕ → Outcome ℕ
first_turn bytes at =
    cond (ltb (length bytes) (at + 4)) (refuse 1 ((at + 4) ∷ length bytes ∷ []))
    (cond (not (eqb (version_of (drop at bytes)) 2)) (refuse 2 (version_of (drop at bytes) ∷ []))
    (cond (ltb (length bytes) (end_of bytes at)) (refuse 1 (end_of bytes at ∷ length bytes ∷ []))
    (cond (eqb (padding_bit_of (drop at bytes)) 0) (gave (end_of bytes at))
    (cond (ltb (end_of bytes at) (length bytes)) (refuse 5 [])
    (cond (not (padding_fits (drop at bytes))) (refuse 5 [])
    (gave (end_of bytes at)))))))

-- turn after turn of a rule, from an offset to the end; so many at most
unfoldable pub turns_from : (List ℕ → ℕ → Outcome ℕ) → ℕ → List ℕ → ℕ → Outcome Unit
turns_from turn zero bytes at = gave tt
turns_from turn (suc turns) bytes at = cond (ltb at (length bytes)) (and_then (turn bytes at) (turns_from turn turns bytes)) (gave tt)

-- all turns: no more of them than bytes, since each turn that goes on moves by four at least
unfoldable pub pass_by : (List ℕ → ℕ → Outcome ℕ) → List ℕ → Outcome Unit
pass_by turn bytes = cond (eqb (length bytes) 0) (refuse 1 (4 ∷ 0 ∷ [])) (turns_from turn (length bytes) bytes 0)

unfoldable pub first_pass : List ℕ → Outcome Unit
first_pass bytes = pass_by first_turn bytes
