-- The first pass of rtcp-types 0.3.0 (`Compound::parse`), for one theorem alone: whatever it refuses, ours refuses. That the crate goes
-- by this rule, numbers included, is shown by running it (oracle/compare, `the crate's rule`).
use Rattle.std.specs.Prelude.{ℕ, ◌+◌, List, [], ◌∷◌, cond, not, length, drop, eqb, ltb}
use Rattle.refusal.specs.Outcome.{Outcome, gave, refuse}
use Rattle.utils.specs.Header.{version_of, padding_bit_of}
use Rattle.compound.specs.Pass.{end_of, pass_by}

-- at each turn it looks at the first packet's version, and it looks at no padding count
unfoldable pub rust_turn : List ℕ → ℕ → Outcome ℕ
rust_turn bytes at =
    cond (ltb (length bytes) (at + 4)) (refuse 1 ((at + 4) ∷ length bytes ∷ []))
    (cond (not (eqb (version_of bytes) 2)) (refuse 2 (version_of bytes ∷ []))
    (cond (ltb (length bytes) (end_of bytes at)) (refuse 1 (end_of bytes at ∷ length bytes ∷ []))
    (cond (eqb (padding_bit_of (drop at bytes)) 0) (gave (end_of bytes at))
    (cond (ltb (end_of bytes at) (length bytes)) (refuse 5 [])
    (gave (end_of bytes at))))))

unfoldable pub rust_pass : List ℕ → Outcome Unit
rust_pass bytes = pass_by rust_turn bytes
