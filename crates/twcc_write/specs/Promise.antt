-- When a block is written, test by test in the order of docs/RULES.md, and what the lent buffer then holds.
use Rattle.std.specs.Prelude.{ℕ, List, [], ◌∷◌, cond, ltb, ℤ, length, Option, Result}
use Rattle.refusal.specs.Outcome.{Outcome, gave, refuse}
use Rattle.refusal.specs.declared.Refusal.{Refusal}
use Rattle.lent.specs.Fills.{Fills}
use Rattle.twcc.specs.Time.{too_late}
use Rattle.twcc_plan.specs.Block.{most_entries, first_bad, taken_of, size_of, block_bytes}
use Rattle.twcc_write.specs.Limits.{least_of}
use Rattle.twcc_write.specs.declared.Used.{Used}

-- the block's bytes and the entries that it takes, where it is written
unfoldable pub written : ℕ → List ℤ → Option ℕ → ℕ → Outcome Used
written time list limit room =
    cond (too_late time) (refuse 10 (time ∷ []))
    (cond (ltb most_entries (length list)) (refuse 13 (length list ∷ []))
    (cond (ltb (first_bad list) (length list)) (refuse 12 (first_bad list ∷ []))
    (cond (ltb (least_of limit) 8) (refuse 14 (least_of limit ∷ []))
    (cond (ltb room (size_of limit list)) (refuse 15 (size_of limit list ∷ room ∷ []))
    (gave (record { bytes = size_of limit list; taken = taken_of limit list }))))))

-- the promise of `write`: the answer, and the whole buffer
abbrev pub Wrote : ℕ → ℕ → ℕ → List ℤ → Option ℕ → List ℕ → Result Used Refusal → List ℕ → Type 0
Wrote base time feedback list limit old = Fills (written time list limit (length old)) 0 (block_bytes base time feedback limit list) old
