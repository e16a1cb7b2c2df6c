-- When a packet is written, test by test in the order of docs/RULES.md, and what the lent buffer then holds.
use Rattle.std.specs.Prelude.{ℕ, ◌%◌, List, [], ◌∷◌, Result, cond, not, ◌||◌, eqb, ltb, length}
use Rattle.refusal.specs.Outcome.{Outcome, gave, refuse}
use Rattle.refusal.specs.declared.Refusal.{Refusal}
use Rattle.lent.specs.Fills.{Fills}
use Rattle.utils.specs.Header.{longest}
use Rattle.unknown.specs.Packet.{size_of, packet_bytes}

-- the size of the packet, where it is written
unfoldable pub written : ℕ → ℕ → ℕ → ℕ → Outcome ℕ
written count body padding room =
    cond (ltb 31 count) (refuse 8 (count ∷ []))
    (cond (not (eqb (padding % 4) 0)) (refuse 9 (padding ∷ []))
    (cond (not (eqb (body % 4) 0) || ltb longest (size_of body padding)) (refuse 11 (body ∷ []))
    (cond (ltb room (size_of body padding)) (refuse 15 (size_of body padding ∷ room ∷ []))
    (gave (size_of body padding)))))

-- the promise of `write`: the answer, and the whole buffer
abbrev pub Wrote : ℕ → ℕ → List ℕ → ℕ → List ℕ → Result ℕ Refusal → List ℕ → Type 0
Wrote count type body padding old = Fills (written count (length body) padding (length old)) 0 (packet_bytes count type body padding) old
