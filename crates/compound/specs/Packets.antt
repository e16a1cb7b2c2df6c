-- The packets of a compound, and those that the walk hands back.
use Rattle.std.specs.Prelude.{ℕ, zero, suc, List, [], ◌∷◌, ◌++◌, ◌≡◌, Some, None, cond, ltb, length, take, drop}
use Rattle.refusal.specs.Outcome.{gave, refused}
use Rattle.compound.specs.Pass.{end_of}
use Rattle.compound.specs.Record.{packet_at}
use Rattle.compound.specs.Walk.{Step, step, walk_step}
use Rattle.compound.specs.declared.Packet.{Packet}

-- a packet's own bytes
abbrev pub bytes_in : List ℕ → Packet → List ℕ
bytes_in bytes p = take p.length (drop p.start bytes)

-- the packets from an offset on, each as long as it says; so many at most
unfoldable pub packets_from : ℕ → List ℕ → ℕ → List (List ℕ)
packets_from zero bytes at = []
packets_from (suc most) bytes at = cond (ltb at (length bytes)) (bytes_in bytes (packet_at bytes at) ∷ packets_from most bytes (end_of bytes at)) []

-- the packets that the walk hands back from an offset on; so many at most
abbrev pub onward : List ℕ → (ℕ → List (List ℕ)) → Step → List (List ℕ)
onward bytes rest (step (gave (Some p)) next) = bytes_in bytes p ∷ rest next
onward bytes rest (step (gave None) next) = []
onward bytes rest (step (refused number values) next) = []

unfoldable pub walked_from : ℕ → List ℕ → ℕ → List (List ℕ)
walked_from zero bytes at = []
walked_from (suc most) bytes at = onward bytes (walked_from most bytes) (walk_step bytes at)

-- all of them: no more packets than bytes
abbrev pub packets_in : List ℕ → List (List ℕ)
packets_in bytes = packets_from (length bytes) bytes 0

abbrev pub walked_in : List ℕ → List (List ℕ)
walked_in bytes = walked_from (length bytes) bytes 0

-- the offsets that the walk comes to: the start, and where each step goes on that hands back a packet
pub data Reached (bytes : List ℕ) : ℕ → Type 0 where
  start : Reached bytes 0
  on : {at next : ℕ} {p : Packet} → Reached bytes at → walk_step bytes at ≡ step (gave (Some p)) next → Reached bytes next

-- packets laid end to end
unfoldable pub end_to_end : List (List ℕ) → List ℕ
end_to_end [] = []
end_to_end (p ∷ ps) = p ++ end_to_end ps
