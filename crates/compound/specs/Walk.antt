-- The walk from packet to packet, a step at a time, from any offset.
use Rattle.std.specs.Prelude.{ℕ, ◌+◌, List, [], ◌∷◌, Option, Some, None, cond, not, length, drop, eqb, ltb, leb}
use Rattle.std.specs.Borrow.{Bor}
use Rattle.refusal.specs.Outcome.{Outcome, gave, refused, refuse}
use Rattle.lent.specs.Part.{PartOf}
use Rattle.utils.specs.Header.{version_of}
use Rattle.compound.specs.Pass.{end_of}
use Rattle.compound.specs.Record.{packet_at, misfits}
use Rattle.compound.specs.declared.Packet.{Packet}

-- what a step meets, a packet or none where the walk is over, and where the walk goes on
pub data Step : Type 0 where
  step : Outcome (Option Packet) → ℕ → Step

-- the walk ends: it goes on at the end of the bytes
abbrev pub last : List ℕ → Outcome (Option Packet) → Step
last bytes met = step met (length bytes)

unfoldable pub walk_step : List ℕ → ℕ → Step
walk_step bytes at =
    cond (leb (length bytes) at) (last bytes (gave None))
    (cond (ltb (length bytes) (at + 4)) (last bytes (refuse 1 ((at + 4) ∷ length bytes ∷ [])))
    (cond (ltb (length bytes) (end_of bytes at)) (last bytes (refuse 1 (end_of bytes at ∷ length bytes ∷ [])))
    (cond (not (eqb (version_of (drop at bytes)) 2)) (last bytes (refuse 2 (version_of (drop at bytes) ∷ [])))
    (cond (misfits (drop at bytes)) (last bytes (refuse 5 []))
    (step (gave (Some (packet_at bytes at))) (end_of bytes at))))))

abbrev pub met_of : Step → Outcome (Option Packet)
met_of (step met next) = met

abbrev pub next_of : Step → ℕ
next_of (step met next) = next

unfoldable pub walk_next : List ℕ → ℕ → ℕ
walk_next bytes at = next_of (walk_step bytes at)

-- where the packet stands that is handed back; where there is none, an empty part of the bytes
pub record Span : Type 0 where
  pub start : ℕ
  pub length : ℕ

abbrev pub span_of : Step → Span
span_of (step (gave (Some p)) next) = record { start = p.start; length = p.length }
span_of (step (gave None) next) = record { start = 0; length = 0 }
span_of (step (refused number values) next) = record { start = 0; length = 0 }

unfoldable pub walk_part : List ℕ → ℕ → Span
walk_part bytes at = span_of (walk_step bytes at)

-- what `walk_part` promises: that packet as a part of the lent bytes
abbrev pub HandsBack : Bor (List ℕ) → ℕ → Bor (List ℕ) → Type 0
HandsBack bytes at = PartOf bytes (walk_part bytes.now at).start (walk_part bytes.now at).length
