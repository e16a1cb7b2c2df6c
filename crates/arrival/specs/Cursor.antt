-- The cursor's steps, as the promises state them, and what walking it over words gives.
use Rattle.std.specs.Prelude.{ℕ, List, [], ◌∷◌, Bool, cond, ltb, ℤ, nat_abs, ◌+ℤ◌, Option, None, Some}
use Rattle.refusal.specs.Outcome.{Outcome, gave, refuse}
use Rattle.twcc.specs.Time.{too_late}
use Rattle.twcc.specs.Status.{status_of}
use Rattle.twcc.specs.declared.Status.{Status}
use Rattle.twcc.specs.declared.Status.TheVariants.{Received, NotReceived, Truncated, Reserved, NoStatus}
use Rattle.arrival.specs.Arrivals.{ticks_of, at}
use Rattle.kinds.specs.declared.Tick.{Tick}
use Rattle.arrival.specs.declared.Arrival.{Arrival}
use Rattle.arrival.specs.declared.Arrival.TheVariants.{Missing, Unreadable, Unplaced}
use Rattle.arrival.specs.declared.Arrivals.{Arrivals}
use Rattle.arrival.specs.declared.Entry.{Entry}

abbrev pub from : ℤ → Arrivals
from tick = record { from = Some (record { 0 = tick }) }

-- behind an entry that can't be read
abbrev pub lost : Arrivals
lost = record { from = None }

unfoldable pub begun : ℕ → Outcome Arrivals
begun time = cond (too_late time) (refuse 10 (time ∷ [])) (gave (from (ticks_of time)))

-- 2 ^ 53: 53 binary digits, as many as a 64-bit float has, hold what lies below it
abbrev pub exact_end : ℕ
exact_end = 9007199254740992

-- whether a tick's quarter is a float exactly
abbrev pub exact : ℤ → Bool
exact tick = ltb (nat_abs tick) exact_end

abbrev pub unreadable : Entry
unreadable = record { arrival = Unreadable; next = lost }

abbrev pub unplaced : Entry
unplaced = record { arrival = Unplaced; next = lost }

-- an entry that arrived at a tick, from which the next delta counts
abbrev pub entry_at : ℤ → Entry
entry_at tick = cond (exact tick) (record { arrival = at tick; next = from tick }) unplaced

abbrev pub moved_from : Option Tick → ℤ → Entry
moved_from (Some tick) delta = entry_at (tick.0 +ℤ delta)
moved_from None delta = unplaced

abbrev pub moved : Arrivals → ℤ → Entry
moved c delta = moved_from c.from delta

abbrev pub next_by : Arrivals → Status → Entry
next_by c (Received delta) = moved c delta
next_by c NotReceived = record { arrival = Missing; next = c }
next_by c Truncated = unreadable
next_by c Reserved = unreadable
next_by c NoStatus = unreadable

unfoldable pub next_arrival : Arrivals → ℤ → Entry
next_arrival c word = next_by c (status_of word)

-- the arrivals that walking from the cursor on over the words gives
unfoldable pub walked : Arrivals → List ℤ → List (Arrival Tick)
walked c [] = []
walked c (w ∷ ws) = (next_arrival c w).arrival ∷ walked (next_arrival c w).next ws
