-- What the C interface's struct says of an outcome, and the values that each kind of answer has there.
use Rattle.std.specs.Prelude.{ℕ, zero, suc, List, [], ◌∷◌, ◌≡◌, Bool, true, false, Option, Some, None, ℤ, pos, Float}
use Rattle.refusal.specs.Outcome.{Outcome, gave, refused}
use Rattle.refusal.specs.Told.{value_bits}
use Rattle.kinds.specs.declared.Tick.{Tick}
use Rattle.compound.specs.Walk.{Step, step}
use Rattle.compound.specs.declared.Packet.{Packet}
use Rattle.arrival.specs.Cursor.{from, lost}
use Rattle.arrival.specs.Overlay.{shown_of, shown_bits}
use Rattle.arrival.specs.declared.Arrivals.{Arrivals}
use Rattle.arrival.specs.declared.Entry.{Entry}
use Rattle.arrival.specs.declared.Arrival.{Arrival}
use Rattle.arrival.specs.declared.Arrival.TheVariants.{Missing, Unreadable, Unplaced, At}
use Rattle.twcc_read.specs.declared.Listed.{Listed}
use Rattle.twcc_write.specs.declared.Used.{Used}
use Rattle.exports.specs.declared.Said.{Said}

-- the values from a place on, as many as asked for: signed ones in two's complement, 0 where there is none
abbrev values_from : ℕ → ℕ → List ℤ → List ℕ
values_from place zero values = []
values_from place (suc k) values = value_bits values place ∷ values_from (suc place) k values

-- a number and its values in the struct's eight places
abbrev pub says : ℕ → List ℤ → Said
says number values = record { number = number; values = values_from 0 8 values }

-- 0 and the answer's values, or the refusal's number and its values
unfoldable pub said_of : Outcome (List ℤ) → Said
said_of (gave values) = says 0 values
said_of (refused number values) = says number values

-- what a call promises that changes no memory
abbrev pub Answers : Outcome (List ℤ) → Said → Type 0
Answers outcome s = s ≡ said_of outcome

-- an answer by its values
abbrev pub answered : {A : Type 0} → (A → List ℤ) → Outcome A → Outcome (List ℤ)
answered values (gave a) = gave (values a)
answered values (refused number refusal) = refused number refusal

unfoldable pub nothing : Outcome Unit → Outcome (List ℤ)
nothing = answered (λ _. [])

unfoldable pub number : Outcome ℕ → Outcome (List ℤ)
number = answered (λ n. pos n ∷ [])

-- 0 where the bit is clear; 1, byte
abbrev pub padding_values : Option ℕ → List ℤ
padding_values None = pos 0 ∷ []
padding_values (Some b) = pos 1 ∷ pos b ∷ []

unfoldable pub padding : Outcome (Option ℕ) → Outcome (List ℤ)
padding = answered padding_values

-- 0, next offset, start, length, body, padding of a packet; 1, the end where the walk is over
abbrev pub walk_values : Option Packet → ℕ → List ℤ
walk_values (Some p) next = pos 0 ∷ pos next ∷ pos p.start ∷ pos p.length ∷ pos p.body ∷ pos p.padding ∷ []
walk_values None next = pos 1 ∷ pos next ∷ []

unfoldable pub walk : Step → Outcome (List ℤ)
walk (step found next) = answered (λ met. walk_values met next) found

-- base, status count, reference time, feedback count, entries listed
unfoldable pub listed_block : Outcome Listed → Outcome (List ℤ)
listed_block =
    answered
    (λ l. pos l.header.base.0 ∷ pos l.header.statuses ∷ pos l.header.time.0 ∷ pos l.header.feedback ∷ pos l.count ∷ [])

-- bytes written, entries taken
unfoldable pub block : Outcome Used → Outcome (List ℤ)
block = answered (λ used. pos used.bytes ∷ pos used.taken ∷ [])

-- whether a cursor is placed, and its ticks; 0 where they are lost
abbrev pub placed_by : Option Tick → ℕ
placed_by (Some tick) = 1
placed_by None = 0

abbrev pub tick_by : Option Tick → ℤ
tick_by (Some tick) = tick.0
tick_by None = pos 0

abbrev pub placed_of : Arrivals → ℕ
placed_of c = placed_by c.from

abbrev pub tick_of : Arrivals → ℤ
tick_of c = tick_by c.from

unfoldable pub started : Outcome Arrivals → Outcome (List ℤ)
started = answered (λ c. pos (placed_of c) ∷ tick_of c ∷ [])

-- the cursor that a caller's numbers stand for
abbrev pub cursor : Bool → ℤ → Arrivals
cursor true ticks = from ticks
cursor false ticks = lost

-- the number of a display's case
abbrev pub case_of : Arrival Float → ℕ
case_of Missing = 0
case_of Unreadable = 1
case_of Unplaced = 2
case_of (At milliseconds) = 3

-- the case, the milliseconds' bits, placed and ticks for the next call
unfoldable pub entry : Entry → Outcome (List ℤ)
entry e = gave (pos (case_of (shown_of e.arrival)) ∷ pos (shown_bits e.arrival) ∷ pos (placed_of e.next) ∷ tick_of e.next ∷ [])
