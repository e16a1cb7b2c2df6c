-- When the packets of a block arrived, in ticks of 250 µs (the draft, 3.1.5): the first received entry's delta counts from
-- the reference time, each later one's from the received entry before it. So an arrival is the reference time plus the
-- sum of all deltas up to and including its own. docs/RULES.md: behind an entry that can't be read none has a place.
use Rattle.std.specs.Prelude.{ℕ, ◌*◌, List, [], ◌∷◌, ◌++◌, Bool, true, false, cond, ◌&&◌, ℤ, pos, ◌+ℤ◌}
use Rattle.twcc.specs.Status.{status_of}
use Rattle.twcc.specs.declared.Status.{Status}
use Rattle.twcc.specs.declared.Status.TheVariants.{Received, NotReceived, Truncated, Reserved, NoStatus}
use Rattle.kinds.specs.declared.Tick.{Tick}
use Rattle.arrival.specs.declared.Arrival.{Arrival}
use Rattle.arrival.specs.declared.Arrival.TheVariants.{Missing, Unreadable, Unplaced, At}

-- a count of 64 ms is 256 ticks
abbrev pub ticks_of : ℕ → ℤ
ticks_of time = pos (time * 256)

-- the delta that a status has, 0 where it has none; behind one that can't be read nobody asks for a sum
abbrev pub delta_of : Status → ℤ
delta_of (Received delta) = delta
delta_of NotReceived = pos 0
delta_of Truncated = pos 0
delta_of Reserved = pos 0
delta_of NoStatus = pos 0

-- whether a status can be read
abbrev pub clear : Status → Bool
clear (Received delta) = true
clear NotReceived = true
clear Truncated = false
clear Reserved = false
clear NoStatus = false

-- the sum of the words' deltas
unfoldable pub sum_of : List ℤ → ℤ
sum_of [] = pos 0
sum_of (w ∷ ws) = delta_of (status_of w) +ℤ sum_of ws

-- whether each of the words can be read
unfoldable pub readable : List ℤ → Bool
readable [] = true
readable (w ∷ ws) = clear (status_of w) && readable ws

abbrev pub at : ℤ → Arrival Tick
at tick = At (record { 0 = tick })

-- the arrival of an entry of this status behind these words, where the block's reference time is the tick `start`
abbrev pub arrival_behind : ℤ → List ℤ → Status → Arrival Tick
arrival_behind start before NotReceived = Missing
arrival_behind start before Truncated = Unreadable
arrival_behind start before Reserved = Unreadable
arrival_behind start before NoStatus = Unreadable
arrival_behind start before (Received delta) = cond (readable before) (at (start +ℤ (sum_of before +ℤ delta))) Unplaced

-- the arrivals of words behind others
unfoldable pub arrivals_behind : ℤ → List ℤ → List ℤ → List (Arrival Tick)
arrivals_behind start before [] = []
arrivals_behind start before (w ∷ ws) = arrival_behind start before (status_of w) ∷ arrivals_behind start (before ++ (w ∷ [])) ws

-- the arrivals of a block's words
abbrev pub arrivals : ℤ → List ℤ → List (Arrival Tick)
arrivals start words = arrivals_behind start [] words
