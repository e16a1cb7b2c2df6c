-- Walking the cursor over a block's words gives the arrivals of the definition.
use Prim.Native.Nat.{ℕ, ◌+◌, ◌*◌, ◌≤◌, ◌<◌}
use mathlib.Core.List.{List, [], ◌∷◌}
use mathlib.Core.Path.{◌≡◌, refl, sym, ap, ◌∙◌}
use mathlib.Core.Bool.{Bool, true, false, cond}
use native.Mathlib.Omega.{arith}
use borrow.Author.Tests.{ltb-false, lt-ltb}
use lib.IntN.{ℤ, nat_abs, ◌+ℤ◌}
use lib.ListN.{length}
use Rattle.octets.proofs.Logic.{never}
use Rattle.refusal.specs.Outcome.{gave, refuse}
use Rattle.twcc.specs.Time.{latest, too_late}
use Rattle.twcc.specs.Words.{half}
use Rattle.twcc.specs.Block.{status_count, reference_time, listed}
use Rattle.twcc.proofs.Reading.{listed-few}
use Rattle.twcc.specs.Status.{status_of}
use Rattle.twcc.specs.declared.Status.{Status}
use Rattle.twcc.specs.declared.Status.TheVariants.{Received, NotReceived, Truncated, Reserved, NoStatus}
use Rattle.arrival.specs.Arrivals.{ticks_of, clear, at, arrivals_behind, arrivals}
use Rattle.arrival.specs.Overlay.{milliseconds, shown_of}
use Rattle.arrival.specs.Cursor.{from, lost, begun, exact_end, exact, unplaced, next_by, next_arrival, walked}
use Rattle.std.specs.Prelude.{Option, None, Some}
use Rattle.kinds.specs.declared.Tick.{Tick}
use Rattle.arrival.specs.declared.Arrival.{Arrival}
use Rattle.arrival.specs.declared.Arrival.TheVariants.{Missing, Unreadable, Unplaced, At}
use Rattle.arrival.specs.declared.Arrivals.{Arrivals}
use Rattle.arrival.proofs.Sums.{near}
use Rattle.arrival.proofs.Laws.{arrives, misses, placeless, out_of_place, unreads, delta_small}

-- behind an entry that can't be read
walked_lost : (ws : List ℤ) → walked lost ws ≡ out_of_place ws
unfolding walked next_arrival
walked_lost [] = refl
walked_lost (w ∷ ws) = go (status_of w) (walked_lost ws)
  where
    go : (s : Status) → walked lost ws ≡ out_of_place ws → (next_by lost s).arrival ∷ walked (next_by lost s).next ws ≡ placeless s ∷ out_of_place ws
    go (Received delta) rest = ap (◌∷◌ Unplaced) rest
    go NotReceived rest = ap (◌∷◌ Missing) rest
    go Truncated rest = ap (◌∷◌ Unreadable) rest
    go Reserved rest = ap (◌∷◌ Unreadable) rest
    go NoStatus rest = ap (◌∷◌ Unreadable) rest

-- where no sum can leave the exact ticks
walked_from : (t : ℤ) (ws : List ℤ) → nat_abs t + half * length ws < exact_end → walked (from t) ws ≡ arrivals t ws
unfolding walked next_arrival arrivals_behind
walked_from t [] small = refl
walked_from t (w ∷ ws) small = go (status_of w) refl (λ u less. walked_from u ws less)
  where
    unread : (s : Status) → status_of w ≡ s → clear s ≡ false → Unreadable ∷ walked lost ws ≡ arrivals t (w ∷ ws)
    unread s is unclear = ap (◌∷◌ Unreadable) (walked_lost ws) ∙ sym (unreads t w ws (ap clear is ∙ unclear))

    go : (s : Status) → status_of w ≡ s → ((u : ℤ) → nat_abs u + half * length ws < exact_end → walked (from u) ws ≡ arrivals u ws)
        → (next_by (from t) s).arrival ∷ walked (next_by (from t) s).next ws ≡ arrivals t (w ∷ ws)
    go (Received d) is rest =
        let few : nat_abs d ≤ half = rw is at (delta_small w) in
        let n = near t d in
        let less : nat_abs (t +ℤ d) + half * length ws < exact_end = omega arith in
        rw (lt-ltb (nat_abs (t +ℤ d)) exact_end (omega arith)) (ap (◌∷◌ (at (t +ℤ d))) (rest (t +ℤ d) less)) ∙ sym (arrives t w d ws is)
    go NotReceived is rest = ap (◌∷◌ Missing) (rest t (omega arith)) ∙ sym (misses t w ws is)
    go Truncated is rest = unread Truncated is refl
    go Reserved is rest = unread Reserved is refl
    go NoStatus is rest = unread NoStatus is refl

-- from any reference time that fits, over up to 2 ^ 37 words
pub walks : (time : ℕ) (c : Arrivals) (words : List ℤ) → begun time ≡ gave c → length words ≤ 137438953472 → walked c words ≡ arrivals (ticks_of time) words
unfolding begun
walks time c words begins few = go (too_late time) refl begins
  where
    go : (late : Bool) → too_late time ≡ late → cond late (refuse 10 (time ∷ [])) (gave (from (ticks_of time))) ≡ gave c → walked c words ≡ arrivals (ticks_of time) words
    go true late begins = never (cc)
    go false soon begins =
        let most : time ≤ latest = ltb-false latest time soon in
        let is : from (ticks_of time) ≡ c = cc in
        ap (λ (a : Arrivals). walked a words) (sym is) ∙ walked_from (ticks_of time) words (omega arith)

-- a block's own words and time: the cursor begins, and walks them
pub block_walks : (block : List ℕ) → reference_time block ≤ latest → status_count block < 65536
    → walked (from (ticks_of (reference_time block))) (listed block) ≡ arrivals (ticks_of (reference_time block)) (listed block)
block_walks block fits count = let few = listed-few block in walked_from (ticks_of (reference_time block)) (listed block) (omega arith)

-- what the cursor places, a display shows
abbrev pub Displayed : Arrival Tick → Type 0
Displayed (At tick) = shown_of (At tick) ≡ At (milliseconds tick.0)
Displayed Missing = Unit
Displayed Unreadable = Unit
Displayed Unplaced = Unit

pub placed_shown : (c : Arrivals) (w : ℤ) → Displayed (next_arrival c w).arrival
unfolding next_arrival shown_of
placed_shown c w = go (status_of w) c.from
  where
    placed : (t : ℤ) (b : Bool) → exact t ≡ b → Displayed (cond b (record { arrival = at t; next = from t }) unplaced).arrival
    placed t true holds = rw holds refl
    placed t false fails = tt

    go : (s : Status) (tick : Option Tick) → Displayed (next_by (record { from = tick }) s).arrival
    go (Received d) (Some tick) = placed (tick.0 +ℤ d) (exact (tick.0 +ℤ d)) refl
    go (Received d) None = tt
    go NotReceived a = tt
    go Truncated a = tt
    go Reserved a = tt
    go NoStatus a = tt
