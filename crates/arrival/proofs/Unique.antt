-- No slack: two answers that satisfy one promise are equal. Of a float its bits are fixed too (`Quarters`, `float`).
use Prim.Native.Nat.{ℕ}
use mathlib.Core.Path.{◌≡◌, sym, ◌∙◌}
use lib.IntN.{ℤ}
use Rattle.octets.specs.Signed.{bits64}
use Rattle.std.specs.Prelude.{Result}
use Rattle.refusal.specs.Said.{said}
use Rattle.refusal.specs.declared.Refusal.{Refusal}
use Rattle.refusal.proofs.Unique.{said_unique}
use Rattle.kinds.specs.declared.Tick.{Tick}
use Rattle.arrival.specs.Cursor.{begun, next_arrival}
use Rattle.arrival.specs.Overlay.{Overlay, shown_of}
use Rattle.arrival.specs.declared.Arrival.{Arrival}
use Rattle.arrival.specs.declared.Arrivals.{Arrivals}
use Rattle.arrival.specs.declared.Entry.{Entry}

pub of_unique : (time : ℕ) (a b : Result Arrivals Refusal) → said a ≡ begun time → said b ≡ begun time → a ≡ b
of_unique time a b p q = said_unique a b (p ∙ sym q)

pub next_unique : (c : Arrivals) (word : ℤ) (a b : Entry) → a ≡ next_arrival c word → b ≡ next_arrival c word → a ≡ b
next_unique c word a b p q = p ∙ sym q

pub shown_unique : (arrival : Arrival Tick) (a b : Overlay) → a ≡ shown_of arrival → b ≡ shown_of arrival → a ≡ b
shown_unique arrival a b p q = p ∙ sym q

pub bits_unique : (tick : Tick) (a b : ℕ) → a ≡ bits64 tick.0 → b ≡ bits64 tick.0 → a ≡ b
bits_unique tick a b p q = p ∙ sym q
