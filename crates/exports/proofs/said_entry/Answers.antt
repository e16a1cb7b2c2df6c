-- By the case that is shown.
use mathlib.Core.Path.{◌≡◌, sym, ◌∙◌, subst}
use lib.Ieee.{Float}
use Rattle.arrival.specs.Overlay.{shown_of}
use Rattle.arrival.specs.declared.Arrival.{Arrival}
use Rattle.arrival.specs.declared.Arrival.TheVariants.{Missing, Unreadable, Unplaced, At}
use Rattle.arrival.proofs.Quarters.{Shows, shows}
use Rattle.exports.specs.Says.{said_of, entry}
use Rattle.exports.proofs.said_entry.Goals as goal
use Rattle.exports.proofs.said_entry.Goals.{After-shown}

-- what is shown, by its case
comes : (c : After-shown) → (o : Arrival Float) → c.shown.result ≡ o → shown_of c.args.met.arrival ≡ o
comes c o is = sym c.shown.ensures ∙ is

-- its milliseconds, as plain bits
bits : (c : After-shown) → (o : Arrival Float) → c.shown.result ≡ o → Shows c.args.met.arrival o
bits c o is = subst (Shows c.args.met.arrival) (comes c o is) (shows c.args.met.arrival)

pub float_to_bits-milliseconds : goal.float_to_bits-milliseconds
float_to_bits-milliseconds c = (bits (goal.at.float_to_bits-milliseconds c).After-shown (At c.in-At.milliseconds) c.in-At.is).0

pub returns-in-Missing : goal.returns-in-Missing
unfolding said_of entry
returns-in-Missing c =
    let here = (goal.at.returns-in-Missing c).After-shown in
    let told = c.in-Missing.is in
    rw (comes here Missing told, bits here Missing told, ← c.plain-next.ensures.0, ← c.plain-next.ensures.1) c.given.ensures

pub returns-in-Unreadable : goal.returns-in-Unreadable
unfolding said_of entry
returns-in-Unreadable c =
    let here = (goal.at.returns-in-Unreadable c).After-shown in
    let told = c.in-Unreadable.is in
    rw (comes here Unreadable told, bits here Unreadable told, ← c.plain-next.ensures.0, ← c.plain-next.ensures.1) c.given-in-Unreadable.ensures

pub returns-in-Unplaced : goal.returns-in-Unplaced
unfolding said_of entry
returns-in-Unplaced c =
    let here = (goal.at.returns-in-Unplaced c).After-shown in
    let told = c.in-Unplaced.is in
    rw (comes here Unplaced told, bits here Unplaced told, ← c.plain-next.ensures.0, ← c.plain-next.ensures.1) c.given-in-Unplaced.ensures

pub returns-in-At : goal.returns-in-At
unfolding said_of entry
returns-in-At c =
    let here = (goal.at.returns-in-At c).After-shown in
    let ms = c.in-At.milliseconds in
    let told = c.in-At.is in
    rw (
      comes here (At ms) told,
      ← (bits here (At ms) told).1,
      ← c.plain-next.ensures.0,
      ← c.plain-next.ensures.1,
    ) c.given-in-At.ensures
