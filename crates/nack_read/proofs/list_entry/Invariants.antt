-- The entry's number comes first; then the lowest bit of what is left of the mask names the next number, and goes.
use Rattle.nack_read.proofs.Listing.{Naming}
use Rattle.nack_read.proofs.list_entry.Given as goal

abbrev pub invariant-loop-left : goal.invariant-loop-left
invariant-loop-left l = Naming l.initial.list l.place l.number.0 l.mask l.list l.next l.left

abbrev pub decreases-loop-left : goal.decreases-loop-left
decreases-loop-left l = l.left
