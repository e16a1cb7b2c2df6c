use native.Mathlib.Omega.{arith}
use lib.ListN.{length-set, length-take, length-drop}
use Rattle.nack_read.proofs.Listing.{naming_turn, naming_room, naming_over, full_length, full_stored}
use Rattle.nack_read.proofs.list_entry.Goals as goal

pub list_full-requires : goal.list_full-requires
list_full-requires c = simp (length-take, length-drop) (omega (arith, full_length c.args.number.0 c.args.mask c.if-mask-eq65535.true))

pub returns-then-mask-eq65535 : goal.returns-then-mask-eq65535
returns-then-mask-eq65535 c =
    let full = c.if-mask-eq65535.true in
    (omega (arith, full_length c.args.number.0 c.args.mask full), full_stored _ _ _ _ _ full (omega arith) c.list_full.ensures)

pub bounds-list-next : goal.bounds-list-next
bounds-list-next c = omega (arith, naming_room c.loop-left-test.true c.loop-left.invariant, length-set c.args.list.now c.args.place c.args.number.0)

pub loop-left-preserved : goal.loop-left-preserved
loop-left-preserved c = naming_turn c.loop-left-test.true c.loop-left.invariant _ c.after.ensures

pub returns : goal.returns
returns c = naming_over c.loop-left-test.false c.loop-left.invariant
