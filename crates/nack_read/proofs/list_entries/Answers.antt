use native.Mathlib.Omega.{arith}
use borrow.Author.Rules.{rules}
use Rattle.nack_read.proofs.Listing.{next_room, next_listed}
use Rattle.nack_read.proofs.list_entries.Goals as goal

pub list_entry-place-requires : goal.list_entry-place-requires
list_entry-place-requires c =
    let before = c.loop-a.invariant in
    let room = next_room c.args.entries.now c.loop-a.rest.now c.in-Some.behind.now c.in-Some.field-0-0.now before.0 (search rules) c.from_be_bytes.result c.from_be_bytes-mask.result (omega arith) (omega arith) c.loop-a.place _ before.1 c.requires in
    omega (arith, room, c.loop-a.auto.list)

pub loop-a-preserved : goal.loop-a-preserved
loop-a-preserved c =
    let before = c.loop-a.invariant in
    next_listed c.args.entries.now c.loop-a.rest.now c.in-Some.behind.now c.in-Some.field-0-0.now before.0 (search rules) c.from_be_bytes.result c.from_be_bytes-mask.result (omega arith) (omega arith) _ _ _ _ _ (before.1, before.2) c.list_entry-place.ensures
