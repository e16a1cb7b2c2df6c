-- Each entry's numbers follow those of the entries before it.
use Prim.Native.Nat.{◌-◌}
use Rattle.std.proofs.Common.{◌≡◌, length, take}
use lib.ListN.{drop}
use lib.Seq.{sets}
use Rattle.nack_read.specs.Named.{named_by}
use Rattle.nack_read.proofs.list_entries.Given as goal

abbrev pub invariant-loop-a : goal.invariant-loop-a
invariant-loop-a l =
    let listed = length l.entries - length l.rest in
    let front = named_by (take listed l.entries) in
    (l.rest ≡ drop listed l.entries) × (l.place ≡ length front) × (l.list ≡ sets l.initial.list 0 front)

abbrev pub decreases-loop-a : goal.decreases-loop-a
decreases-loop-a l = length l.rest
