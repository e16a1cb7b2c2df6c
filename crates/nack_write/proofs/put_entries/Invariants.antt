-- What is left of the entries, stored from here, makes the whole.
use Rattle.std.proofs.Common.{◌≡◌}
use Rattle.nack_write.specs.Left.{entries_left}
use Rattle.nack_write.proofs.Putting.{Putting}
use Rattle.nack_write.proofs.put_entries.Given as goal

abbrev pub invariant-loop-number : goal.invariant-loop-number
invariant-loop-number l = (l.number-iterator.store.now ≡ l.store) × Putting l.store l.initial.out l.out l.at (entries_left l.number-iterator)
