-- Nothing stands before the first number of the byte that is looked at.
use Rattle.std.proofs.Common.{◌≡◌, ◌*◌, ◌-◌, length}
use Rattle.nack_store.specs.Bits.{bit_of, members}
use Rattle.nack_write.proofs.next_from.Given as goal

abbrev pub invariant-loop-at : goal.invariant-loop-at
invariant-loop-at l =
    let f = bit_of l.store in
    let end = 8 * length l.store in
    members f l.first (end - l.first) ≡ members f (8 * l.at) (end - 8 * l.at)
