-- The numbers that an entry with a full mask names follow each other.
use Rattle.std.proofs.Common.{◌≡◌}
use lib.Seq.{sets}
use Rattle.nack.proofs.Masks.{run}
use Rattle.nack_read.proofs.list_full.Given as goal

abbrev pub invariant-loop-j : goal.invariant-loop-j
invariant-loop-j l = l.list ≡ sets l.initial.list 0 (run l.number.0 l.j)
