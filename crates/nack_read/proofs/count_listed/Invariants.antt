-- Each entry adds what its mask names, and the sum stops at the largest number.
use Rattle.std.proofs.Common.{◌≡◌, length, take}
use Rattle.nack.specs.Promise.{capped}
use Rattle.nack_read.specs.Named.{named_by}
use Rattle.nack_read.proofs.count_listed.Given as goal

abbrev pub invariant-loop-c : goal.invariant-loop-c
invariant-loop-c l = l.listed ≡ capped (length (named_by (take l.c-index l.entries)))
