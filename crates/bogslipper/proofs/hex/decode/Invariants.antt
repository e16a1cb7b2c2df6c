-- No more bytes are put than were passed.
use Rattle.std.proofs.Common.{◌≤◌}
use Rattle.bogslipper.proofs.hex.decode.Given as goal

abbrev pub invariant-loop-i : goal.invariant-loop-i
invariant-loop-i l = l.have ≤ l.i
