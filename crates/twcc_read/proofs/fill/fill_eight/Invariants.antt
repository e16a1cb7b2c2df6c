-- Each turn copies one word.
use mathlib.Core.Path.{◌≡◌}
use lib.ListN.{take}
use Rattle.twcc_read.proofs.fill.fill_eight.Given as goal

abbrev pub invariant-loop-j : goal.invariant-loop-j
invariant-loop-j g l = take l.j l.list ≡ take l.j l.words
