-- The outcomes of `read`.
use Rattle.std.proofs.lemmas.Bool.Decides.{nat_tests}
use Rattle.twcc.proofs.Reading.{listed-count, deltas-there}

pub ruleset outcomes = (listed-count, deltas-there, nat_tests)
