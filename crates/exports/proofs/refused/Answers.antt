-- No refusal has more than the two values that are given.
use Rattle.refusal.proofs.Laws.{two_at_most}
use Rattle.exports.specs.Says.{said_of}
use Rattle.exports.proofs.refused.Goals as goal

pub returns : goal.returns
unfolding said_of
returns c = let end = two_at_most c.args.r in
    let told = c.from-told.ensures in
    simp (c.given-said.ensures, told.number, told.first, told.second, end 0, end 1, end 2, end 3, end 4, end 5)
