-- The values stand in front, zeros behind them.
use Rattle.exports.proofs.Few.{behind_zeros}
use Rattle.exports.proofs.given.Goals as goal

pub returns : goal.returns
returns g c = let copied = c.copy_from_slice.ensures in
    behind_zeros _ c.args.values _ copied.after copied.len c.requires
