-- The two low bytes of the word.
use mir.Syntax.{w32}
use mir.Facts.{to_z-of_z}
use Rattle.twcc_write.proofs.Words.{low_bytes}
use Rattle.twcc_write.proofs.deltas.two_bytes.Goals as goal

pub returns : goal.returns
returns c =
    let low = low_bytes c.args.word c.requires in
    rw (c.to_le_bytes.ensures, to_z-of_z {w = w32} c.ranges.word, low.0, low.1)
