-- Two bytes; where two would be too many, the exact store.
use native.Mathlib.Omega.{arith}
use mir.Syntax.{w32}
use mir.Facts.{to_z-of_z}
use Rattle.twcc.proofs.Written.{symbol_lt, length_delta}
use Rattle.twcc_write.proofs.Beginning.{stored_begins}
use Rattle.twcc_write.proofs.deltas.put_word.Goals as goal

pub put_most-requires : goal.put_most-requires
put_most-requires c =
    rw (to_z-of_z {w = w32} c.ranges.word) (record { valid = c.requires.valid; light = omega (arith, symbol_lt c.args.word); room = c.if-out-lt2.false })

pub returns-then-out-lt2 : goal.returns-then-out-lt2
returns-then-out-lt2 c =
    let word = to_z-of_z {w = w32} c.ranges.word in
    let stored = rw word at c.put_exact.ensures in
    stored_begins (omega (arith, length_delta c.args.word, c.requires.room)) stored
