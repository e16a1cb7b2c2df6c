-- None, one or two bytes, as the symbol says.
use mathlib.Core.Path.{◌≡◌, refl, sym, ◌∙◌}
use native.Mathlib.Omega.{arith}
use mir.Syntax.{w32}
use mir.Facts.{to_z-of_z}
use Rattle.twcc.specs.Words.{symbol_of}
use Rattle.twcc_write.proofs.Beginning.{none_stored, one_stored, two_stored}
use Rattle.twcc_write.proofs.deltas.put_exact.Goals as goal

pub returns-in-0 : goal.returns-in-0
returns-in-0 c =
    let word = to_z-of_z {w = w32} c.ranges.word in
    let symbol = rw word at c.symbol.ensures in
    none_stored c.args.word _ (sym symbol.0 ∙ c.in-0.is)

pub returns-in-1 : goal.returns-in-1
returns-in-1 c =
    let word = to_z-of_z {w = w32} c.ranges.word in
    let bytes = rw word at c.two_bytes.ensures in
    let symbol = rw word at c.symbol.ensures in
    one_stored c.args.word _ _ (sym symbol.0 ∙ c.in-1.is) (rw bytes refl)

pub returns-in_default : goal.returns-in_default
returns-in_default c =
    let word = to_z-of_z {w = w32} c.ranges.word in
    let bytes = rw word at c.two_bytes.ensures in
    let symbol = rw word at c.symbol.ensures in
    let two : symbol_of c.args.word ≡ 2 = omega (arith, symbol) in
    two_stored c.args.word _ _ _ two (rw bytes refl) (rw bytes refl)
