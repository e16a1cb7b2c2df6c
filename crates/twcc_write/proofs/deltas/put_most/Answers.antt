-- None, one byte or two, right or stored over.
use mathlib.Core.Path.{refl, ◌∙◌}
use native.Mathlib.Omega.{arith}
use borrow.Author.Tests.{eq-eqb, ne_eqb}
use mir.Syntax.{w32}
use mir.Facts.{to_z-of_z}
use Rattle.twcc_write.proofs.Beginning.{none_begins, one_begins, two_begins}
use Rattle.twcc_write.proofs.deltas.put_most.Goals as goal
use Rattle.twcc_write.proofs.deltas.put_most.Goals.{then-small-eq1, else-small-eq1}

pub returns-in-0 : goal.returns-in-0
returns-in-0 g c = none_begins c.args.word _ (omega (arith, c.requires.light, c.in-0.is))

pub returns-in-1 : goal.returns-in-1
returns-in-1 g c =
    let word = to_z-of_z {w = w32} c.ranges.word in
    let two = rw word at c.two_bytes.ensures in
    one_begins c.args.word _ _ _ (rw word at c.small-small.ensures) (omega (arith, c.requires.light, c.in-1.is)) (rw two refl) (omega (arith, c.requires.room, c.in-1.is))

pub returns-after-small-eq1 : goal.returns-after-small-eq1
returns-after-small-eq1 g c =
    let word = to_z-of_z {w = w32} c.ranges.word in
    let two = rw word at c.two_bytes.ensures in
    let small = rw word at c.small-small.ensures in
    two_begins c.args.word _ _ _ _ (rw word at c.symbol.ensures.0)
    (elim c.if-small-eq1.branch [
      | then-small-eq1 w ↦ w.out-is ∙ rw (two, ← small, eq-eqb _ 1 w.if-small-eq1.true) refl
      | else-small-eq1 w ↦ w.out-is ∙ rw (two, ← small, ne_eqb _ 1 w.if-small-eq1.false) refl
    ])
    (rw two refl) (omega (arith, c.requires.room))
