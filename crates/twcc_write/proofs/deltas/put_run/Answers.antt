use Prim.Native.Nat.{◌*◌, ◌≤◌}
use mathlib.Core.Path.{sym}
use native.Mathlib.Nat.{mul-zero, mul-suc}
use native.Mathlib.Numerals.{add-one}
use native.Mathlib.Omega.{arith}
use borrow.Author.Rules.{rules}
use lib.IntN.{pos}
use lib.ListN.{length, get_or}
use mir.Syntax.{w32}
use mir.Val.{SFits}
use mir.Facts.{to_z-of_z}
use Rattle.twcc.specs.Words.{deltas}
use Rattle.twcc_write.proofs.Words.{valid-at, run-symbol}
use Rattle.twcc_write.proofs.Beginning.{nothing_stored, next_room, next_stored, exact_bytes}
use Rattle.twcc_write.proofs.deltas.put_run.Goals as goal

pub loop-n-init : goal.loop-n-init
loop-n-init g c = rw mul-zero (nothing_stored _)

pub slice_bounds-copy_from_slice-end : goal.slice_bounds-copy_from_slice-end
slice_bounds-copy_from_slice-end g c =
    let words = c.args.words.now in
    let n = c.loop-n.n in
    let ask = c.requires in
    let symbol = run-symbol words n g.row.N ask.2 c.loop-n-test.true in
    let room = next_room words n (g.row.N * n) c.loop-n.out c.loop-n.invariant.size c.loop-n-test.true (omega (arith, ask.1.room, c.loop-n.auto.out)) in
    omega (arith, room, symbol)

pub two_bytes-requires : goal.two_bytes-requires
two_bytes-requires g c =
    let words = c.args.words.now in
    let fits : SFits w32 (get_or words c.loop-n.n (pos 0)) = search rules in
    rw (to_z-of_z {w = w32} fits) (valid-at words c.loop-n.n (pos 0) c.requires.1.valid c.loop-n-test.true)

pub loop-n-preserved : goal.loop-n-preserved
loop-n-preserved g c =
    let words = c.args.words.now in
    let n = c.loop-n.n in
    let fits : SFits w32 (get_or words n (pos 0)) = search rules in
    let symbol = run-symbol words n g.row.N c.requires.2 c.loop-n-test.true in
    let bytes = exact_bytes (get_or words n (pos 0)) g.row.N _ c.copy_from_slice.new.self (sym symbol) (rw (to_z-of_z {w = w32} fits) at c.two_bytes.ensures) c.copy_from_slice.ensures.after in
    let room : length (deltas words) ≤ length c.loop-n.out = omega (arith, c.requires.1.room, c.loop-n.auto.out) in
    rw (add-one n, mul-suc, ← add-one n) (next_stored words n (g.row.N * n) c.loop-n.out c.loop-n.invariant.size c.loop-n-test.true c.args.out.now g.row.N _ c.copy_from_slice.new.self c.loop-n.invariant bytes (sym symbol) (omega arith) room)
