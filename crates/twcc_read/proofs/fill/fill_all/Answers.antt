use Prim.Native.Nat.{◌+◌, ◌-◌, ◌≤◌}
use native.Mathlib.Omega.{arith}
use borrow.Author.Rules.{rules}
use lib.ListN.{length, drop, length-take, length-drop}
use Rattle.twcc_cursors.proofs.Steps.{IsTaken, step_none, step_some}
use Rattle.twcc_read.proofs.Chunks.{filling_start, room, filling_more, filling_over}
use Rattle.twcc_read.proofs.fill.fill_all.Goals as goal
use Rattle.twcc_read.proofs.fill.fill_all.Goals.{In-Some}

-- what a step that takes a chunk says
taken : (c : In-Some) → IsTaken c.args.block.now c.loop-got.c c.in-Some.got
taken c = step_some _ _ c.in-Some.ensures

-- there is room for its entries
fits : (c : In-Some) → c.loop-got.k + c.in-Some.got.count ≤ length c.loop-got.list
fits c = room c.loop-got.invariant (taken c) c.requires.room

pub loop-got-init : goal.loop-got-init
loop-got-init c = filling_start _ _ _ _ c.requires.inside

pub overflow_add-k : goal.overflow_add-k
overflow_add-k c = omega (arith, fits (goal.at.overflow_add-k c).In-Some)

pub slice_bounds-fill_chunk-end-in-Some : goal.slice_bounds-fill_chunk-end-in-Some
slice_bounds-fill_chunk-end-in-Some c = let f = fits (goal.at.slice_bounds-fill_chunk-end-in-Some c).In-Some in search rules

pub fill_chunk-d-requires : goal.fill_chunk-d-requires
fill_chunk-d-requires c = let t = taken (goal.at.fill_chunk-d-requires c).In-Some in omega (arith, t.count, length-take (c.loop-got.k + c.in-Some.got.count - c.loop-got.k) (drop c.loop-got.k c.loop-got.list))

pub loop-got-smaller : goal.loop-got-smaller
loop-got-smaller c = let t = taken (goal.at.loop-got-smaller c).In-Some in omega (arith, t.fits, t.at)

pub loop-got-preserved : goal.loop-got-preserved
loop-got-preserved c =
    let here = (goal.at.loop-got-preserved c).In-Some in
    let f = fits here in
    filling_more c.loop-got.invariant (taken here) c.requires.room _ _ (omega arith)
    (simp (length-take, length-drop) (omega arith)) c.fill_chunk-d.ensures

pub returns : goal.returns
returns c = filling_over c.loop-got.invariant (step_none _ _ c.in_default.ensures) c.requires.room
