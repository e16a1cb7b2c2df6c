use Prim.Native.Nat.{◌*◌, ◌≤◌}
use mathlib.Core.Path.{sym}
use native.Mathlib.Omega.{arith}
use lib.ListN.{length}
use Rattle.twcc_plan.proofs.Planning.{planning_start, Turned, turned, planned}
use Rattle.twcc_plan.proofs.plan_chunks.Goals as goal
use Rattle.twcc_plan.proofs.plan_chunks.Goals.{In-Some}

-- what a turn's step gives
turn : (c : In-Some) → Turned c.loop-c.invariant c.in-Some.c
turn c = turned c.loop-c.invariant c.in-Some.c (sym c.in-Some.ensures)

-- a list's words have four bytes each, and less than 2 ^ 63 in all
long : (c : In-Some) → 4 * length c.args.list.now ≤ 9223372036854775808
long c = omega arith

-- what was planned so far is small
small : (c : In-Some) → (4 * c.loop-c.chunks ≤ 9223372036854775808) × (c.loop-c.used ≤ 9223372036854775816) × (4 * c.loop-c.taken ≤ 9223372036854775808)
small c = omega (arith, c.loop-c.invariant.few, c.loop-c.invariant.inside, c.loop-c.invariant.small, long c)

pub loop-c-init : goal.loop-c-init
loop-c-init c = planning_start _ _ _

pub overflow_cast-c : goal.overflow_cast-c
overflow_cast-c c = omega (arith, (turn (goal.at.overflow_cast-c c).In-Some).bits)

pub overflow_add-used : goal.overflow_add-used
overflow_add-used c =
    let here = (goal.at.overflow_add-used c).In-Some in
    let t = turn here in omega (arith, small here, t.slim, t.fits, long here)

pub overflow_add-used-in-Some : goal.overflow_add-used-in-Some
overflow_add-used-in-Some c =
    let here = (goal.at.overflow_add-used-in-Some c).In-Some in
    let t = turn here in omega (arith, small here, t.slim, t.fits, long here)

pub overflow_add-taken : goal.overflow_add-taken
overflow_add-taken c =
    let here = (goal.at.overflow_add-taken c).In-Some in
    let t = turn here in omega (arith, small here, t.fits, long here)

pub loop-c-smaller : goal.loop-c-smaller
loop-c-smaller c =
    let t = turn (goal.at.loop-c-smaller c).In-Some in omega (arith, t.some-taken, t.fits)

pub loop-c-preserved : goal.loop-c-preserved
loop-c-preserved c = (turn (goal.at.loop-c-preserved c).In-Some).further _ c.put16.ensures _ (omega arith)

pub returns : goal.returns
returns c = planned c.loop-c.invariant (sym c.in_default.ensures) _ (omega arith)
