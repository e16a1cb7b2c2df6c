use Prim.Native.Nat.{ℕ, ◌+◌}
use mathlib.Core.List.{List}
use mathlib.Core.Path.{refl, sym, ap, ◌∙◌}
use native.Mathlib.Omega.{arith}
use Rattle.nack_store.specs.Bits.{bit_of, window}
use Rattle.nack_write.specs.Left.{entries_left}
use Rattle.nack_write.proofs.Giving.{left_all}
use Rattle.nack_write.proofs.Putting.{putting_start, putting_room, putting_turn, putting_over}
use Rattle.nack_write.proofs.put_entries.Goals as goal

pub loop-number-init : goal.loop-number-init
loop-number-init c = let start = c.into_iter-number-iterator.ensures.into_iter_gives in
    (ap (λ o. o.store.now) start, putting_start _ _ _ (ap entries_left start ∙ left_all _ refl))

pub put_entry-requires : goal.put_entry-requires
put_entry-requires c = putting_room c.in-Some.ensures.steps.2 (omega arith) c.loop-number.invariant.1

pub loop-number-preserved : goal.loop-number-preserved
loop-number-preserved c =
    let gave = c.in-Some.ensures.steps in
    let before = c.loop-number.invariant in
    let masked = c.window16.ensures ∙ ap (λ (s : List ℕ). window (bit_of s) (c.in-Some.number + 1) 16) (sym before.0) in
    (gave.1 ∙ before.0, putting_turn gave.2 masked c.put_entry.ensures before.1)

pub returns : goal.returns
returns c = putting_over c.in-None.ensures.steps.0 c.loop-number.invariant.1
