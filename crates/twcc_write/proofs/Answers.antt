-- The writer's promise, from what its ladder of tests comes to, and what it asks of its limit.
use Prim.Native.Nat.{ℕ, ◌≤◌}
use mathlib.Core.Path.{◌≡◌, sym, ap, ◌∙◌}
use mathlib.Core.List.{List}
use Rattle.std.specs.Prelude.{Option, Some, None, Ok}
use native.Mathlib.Omega.{arith}
use borrow.Author.Tests.{le-ltb}
use lib.IntN.{ℤ}
use lib.ListN.{length}
use Rattle.refusal.specs.Outcome.{gave}
use Rattle.lent.proofs.Filling.{gives}
use Rattle.twcc_plan.specs.Block.{taken_of, size_of}
use Rattle.twcc_plan.proofs.BlockLaws.{valid_fine}
use Rattle.twcc_plan.specs.Limits.{Within}
use Rattle.twcc_write.specs.Limits.{least_of}
use Rattle.twcc_write.specs.Stores.{BlockStorable, BlockStored}
use Rattle.twcc_write.specs.Promise.{written, Wrote}
use Rattle.twcc_write.specs.declared.Used.{Used}

-- a limit that no test refuses is one that holds a header, and the reverse
pub eight-within : (limit : Option ℕ) → 8 ≤ least_of limit → Within limit 8
eight-within None eight = tt
eight-within (Some bytes) eight = eight

pub within-eight : (limit : Option ℕ) → Within limit 8 → 8 ≤ least_of limit
within-eight None eight = omega arith
within-eight (Some bytes) eight = eight

module _ {time : ℕ} {list : List ℤ} {limit : Option ℕ} {present : ℕ} (storable : BlockStorable time list limit present) where
  -- no test refuses it
  pub passes : written time list limit present ≡ gave (record { bytes = size_of limit list; taken = taken_of limit list })
  unfolding written
  passes =
      let fine = valid_fine list storable.valid in
      rw (le-ltb _ _ storable.fits, le-ltb _ _ storable.plannable.short, fine, le-ltb (length list) (length list) (omega arith), le-ltb _ _ (within-eight limit storable.plannable.eight), le-ltb _ _ storable.room)

module _ {base time feedback : ℕ} {list : List ℤ} {limit : Option ℕ} {old : List ℕ} (storable : BlockStorable time list limit (length old)) where
  pub given : {used : Used} {new : List ℕ} → BlockStored base time feedback list limit old used new → Wrote base time feedback list limit old (Ok used) new
  given {used} {new} stored =
      let is : used ≡ record { bytes = size_of limit list; taken = taken_of limit list } = λ i. record { bytes = stored.size i; taken = stored.taken i } in
      gives used (passes storable ∙ ap gave (sym is)) stored.block
