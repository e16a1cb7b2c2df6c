-- What an answer of the writer tells of the block that was written.
use Prim.Native.Nat.{ℕ}
use mathlib.Core.Path.{◌≡◌, refl, sym, ap, ◌∙◌}
use mathlib.Core.List.{List, [], ◌∷◌}
use mathlib.Core.Bool.{Bool, true, false, cond}
use borrow.Author.Tests.{ltb-false}
use lib.Dec.{ltb}
use lib.IntN.{ℤ}
use lib.ListN.{length, take}
use lib.Seq.{sets}
use Rattle.std.specs.Prelude.{Option, Ok}
use Rattle.octets.proofs.Logic.{never}
use Rattle.refusal.specs.Outcome.{Outcome, gave, refuse}
use Rattle.lent.specs.Fills.{held}
use Rattle.lent.proofs.Laws.{take_sets}
use Rattle.twcc.specs.Time.{latest, too_late}
use Rattle.twcc_plan.specs.Block.{most_entries, first_bad, taken_of, size_of, block_bytes}
use Rattle.twcc_plan.proofs.BlockLaws.{none_bad, block-length}
use Rattle.twcc_write.specs.Limits.{least_of}
use Rattle.twcc_write.specs.Promise.{written, Wrote}
use Rattle.twcc_write.specs.Stores.{BlockStorable}
use Rattle.twcc_write.specs.declared.Used.{Used}
use Rattle.twcc_write.proofs.Answers.{eight-within}

-- an answer that gives was refused by no test
pub past : {A : Type 0} {a : A} (b : Bool) (number : ℕ) (values : List ℕ) (o : Outcome A) → cond b (refuse number values) o ≡ gave a → (b ≡ false) × (o ≡ gave a)
past true number values o is = never (cc)
past false number values o is = (refl, is)

abbrev pub used_for : List ℤ → Option ℕ → Used
used_for list limit = record { bytes = size_of limit list; taken = taken_of limit list }

pub written_passed : {time : ℕ} {list : List ℤ} {limit : Option ℕ} {room : ℕ} (used : Used) → written time list limit room ≡ gave used
    → BlockStorable time list limit room × (used ≡ used_for list limit)
unfolding written
written_passed {time} {list} {limit} {room} used gives =
    let late = past (too_late time) _ (time ∷ []) _ gives in
    let long = past (ltb most_entries (length list)) _ (length list ∷ []) _ late.1 in
    let bad = past (ltb (first_bad list) (length list)) _ (first_bad list ∷ []) _ long.1 in
    let small = past (ltb (least_of limit) 8) _ (least_of limit ∷ []) _ bad.1 in
    let lacks = past (ltb room (size_of limit list)) _ (size_of limit list ∷ room ∷ []) _ small.1 in (
      record {
        fits = ltb-false latest time late.0;
        plannable = record { short = ltb-false most_entries (length list) long.0; eight = eight-within limit (ltb-false (least_of limit) 8 small.0) };
        valid = none_bad list (ltb-false (first_bad list) (length list) bad.0);
        room = ltb-false room (size_of limit list) lacks.0;
      },
      let same = lacks.1 in cc,
    )

-- a call that answered a block: the tests passed, it used what the definitions say, and the block stands at the buffer's
-- front
pub record BlockThere (base time feedback : ℕ) (list : List ℤ) (limit : Option ℕ) (old new : List ℕ) (used : Used) : Type 0 where
  pub passed : BlockStorable time list limit (length old)
  pub is : used ≡ used_for list limit
  pub there : take used.bytes new ≡ block_bytes base time feedback limit list

module _ {base time feedback : ℕ} {list : List ℤ} {limit : Option ℕ} {old new : List ℕ} where
  pub block-there : (used : Used) → Wrote base time feedback list limit old (Ok used) new → BlockThere base time feedback list limit old new used
  block-there used wrote =
      let block = block_bytes base time feedback limit list in
      let known = written_passed used (sym wrote.answer) in
      let whole : new ≡ sets old 0 block = wrote.memory ∙ ap (λ (o : Outcome Used). held o (sets old 0 block) old) (sym wrote.answer) in
      let size : length block ≡ used.bytes = block-length limit list known.0.plannable.eight base time feedback ∙ sym (ap (λ (u : Used). u.bytes) known.1) in
      record {
        passed = known.0;
        is = known.1;
        there = ap (λ (l : List ℕ). take used.bytes l) whole ∙ take_sets old block used.bytes size (rw known.1 known.0.room);
      }
