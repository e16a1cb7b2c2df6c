-- The reader keeps within its list, for every block and every list.
use Prim.Native.Nat.{ℕ, ◌≤◌}
use mathlib.Core.Path.{◌≡◌, refl, sym, ap, ◌∙◌}
use mathlib.Core.List.{List, ◌++◌}
use native.Mathlib.Omega.{arith}
use lib.IntN.{ℤ}
use lib.ListN.{length, drop, length-append, length-drop}
use Rattle.std.specs.Prelude.{Result, Ok, Err}
use Rattle.refusal.specs.declared.Refusal.{Refusal}
use lib.Seq.{sets, take_at, drop_at}
use Rattle.std.proofs.lemmas.Bool.Decides.{nat_tests}
use Rattle.refusal.specs.Outcome.{Outcome, gave}
use Rattle.twcc.specs.Block.{listed}
use Rattle.lent.specs.Fills.{held}
use Rattle.lent.proofs.Laws.{sets_over}
use Rattle.twcc_read.specs.Promise.{read_answer, Reads}
use Rattle.twcc_read.specs.declared.Listed.{Listed}
use Rattle.twcc_read.specs.Within.{FrontSet, KeepsWithin}

answered : (block : List ℕ) (room : ℕ) (l : Listed) → gave l ≡ read_answer block room
    → (l.count ≡ length (listed block)) × (length (listed block) ≤ room)
unfolding read_answer
answered block room l is = grind (arith, nat_tests)

kept : (words old : List ℤ) → length words ≤ length old → FrontSet words old (words ++ drop (length words) old)
kept words old fits =
    record {
      room = fits;
      same = simp (length-append, length-drop) (omega arith);
      front = take_at words (drop (length words) old) (length words) refl;
      rest = drop_at words (drop (length words) old) (length words) refl;
    }

pub read-within : (block : List ℕ) (old : List ℤ) (r : Result Listed Refusal) (new : List ℤ) → Reads block old r new → KeepsWithin block old r new
read-within block old (Ok l) new reads =
    let known = answered block (length old) l reads.answer in
    let is : new ≡ listed block ++ drop (length (listed block)) old =
    reads.memory ∙ ap (λ (o : Outcome Listed). held o (sets old 0 (listed block)) old) (sym reads.answer) ∙ sets_over (listed block) old known.1 in
    (known.0, rw is (kept (listed block) old known.1))
read-within block old (Err r) new reads =
    reads.memory ∙ ap (λ (o : Outcome Listed). held o (sets old 0 (listed block)) old) (sym reads.answer)
