-- Laws of a call that fills lent memory: what its answers come to, a call on a part seen from the whole, and room for more bytes.
use Prim.Native.Nat.{ℕ, suc, ◌+◌, ◌≤◌}
use mathlib.Core.Path.{◌≡◌, refl, sym, ap, ◌∙◌}
use mathlib.Core.List.{List, [], ◌∷◌, ◌++◌}
use native.Mathlib.Nat.{zero-add}
use native.Mathlib.Omega.{arith}
use borrow.Author.Tests.{lt-ltb, le-ltb, ltb-true, ltb-false}
use lib.Dec.{ltb}
use lib.ListN.{length, take, drop, set, length-take, take-append-drop}
use lib.Seq.{sets}
use Rattle.octets.proofs.Logic.{by_test}
use Rattle.std.specs.Prelude.{Ok, Err}
use Rattle.refusal.specs.Outcome.{Outcome, gave}
use Rattle.refusal.specs.Number.{no}
use Rattle.refusal.specs.declared.Refusal.{Refusal}
use Rattle.lent.specs.Fills.{Fills}
use Rattle.lent.specs.Room.{in_room, room_for}

-- ---- by its outcome

pub refuses : {A B : Type 0} {outcome : Outcome B} {at : ℕ} {elements old : List A} (r : Refusal) → outcome ≡ no r → Fills outcome at elements old (Err r) old
refuses r comes = record { answer = sym comes; memory = rw comes refl }

pub gives : {A B : Type 0} {outcome : Outcome B} {at : ℕ} {elements old new : List A} (b : B) → outcome ≡ gave b → new ≡ sets old at elements
    → Fills outcome at elements old (Ok b) new
gives b comes stored = record { answer = sym comes; memory = rw comes stored }

-- ---- a call on the part from a place on, seen from the whole

set-behind : {A : Type 0} (front rest : List A) (i : ℕ) (x : A) → set (front ++ rest) (length front + i) x ≡ front ++ set rest i x
set-behind [] rest i x = ap (λ (k : ℕ). set rest k x) (zero-add i)
set-behind {A} (y ∷ front) rest i x =
    let next : length (y ∷ front) + i ≡ suc (length front + i) = omega arith in
    ap (λ (k : ℕ). set (y ∷ (front ++ rest)) k x) next ∙ ap (λ (l : List A). y ∷ l) (set-behind front rest i x)

sets_behind : {A : Type 0} (front rest elements : List A) (at : ℕ) → sets (front ++ rest) (length front + at) elements ≡ front ++ sets rest at elements
sets_behind front rest [] at = refl
sets_behind {A} front rest (x ∷ elements) at =
    let next : suc (length front + at) ≡ length front + suc at = omega arith in
    ap (λ (l : List A). sets l (suc (length front + at)) elements) (set-behind front rest at x)
    ∙ ap (λ (k : ℕ). sets (front ++ set rest at x) k elements) next
    ∙ sets_behind front (set rest at x) elements (suc at)

pub sets_part : {A : Type 0} (old elements : List A) (from at : ℕ) → from ≤ length old → take from old ++ sets (drop from old) at elements ≡ sets old (from + at) elements
sets_part {A} old elements from at within =
    let size : length (take from old) ≡ from = omega (arith, length-take from old) in
    sym (sets_behind (take from old) (drop from old) elements at)
    ∙ ap (λ (l : List A). sets l (length (take from old) + at) elements) (take-append-drop from old)
    ∙ ap (λ (k : ℕ). sets old (k + at) elements) size

-- ---- room for more bytes

pub room_for_lem : {A : Type 0} (more needed present : ℕ) (answer : A) → in_room (more + needed) (more + present) answer ≡ room_for more (in_room needed present answer)
unfolding room_for
room_for_lem more needed present answer =
    by_test (ltb present needed)
    (λ lacks. let above = ltb-true present needed lacks in rw (lacks, lt-ltb (more + present) (more + needed) (omega arith)))
    (λ fits. let within = ltb-false present needed fits in rw (fits, le-ltb (more + present) (more + needed) (omega arith)))
