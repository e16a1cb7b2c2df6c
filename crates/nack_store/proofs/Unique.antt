-- No slack: two outcomes, answer and lent memory, that satisfy one promise are equal.
use Prim.Native.Nat.{ℕ}
use mathlib.Core.Bool.{Bool}
use mathlib.Core.List.{List}
use mathlib.Core.Path.{◌≡◌, ap, sym, ◌∙◌}
use denote.Ref.{Bor}
use Rattle.std.specs.Prelude.{Result, Ok, Err}
use Rattle.std.specs.Result.{result_map_both}
use Rattle.refusal.specs.Said.{said}
use Rattle.refusal.proofs.Unique.{said_unique}
use Rattle.refusal.specs.declared.Refusal.{Refusal}
use Rattle.nack_store.specs.Bits.{added, removed, empty_store}
use Rattle.nack_store.specs.Promise.{AsStore, InPlace, Changed, has_number, count_numbers}

pub changed_unique : {s changed : List ℕ} {r q : Result Unit Refusal} {new other : List ℕ} → Changed s changed r new → Changed s changed q other → (r ≡ q) × (new ≡ other)
changed_unique {s} {changed} {r} {q} a b = (said_unique r q (a.answer ∙ sym b.answer), a.store ∙ sym b.store)

pub add_unique : (s : List ℕ) (n : ℕ) {r q : Result Unit Refusal} {new other : List ℕ} → Changed s (added s n) r new → Changed s (added s n) q other → (r ≡ q) × (new ≡ other)
add_unique s n a b = changed_unique a b

pub remove_unique : (s : List ℕ) (n : ℕ) {r q : Result Unit Refusal} {new other : List ℕ} → Changed s (removed s n) r new → Changed s (removed s n) q other → (r ≡ q) × (new ≡ other)
remove_unique s n a b = changed_unique a b

pub clear_unique : (s : List ℕ) {r q : Result Unit Refusal} {new other : List ℕ} → Changed s empty_store r new → Changed s empty_store q other → (r ≡ q) × (new ≡ other)
clear_unique s a b = changed_unique a b

pub has_unique : (s : List ℕ) (n : ℕ) (r q : Result Bool Refusal) → said r ≡ has_number s n → said q ≡ has_number s n → r ≡ q
has_unique s n r q a b = said_unique r q (a ∙ sym b)

pub count_unique : (s : List ℕ) (r q : Result ℕ Refusal) → said r ≡ count_numbers s → said q ≡ count_numbers s → r ≡ q
count_unique s r q a b = said_unique r q (a ∙ sym b)

-- two answers are one refusal, or read the same
pub sized_unique : (bytes : List ℕ) (r q : Result (Bor (List ℕ)) Refusal) → AsStore bytes r → AsStore bytes q → result_map_both (λ s. s.now) (λ e. e) r ≡ result_map_both (λ s. s.now) (λ e. e) q
sized_unique bytes (Ok a) (Ok b) x y = ap Ok (x.1 ∙ sym y.1)
sized_unique bytes (Ok a) (Err e) x y = absurd (y.0 x.0)
sized_unique bytes (Err e) (Ok b) x y = absurd (x.0 y.0)
sized_unique bytes (Err e) (Err d) x y = ap Err (x.1 ∙ sym y.1)

-- two answers are one refusal, or one array at one place
pub in_place_unique : (bytes : Bor (List ℕ)) (r q : Result (Bor (List ℕ)) Refusal) → InPlace bytes r → InPlace bytes q → r ≡ q
in_place_unique bytes (Ok a) (Ok b) x y = ap Ok (x.1 ∙ sym y.1)
in_place_unique bytes (Ok a) (Err e) x y = absurd (y.0 x.0)
in_place_unique bytes (Err e) (Ok b) x y = absurd (x.0 y.0)
in_place_unique bytes (Err e) (Err d) x y = ap Err (x.1 ∙ sym y.1)

-- what is said of the place says of the bytes what `AsStore` does
pub in_place_reads : (bytes : Bor (List ℕ)) (r : Result (Bor (List ℕ)) Refusal) → InPlace bytes r → AsStore bytes.now r
in_place_reads bytes (Ok store) x = (x.0, ap (λ (s : Bor (List ℕ)). s.now) x.1)
in_place_reads bytes (Err r) x = x
