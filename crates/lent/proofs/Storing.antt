-- A loop that stores elements one by one: what is left of them, stored from here, makes the whole.
use Prim.Native.Nat.{ℕ, suc, ◌+◌, ◌≤◌, ◌<◌}
use mathlib.Core.Path.{◌≡◌, refl, ap, ◌∙◌}
use mathlib.Core.List.{List, ◌∷◌}
use native.Mathlib.Nat.{add-zero}
use native.Mathlib.Numerals.{add-one}
use native.Mathlib.Omega.{arith}
use lib.ListN.{length, get_or, drop, set, length-set, drop_of_length-le}
use lib.Seq.{sets, drop-cons}

-- j of the n elements are stored
pub record Storing {A : Type 0} (old : List A) (at : ℕ) (elements : List A) (n : ℕ) (new : List A) (j : ℕ) : Type 0 where
  pub all : length elements ≡ n
  pub within : j ≤ n
  pub same : length new ≡ length old
  pub left : sets new (at + j) (drop j elements) ≡ sets old at elements

pub storing_start : {A : Type 0} (old : List A) (at : ℕ) (elements : List A) (n : ℕ) → length elements ≡ n → Storing old at elements n old 0
storing_start old at elements n all = record { all = all; within = omega arith; same = refl; left = ap (λ (k : ℕ). sets old k elements) (add-zero at) }

pub storing_turn : {A : Type 0} {old elements new : List A} {at n j : ℕ} (element none : A) → element ≡ get_or elements j none → j < n
    → Storing old at elements n new j → Storing old at elements n (set new (at + j) element) (j + 1)
storing_turn {A} {old} {elements} {new} {at} {n} {j} element none is more s =
    let place : at + (j + 1) ≡ suc (at + j) = omega arith in
    let inside : j < length elements = omega arith in
    let front : drop j elements ≡ element ∷ drop (suc j) elements = rw is (drop-cons elements j none inside) in
    record {
      all = s.all;
      within = omega arith;
      same = length-set new (at + j) element ∙ s.same;
      left = rw (place, add-one j) (rw front at s.left);
    }

pub storing_over : {A : Type 0} {old elements new : List A} {at n j : ℕ} → n ≤ j → Storing old at elements n new j → new ≡ sets old at elements
storing_over {A} {old} {elements} {new} {at} {n} {j} over s =
    let past : length elements ≤ j = omega arith in
    rw (drop_of_length-le elements past) at s.left
