-- Counts at the front of a list, and what the code's counts come to.
use Prim.Native.Nat.{ℕ, zero, suc, ◌+◌, ◌-◌, ◌≤◌, ◌<◌, min}
use mathlib.Core.Path.{◌≡◌, refl, sym, ap, ◌∙◌}
use mathlib.Core.List.{List, [], ◌∷◌, ◌++◌, map}
use mathlib.Core.Bool.{Bool, true, false}
use native.Mathlib.Omega.{arith}
use borrow.Author.Tests.{ltb-true, ltb-false}
use lib.IntN.{ℤ, pos}
use lib.Dec.{ltb}
use lib.ListN.{length, take, drop, get_or, length-append, length-drop, get_or-append}
use lib.Seq.{drop-cons, drop-drop, drop-append_seam, get_or-drop}
use Rattle.std.specs.List.{between}
use Rattle.std.proofs.lemmas.Slice.{between_to_end}
use Rattle.octets.proofs.Logic.{by_test}
use Rattle.twcc.specs.Words.{symbol_of}
use Rattle.twcc_plan.specs.Front.{front, Yes, Passes}

pub front_le : {A : Type 0} (p : A → Bool) (xs : List A) → front p xs ≤ length xs
unfolding front
front_le p [] = omega arith
front_le p (x ∷ xs) = by_test (p x) (λ e. rw e (omega (arith, front_le p xs))) (λ e. rw e (omega arith))

-- from a place on, by what stands there
module _ {A : Type 0} (p : A → Bool) (xs : List A) (at : ℕ) where
  pub front_yes : (d : A) → at < length xs → p (get_or xs at d) ≡ true → front p (drop at xs) ≡ suc (front p (drop (suc at) xs))
  unfolding front
  front_yes d inside passes = rw (drop-cons xs at d inside, front, passes)

  pub front-no : (d : A) → at < length xs → p (get_or xs at d) ≡ false → front p (drop at xs) ≡ 0
  unfolding front
  front-no d inside fails = rw (drop-cons xs at d inside, front, fails)

pub front_skip : {A : Type 0} (p : A → Bool) (n : ℕ) (xs : List A) → n ≤ front p xs → front p xs ≡ n + front p (drop n xs)
unfolding front
front_skip p zero xs run = omega arith
front_skip p (suc n) [] run = absurd (omega arith)
front_skip p (suc n) (x ∷ xs) run =
    by_test (p x)
    (λ e. let all : suc n ≤ suc (front p xs) = rw e at run in rw e (omega (arith, front_skip p n xs (omega arith))))
    (λ e. absurd (let none : suc n ≤ 0 = rw e at run in omega arith))

pub front_mono : {A : Type 0} (p q : A → Bool) → ((x : A) → p x ≡ true → q x ≡ true) → (xs : List A) → front p xs ≤ front q xs
unfolding front
front_mono p q pass [] = omega arith
front_mono p q pass (x ∷ xs) = by_test (p x) (λ e. rw (e, pass x e) (omega (arith, front_mono p q pass xs))) (λ e. rw e (omega arith))

-- what stands in the front passes
pub front_passes : {A : Type 0} (p : A → Bool) (xs : List A) (n : ℕ) (d : A) → n < front p xs → p (get_or xs n d) ≡ true
front_passes p xs n d inside =
    by_test (p (get_or xs n d))
    (λ e. e)
    (λ e. absurd (omega (arith, front_le p xs, front_skip p n xs (omega arith), front-no p xs n d (omega (arith, front_le p xs)) e)))

-- what stands behind it does not
pub front_stops : {A : Type 0} (p : A → Bool) (xs : List A) (n : ℕ) (d : A) → front p xs ≡ n → n < length xs → p (get_or xs n d) ≡ false
front_stops p xs n d whole inside =
    by_test (p (get_or xs n d)) (λ e. absurd (omega (arith, whole, front_skip p n xs (omega arith), front_yes p xs n d inside e))) (λ e. e)

-- ---- the front of a part

pub front_take : {A : Type 0} (p : A → Bool) (n : ℕ) (xs : List A) → front p (take n xs) ≡ min n (front p xs)
unfolding front
front_take p zero xs = omega arith
front_take p (suc n) [] = omega arith
front_take p (suc n) (x ∷ xs) = by_test (p x) (λ e. rw e (omega (arith, front_take p n xs))) (λ e. rw e (omega arith))

pub front_part : {A : Type 0} (p : A → Bool) (xs : List A) (from to : ℕ) → from ≤ front p xs → from ≤ to → from + front p (take (to - from) (drop from xs)) ≡ min to (front p xs)
front_part p xs from to known before = omega (arith, front_take p (to - from) (drop from xs), front_skip p from xs known)

pub front-map : {A B : Type 0} (p : B → Bool) (f : A → B) (xs : List A) → front (λ (x : A). p (f x)) xs ≡ front p (map f xs)
unfolding front
front-map p f [] = refl
front-map p f (x ∷ xs) = by_test (p (f x)) (λ e. rw e (ap suc (front-map p f xs))) (λ e. rw e)

-- ---- what the code counts

-- a test of the code that answers as p does
pub front_is : (p : ℤ → Bool) (says : ℤ → Bool → Type 0) → ((w : ℤ) (r : Bool) → says w r → r ≡ p w) → (list : List ℤ) (n : ℕ) → Passes says list n → n ≡ front p list
unfolding front
front_is p says means [] n passes = omega (arith, passes.within)
front_is p says means (w ∷ list) zero passes = rw (sym (means w false (passes.ends (omega arith))))
front_is p says means (w ∷ list) (suc n) passes =
    let rest = front_is p says means list n (record { within = omega (arith, passes.within); before = λ k more. passes.before (suc k) (omega arith); ends = λ more. passes.ends (omega arith) }) in
    rw (sym (means w true (passes.before 0 (omega arith)))) (ap suc rest)

-- the symbols of a part, and of the first words
module _ (p : ℕ → Bool) (says : ℤ → Bool → Type 0) (means : (w : ℤ) (r : Bool) → says w r → r ≡ p (symbol_of w)) (list : List ℤ) where
  abbrev own : ℤ → Bool
  own w = p (symbol_of w)

  pub front_between : (from to n : ℕ) → from ≤ front p (map symbol_of list) → from ≤ to → Passes says (between from to list) n → from + n ≡ min to (front p (map symbol_of list))
  front_between from to n known before passes =
      let same : front own list ≡ front p (map symbol_of list) = front-map p symbol_of list in
      omega (arith, same, front_is own says means (between from to list) n passes, front_part own list from to (omega (arith, same)) before)

  pub front_first : (to n : ℕ) → Passes says (take to list) n → n ≡ min to (front p (map symbol_of list))
  front_first to n passes =
      let same : front own list ≡ front p (map symbol_of list) = front-map p symbol_of list in
      omega (arith, same, front_is own says means (take to list) n passes, front_take own to list)

-- what is counted behind n words that pass
module _ (says : ℤ → Bool → Type 0) (list : List ℤ) (n : ℕ) (before : Yes says list n) where
  yes_more : (m : ℕ) → Yes says (drop n list) m → Yes says list (n + m)
  yes_more m more k inside =
      by_test (ltb k n)
      (λ e. before k (ltb-true k n e))
      (λ e.
      let past : n ≤ k = ltb-false k n e in
      let place : n + (k - n) ≡ k = omega arith in
      let there = get_or-drop n list (k - n) (pos 0) ∙ ap (λ (j : ℕ). get_or list j (pos 0)) place in
      rw there at (more (k - n) (omega arith)))

  pub passes_on : (m : ℕ) → n ≤ length list → Passes says (between n (length list) list) m → Passes says list (n + m)
  passes_on m inside part =
      let rest : Passes says (drop n list) m = rw (between_to_end list n (length list) (omega arith)) at part in
      record {
        within = omega (arith, length-drop n list, rest.within);
        before = yes_more m rest.before;
        ends = λ more. rw (get_or-drop n list m (pos 0)) at (rest.ends (omega (arith, length-drop n list)));
      }

-- whole blocks of n words pass, and these are left
pub record Blocks (says : ℤ → Bool → Type 0) (list : List ℤ) (n : ℕ) (left : List ℤ) : Type 0 where
  pub within : n ≤ length list
  pub rest : left ≡ drop n list
  pub yes : Yes says list n

pub blocks_turn : {says : ℤ → Bool → Type 0} {list : List ℤ} {n : ℕ} {left : List ℤ} → Blocks says list n left → (block next : List ℤ) (size : ℕ) → left ≡ block ++ next → length block ≡ size
    → Yes says block (length block) → Blocks says list (n + size) next
blocks_turn {says} {list} {n} b block next size parts is all =
    let opened : drop n list ≡ block ++ next = sym b.rest ∙ parts in
    let sizes = ap length opened ∙ length-append block next in
    let yes = yes_more says list n b.yes (length block) (λ k inside. rw (opened, get_or-append block next (pos 0) k inside) (all k inside)) in
    record {
      within = omega (arith, sizes, length-drop n list);
      rest = sym (drop-append_seam block next) ∙ ap (drop (length block)) (sym opened) ∙ drop-drop (length block) n list ∙ ap (λ (m : ℕ). drop (n + m) list) is;
      yes = rw (← is) yes;
    }
