-- Filling a list with status words: so far the words are those of the first symbols.
use Prim.Native.Nat.{ℕ, ◌+◌, ◌≤◌, ◌<◌}
use mathlib.Core.Path.{◌≡◌, refl, sym, ap, ◌∙◌}
use mathlib.Core.List.{List, [], ◌∷◌, ◌++◌}
use native.Mathlib.Nat.{add-zero}
use native.Mathlib.Numerals.{add-one}
use native.Mathlib.Omega.{arith}
use lib.IntN.{ℤ, pos}
use lib.ListN.{length, get_or, take, drop, set, length-drop}
use lib.Seq.{take-add, take-suc, take-suc-set, drop-drop, take_all}
use mir.Syntax.{w32}
use mir.Val.{SFits, to_z, of_z}
use mir.ValLaws.{to_z-of_z}
use Rattle.twcc.specs.Words.{bytes_of, width_of, word_of, entries}
use Rattle.twcc.proofs.Entries.{entries-append, width-append}
use Rattle.twcc_read.specs.Filled.{Filled}

-- the first j places hold the words of the first j symbols, and the deltas go on p bytes on
pub record Listing (bytes ss : List ℕ) (p j : ℕ) (list : List ℤ) : Type 0 where
  pub words : take j list ≡ entries (take j ss) bytes
  pub rest : drop p bytes ≡ drop (width_of (take j ss)) bytes
  pub inside : p ≤ length bytes

pub listing_start : (bytes ss : List ℕ) (p : ℕ) (list : List ℤ) → p ≡ 0 → Listing bytes ss p 0 list
unfolding entries width_of
listing_start bytes ss p list first = rw first (record { words = refl; rest = refl; inside = omega arith })

-- the words of the symbols xs more
listing_more : (xs : List ℕ) {bytes ss : List ℕ} {p p' j k : ℕ} {list new : List ℤ} → Listing bytes ss p j list → take k ss ≡ take j ss ++ xs
    → take k new ≡ take j list ++ entries xs (drop p bytes) → drop p' bytes ≡ drop (width_of xs) (drop p bytes) → p' ≤ length bytes
    → Listing bytes ss p' k new
listing_more xs {bytes} {ss} {p} {p'} {j} {k} {list} {new} l symbols stored eaten inside =
    record {
      words = rw (stored, l.words, l.rest, symbols) (sym (entries-append (take j ss) xs bytes));
      rest =
          eaten
          ∙ ap (λ (ds : List ℕ). drop (width_of xs) ds) l.rest
          ∙ drop-drop (width_of xs) (width_of (take j ss)) bytes
          ∙ rw (symbols, width-append) refl;
      inside = inside;
    }

-- several entries, of a part of the list
pub listing_part : (n : ℕ) {bytes ss xs : List ℕ} {p q p' j k : ℕ} {list new part : List ℤ} → Listing bytes ss p j list → xs ≡ take n (drop j ss)
    → Filled (drop p bytes) xs q part → take k new ≡ take j list ++ part → p' ≡ p + q → k ≡ j + n → Listing bytes ss p' k new
listing_part n {bytes} {ss} {xs} {p} {q} {p'} {j} {k} {list} {new} {part} l next filled written bytes_on places_on =
    let symbols : take k ss ≡ take j ss ++ xs = rw (places_on, next) (take-add j n ss) in
    let eaten : drop p' bytes ≡ drop (width_of xs) (drop p bytes) = rw bytes_on (sym (drop-drop q p bytes) ∙ filled.rest) in
    listing_more xs l symbols (written ∙ rw filled.words refl) eaten (omega (arith, l.inside, filled.inside, length-drop p bytes))

-- one entry
pub listing_one : {bytes ss : List ℕ} {p p' j x : ℕ} {list : List ℤ} {word : ℤ} → Listing bytes ss p j list → j < length ss → j < length list
    → x ≡ get_or ss j 0 → word ≡ word_of x (drop p bytes) → drop p' bytes ≡ drop (bytes_of x) (drop p bytes) → p' ≤ length bytes
    → Listing bytes ss p' (j + 1) (set list j word)
unfolding entries width_of
listing_one {bytes} {ss} {p} {p'} {j} {x} {list} {word} l more room symbol a_word eaten inside =
    listing_more (x ∷ []) l (rw (symbol, add-one) (take-suc ss j 0 more)) (rw (a_word, add-one) (take-suc-set list j (word_of x (drop p bytes)) room)) (rw add-zero eaten) inside

-- and all
pub listing_over : {bytes ss : List ℕ} {p j : ℕ} {list : List ℤ} → Listing bytes ss p j list → length ss ≡ j → length list ≡ j → Filled bytes ss p list
listing_over {bytes} {ss} {p} {j} {list} l all full =
    let symbols : take j ss ≡ ss = take_all j ss (omega (arith, all)) in
    let listed : take j list ≡ list = take_all j list (omega (arith, full)) in
    record { words = sym listed ∙ l.words ∙ rw symbols refl; rest = l.rest ∙ rw symbols refl; inside = l.inside }

-- ---- a store, and a copy place by place

-- a word as the machine stores it
pub stored : {word z : ℤ} → SFits w32 word → word ≡ z → to_z w32 (of_z w32 word) ≡ z
stored {word} fits is = to_z-of_z w32 word fits ∙ is

pub copied_one : (from list : List ℤ) {j : ℕ} {word : ℤ} → take j list ≡ take j from → j < length list → j < length from → word ≡ get_or from j (pos 0)
    → take (j + 1) (set list j word) ≡ take (j + 1) from
copied_one from list {j} {word} copied room there is =
    rw add-one (take-suc-set list j word room ∙ rw (copied, is) (sym (take-suc from j (pos 0) there)))

pub copied_all : (from list : List ℤ) {j : ℕ} → take j list ≡ take j from → length list ≡ j → length from ≡ j → list ≡ from
copied_all from list {j} copied full all = sym (take_all j list (omega (arith, full))) ∙ copied ∙ take_all j from (omega (arith, all))
