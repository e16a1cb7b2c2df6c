-- Laws of entries: their count, entries of appended symbols, and the entry at a place.
use Prim.Native.Nat.{ℕ, zero, suc, ◌+◌, ◌<◌}
use mathlib.Core.Path.{◌≡◌, refl, sym, ap, ◌∙◌}
use mathlib.Core.List.{List, [], ◌∷◌, ◌++◌}
use native.Mathlib.Nat.{not-suc-le-zero, le_of_suc-le-suc, add_assoc, zero-add}
use lib.IntN.{ℤ}
use lib.ListN.{length, get_or, take, drop}
use lib.Seq.{drop-drop}
use Rattle.twcc.specs.Words.{bytes_of, width_of, word_of, entries}

pub length-entries : (ss ds : List ℕ) → length (entries ss ds) ≡ length ss
unfolding entries
length-entries [] ds = refl
length-entries (s ∷ ss) ds = ap suc (length-entries ss (drop (bytes_of s) ds))

pub entries-cons : (s : ℕ) (ss ds : List ℕ) → entries (s ∷ ss) ds ≡ word_of s ds ∷ entries ss (drop (bytes_of s) ds)
unfolding entries
entries-cons s ss ds = refl

-- the delta bytes before a place are those of the symbols before it
pub width-cons : (s : ℕ) (ss ds : List ℕ) → drop (width_of (s ∷ ss)) ds ≡ drop (width_of ss) (drop (bytes_of s) ds)
unfolding width_of
width-cons s ss ds = sym (drop-drop (width_of ss) (bytes_of s) ds)

pub width-append : (xs ys : List ℕ) → width_of (xs ++ ys) ≡ width_of xs + width_of ys
unfolding width_of
width-append [] ys = sym (zero-add (width_of ys))
width-append (x ∷ xs) ys = rw (width-append xs ys) (sym (add_assoc (bytes_of x) (width_of xs) (width_of ys)))

pub entries-append : (xs ys ds : List ℕ) → entries (xs ++ ys) ds ≡ entries xs ds ++ entries ys (drop (width_of xs) ds)
unfolding entries width_of
entries-append [] ys ds = refl
entries-append (x ∷ xs) ys ds =
    ap (λ (l : List ℤ). word_of x ds ∷ l)
    (entries-append xs ys (drop (bytes_of x) ds)
    ∙ ap (λ (l : List ℕ). entries xs (drop (bytes_of x) ds) ++ entries ys l) (drop-drop (width_of xs) (bytes_of x) ds))

-- the entry at a place is its symbol's, with the delta bytes that the symbols before it leave
pub entry_at : (ss ds : List ℕ) (place : ℕ) (none : ℤ) → place < length ss
    → get_or (entries ss ds) place none ≡ word_of (get_or ss place 0) (drop (width_of (take place ss)) ds)
unfolding entries width_of
entry_at [] ds place none inside = absurd (not-suc-le-zero inside)
entry_at (s ∷ ss) ds zero none inside = refl
entry_at (s ∷ ss) ds (suc place) none inside =
    entry_at ss (drop (bytes_of s) ds) place none (le_of_suc-le-suc inside)
    ∙ ap (word_of (get_or ss place 0)) (drop-drop (width_of (take place ss)) (bytes_of s) ds)
