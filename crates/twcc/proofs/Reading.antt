-- Laws of reading a block: chunk by chunk, the count listed, and the entry at a place.
use Prim.Native.Nat.{ℕ, zero, suc, ◌+◌, ◌-◌, ◌*◌, ◌≤◌, ◌<◌}
use mathlib.Core.Path.{◌≡◌, refl, sym, ap, ◌∙◌}
use mathlib.Core.List.{List, [], ◌∷◌, ◌++◌}
use native.Mathlib.Nat.{not-suc-le-zero, le_of_suc-le-suc, zero-sub}
use native.Mathlib.Decide.{dec_le}
use native.Mathlib.Omega.{arith}
use lib.IntN.{ℤ}
use lib.ListN.{length, get_or, take, drop, length-append, length-take, length-drop, drop_of_length-le}
use lib.Seq.{drop-drop}
use Rattle.twcc.specs.Words.{width_of, word_of}
use Rattle.twcc.specs.Chunks.{stands_for}
use Rattle.twcc.specs.Block.{status_count, symbols, after_chunks, block_symbols, block_deltas, listed, deltas_start}
use Rattle.twcc.proofs.Entries.{length-entries, entry_at}

-- no statuses left: no symbol more, and the rest is deltas
pub symbols_zero : (bytes : List ℕ) → symbols bytes 0 ≡ []
unfolding symbols
symbols_zero [] = refl
symbols_zero (a ∷ []) = refl
symbols_zero (a ∷ b ∷ bytes) = rw zero-sub (symbols_zero bytes)

pub after_zero : (bytes : List ℕ) → after_chunks bytes 0 ≡ bytes
unfolding after_chunks
after_zero [] = refl
after_zero (a ∷ []) = refl
after_zero (a ∷ b ∷ bytes) = refl

-- no whole chunk left: the same
pub symbols-short : (bytes : List ℕ) (left : ℕ) → length bytes < 2 → symbols bytes left ≡ []
unfolding symbols
symbols-short [] left short = refl
symbols-short (a ∷ []) left short = refl
symbols-short (a ∷ b ∷ bytes) left short = absurd (not-suc-le-zero (le_of_suc-le-suc (le_of_suc-le-suc short)))

pub after-short : (bytes : List ℕ) (left : ℕ) → length bytes < 2 → after_chunks bytes left ≡ bytes
unfolding after_chunks
after-short [] left short = refl
after-short (a ∷ []) left short = refl
after-short (a ∷ b ∷ bytes) left short = absurd (not-suc-le-zero (le_of_suc-le-suc (le_of_suc-le-suc short)))

-- a chunk, then the rest in the same manner
pub symbols-cons : (a b : ℕ) (bytes : List ℕ) (left : ℕ)
    → symbols (a ∷ b ∷ bytes) left ≡ take left (stands_for (256 * a + b)) ++ symbols bytes (left - length (stands_for (256 * a + b)))
unfolding symbols
symbols-cons a b bytes left = refl

pub after-cons : (a b : ℕ) (bytes : List ℕ) (left : ℕ) → (left ≡ 0 → ⊥)
    → after_chunks (a ∷ b ∷ bytes) left ≡ after_chunks bytes (left - length (stands_for (256 * a + b)))
unfolding after_chunks
after-cons a b bytes zero some = absurd (some refl)
after-cons a b bytes (suc left) some = refl

-- never more entries than statuses
pub symbols-few : (bytes : List ℕ) (left : ℕ) → length (symbols bytes left) ≤ left
unfolding symbols
symbols-few [] left = omega arith
symbols-few (a ∷ []) left = omega arith
symbols-few (a ∷ b ∷ bytes) left =
    let rest = symbols-few bytes (left - length (stands_for (256 * a + b))) in
    simp (length-append, length-take) (omega (arith, rest))

-- the count listed
pub listed-count : (block : List ℕ) → length (listed block) ≡ length (block_symbols block)
unfolding listed
listed-count block = length-entries (block_symbols block) (block_deltas block)

pub listed-few : (block : List ℕ) → length (listed block) ≤ status_count block
unfolding block_symbols
listed-few block = rw listed-count (symbols-few (drop 8 block) (status_count block))

-- the entry at a place of a block
pub listed_at : (block : List ℕ) (place : ℕ) (none : ℤ) → place < length (listed block)
    → get_or (listed block) place none
    ≡ word_of (get_or (block_symbols block) place 0) (drop (width_of (take place (block_symbols block))) (block_deltas block))
unfolding listed
listed_at block place none inside =
    entry_at (block_symbols block) (block_deltas block) place none (omega (arith, length-entries (block_symbols block) (block_deltas block)))

-- the bytes after the chunks are the last ones
after_last : (bytes : List ℕ) (left : ℕ)
    → (length (after_chunks bytes left) ≤ length bytes) × (drop (length bytes - length (after_chunks bytes left)) bytes ≡ after_chunks bytes left)
unfolding after_chunks
after_last [] left = (omega arith, refl)
after_last (a ∷ []) left = (omega arith, refl)
after_last (a ∷ b ∷ bytes) zero =
    let whole : suc (suc (length bytes)) - suc (suc (length bytes)) ≡ 0 = omega arith in
    (omega arith, ap (λ (n : ℕ). drop n (a ∷ b ∷ bytes)) whole)
after_last (a ∷ b ∷ bytes) (suc left) =
    let rest = suc left - length (stands_for (256 * a + b)) in
    let last = after_last bytes rest in
    let n = length (after_chunks bytes rest) in
    let further : suc (suc (length bytes)) - n ≡ suc (suc (length bytes - n)) = omega (arith, last.0) in
    (omega (arith, last.0), ap (λ (m : ℕ). drop m (a ∷ b ∷ bytes)) further ∙ last.1)

pub deltas-there : (block : List ℕ) → drop (deltas_start block) block ≡ block_deltas block
unfolding block_deltas
deltas-there block = go (dec_le 8 (length block))
  where
    count : ℕ
    count = status_count block

    rest : List ℕ
    rest = drop 8 block

    go : Dec (8 ≤ length block) → drop (length block - length (after_chunks rest count)) block ≡ after_chunks rest count
    go (yes long) =
        let last = after_last rest count in
        let place : length block - length (after_chunks rest count) ≡ 8 + (length rest - length (after_chunks rest count)) =
        omega (arith, last.0, length-drop 8 block) in
        ap (λ (n : ℕ). drop n block) place ∙ sym (drop-drop (length rest - length (after_chunks rest count)) 8 block) ∙ last.1
    go (no short) =
        let none : rest ≡ [] = drop_of_length-le block {i = 8} (omega arith) in
        let nothing : after_chunks rest count ≡ [] = rw none (after-short [] count (omega arith)) in
        rw nothing (drop_of_length-le block {i = length block - 0} (omega arith))
