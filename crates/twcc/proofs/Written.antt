-- What was written reads back: times, delta bytes as the words that they were made of, chunks as what they stand for,
-- whatever follows.
use Prim.Native.Nat.{ℕ, zero, suc, ◌+◌, ◌-◌, ◌*◌, ◌/◌, ◌%◌, ◌≤◌, ◌<◌}
use mathlib.Core.Path.{◌≡◌, refl, ap, ap₂, ◌∙◌}
use mathlib.Core.List.{List, [], ◌∷◌, ◌++◌, map, append_assoc}
use native.Mathlib.Omega.{arith}
use borrow.Author.Tests.{ltb-false, le-ltb}
use lib.Dec.{ltb}
use lib.IntN.{ℤ, pos, negsuc}
use lib.ListN.{length, take, drop, length-append}
use Rattle.octets.proofs.Logic.{by_test}
use Rattle.twcc.specs.Time.{latest, time_of, time_bits}
use Rattle.twcc.specs.Words.{half, Valid, AllValid, bytes_of, width_of, signed16, word_of, entries, symbol_of, bits16, delta_bytes, deltas}
use Rattle.octets.specs.Bounds.{Below}
use Rattle.twcc.specs.Chunks.{stands_for, chunk_bytes}
use Rattle.twcc.specs.Block.{symbols, after_chunks}
use Rattle.twcc.proofs.Reading.{symbols_zero, symbols-cons, after_zero, after-cons}

-- ---- times

pub time-back : (time : ℕ) → time ≤ latest → time_of (time_bits time) ≡ time
time-back time fits = refl

pub time_bits_lem : (time : ℕ) → time ≤ latest → time_bits time ≤ latest
time_bits_lem time fits = fits

-- ---- words

pub symbol_lt : (w : ℤ) → symbol_of w < 3
unfolding symbol_of
symbol_lt (pos n) =
    by_test (ltb n 256) (λ e. rw e (omega arith))
    (λ e. rw e (by_test (ltb n half) (λ f. rw f (omega arith)) (λ f. rw f (omega arith))))
symbol_lt (negsuc n) = omega arith

pub symbols_lt : (ws : List ℤ) → Below 3 (map symbol_of ws)
symbols_lt [] = tt
symbols_lt (w ∷ ws) = (symbol_lt w, symbols_lt ws)

-- the symbol of a word is its number of delta bytes
pub bytes-symbol : (s : ℕ) → s < 3 → bytes_of s ≡ s
unfolding bytes_of
bytes-symbol zero known = refl
bytes-symbol (suc zero) known = refl
bytes-symbol (suc (suc zero)) known = refl
bytes-symbol (suc (suc (suc s))) known = absurd (omega arith)

pub length_delta : (w : ℤ) → length (delta_bytes w) ≡ symbol_of w
unfolding delta_bytes symbol_of
length_delta (pos n) =
    by_test (ltb n 256) (λ e. rw e refl) (λ e. rw e (by_test (ltb n half) (λ f. rw f refl) (λ f. rw f refl)))
length_delta (negsuc n) = refl

pub length-deltas : (ws : List ℤ) → length (deltas ws) ≡ width_of (map symbol_of ws)
unfolding deltas width_of
length-deltas [] = refl
length-deltas (w ∷ ws) =
    length-append (delta_bytes w) (deltas ws)
    ∙ ap₂ ◌+◌ (length_delta w ∙ rw (bytes-symbol (symbol_of w) (symbol_lt w))) (length-deltas ws)

joined : (bits : ℕ) → 256 * (bits / 256) + bits % 256 ≡ bits
joined bits = omega arith

-- the word itself, and the bytes that follow its own
word_back : (w : ℤ) (rest : List ℕ) → Valid w
    → (word_of (symbol_of w) (delta_bytes w ++ rest) ≡ w) × (drop (bytes_of (symbol_of w)) (delta_bytes w ++ rest) ≡ rest)
unfolding delta_bytes symbol_of bits16 word_of bytes_of signed16
word_back (pos n) rest valid =
    by_test (ltb n 256)
    (λ e. rw e (refl, refl))
    (λ e. rw e
    (by_test (ltb n half)
    (λ f. rw f (rw (joined, f) refl, refl))
    (λ f. rw f (ap pos (omega (arith, ltb-false n half f)), refl))))
word_back (negsuc n) rest valid =
    (rw (joined, le-ltb (65535 - n) half (omega arith)) (ap negsuc (omega arith)), refl)

pub entries-back : (ws : List ℤ) (rest : List ℕ) → AllValid ws → entries (map symbol_of ws) (deltas ws ++ rest) ≡ ws
unfolding entries deltas
entries-back [] rest valid = refl
entries-back (w ∷ ws) rest valid =
    let back = word_back w (deltas ws ++ rest) valid.0 in
    rw append_assoc
    (ap₂ (λ (x : ℤ) (l : List ℤ). x ∷ l) back.0
    (ap (entries (map symbol_of ws)) back.1 ∙ entries-back ws rest valid.1))

-- ---- chunks

-- the chunks are just those that so many statuses take
abbrev pub Takes : List ℕ → ℕ → Type 0
Takes [] left = left ≡ 0
Takes (chunk ∷ chunks) left = (left ≡ 0 → ⊥) × Takes chunks (left - length (stands_for chunk))

-- the symbols of chunks, where `left` statuses are left
unfoldable pub symbols_in : List ℕ → ℕ → List ℕ
symbols_in [] left = []
symbols_in (chunk ∷ chunks) left = take left (stands_for chunk) ++ symbols_in chunks (left - length (stands_for chunk))

pub symbols-back : (chunks rest : List ℕ) (left : ℕ) → Takes chunks left → symbols (chunk_bytes chunks ++ rest) left ≡ symbols_in chunks left
unfolding chunk_bytes symbols_in
symbols-back [] rest left takes = rw takes (symbols_zero rest)
symbols-back (chunk ∷ chunks) rest left takes =
    rw (symbols-cons, joined)
    (ap (λ (l : List ℕ). take left (stands_for chunk) ++ l) (symbols-back chunks rest (left - length (stands_for chunk)) takes.1))

pub after-back : (chunks rest : List ℕ) (left : ℕ) → Takes chunks left → after_chunks (chunk_bytes chunks ++ rest) left ≡ rest
unfolding chunk_bytes
after-back [] rest left takes = rw takes (after_zero rest)
after-back (chunk ∷ chunks) rest left takes =
    after-cons (chunk / 256) (chunk % 256) (chunk_bytes chunks ++ rest) left takes.0
    ∙ rw joined (after-back chunks rest (left - length (stands_for chunk)) takes.1)
