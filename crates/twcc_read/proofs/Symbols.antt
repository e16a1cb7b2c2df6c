-- Symbols one by one: those of so many bits whose bytes are there, and those that the delta cursor reads.
use Prim.Native.Nat.{ℕ, zero, suc, ◌+◌, ◌-◌, ◌*◌, ◌/◌, ◌%◌, ◌^◌, ◌≤◌, ◌<◌, min}
use mathlib.Core.Path.{◌≡◌, sym, ap, ◌∙◌}
use mathlib.Core.List.{List, [], ◌∷◌}
use native.Mathlib.Omega.{arith}
use lib.IntN.{ℤ}
use lib.ListN.{length, get_or, drop, set, length-drop}
use lib.Seq.{drop-drop}
use mir.ValLaws.{to_z-of_z}
use Rattle.std.proofs.lemmas.Bool.Decides.{nat_tests}
use Rattle.std.proofs.lemmas.List.{get_or-drop}
use Rattle.twcc_cursors.specs.Cursors.{next_delta}
use Rattle.twcc_cursors.specs.declared.Delta.{Delta}
use Rattle.twcc_cursors.specs.declared.Deltas.{Deltas}
use Rattle.twcc_cursors.proofs.Steps.{bytes_by, word_by, drop_clamp}
use Rattle.twcc.specs.Words.{bytes_of, word_of}
use Rattle.twcc.specs.Chunks.{unpack}
use Rattle.twcc.proofs.Stands.{length-unpack, unpack_one, unpack-two}
use Rattle.twcc_read.proofs.Filling.{Listing, listing_one}

-- what the words of single symbols need
pub ruleset words = (bytes_by, word_by, to_z-of_z, nat_tests)

-- a symbol of so many bits eats as many bytes at most
symbol_bytes : (bits x : ℕ) → bits ≤ 2 → x < 2 ^ bits → bytes_of x ≤ bits
symbol_bytes zero x few small = grind (arith, bytes_by, nat_tests)
symbol_bytes (suc zero) x few small = grind (arith, bytes_by, nat_tests)
symbol_bytes (suc (suc zero)) x few small = grind (arith, bytes_by, nat_tests)
symbol_bytes (suc (suc (suc bits))) x few small = absurd (omega arith)

-- and has its word by the first of them and the last
word_at : (bits x p : ℕ) (bytes : List ℕ) → 0 < bits → bits ≤ 2 → x < 2 ^ bits → p + bits ≤ length bytes
    → word_of x (get_or bytes p 0 ∷ get_or bytes (p + bits - 1) 0 ∷ []) ≡ word_of x (drop p bytes)
word_at zero x p bytes some few small there = absurd (omega arith)
word_at (suc zero) x p bytes some few small there = grind (arith, word_by, length-drop, get_or-drop, nat_tests)
word_at (suc (suc zero)) x p bytes some few small there = grind (arith, word_by, length-drop, get_or-drop, nat_tests)
word_at (suc (suc (suc bits))) x p bytes some few small there = absurd (omega arith)

-- one entry whose bytes are there
pub listing_there : (bits : ℕ) {bytes ss : List ℕ} {p p' j x : ℕ} {list : List ℤ} {word : ℤ} → Listing bytes ss p j list → 0 < bits → bits ≤ 2 → x < 2 ^ bits
    → p + bits ≤ length bytes → j < length ss → j < length list → x ≡ get_or ss j 0
    → word ≡ word_of x (get_or bytes p 0 ∷ get_or bytes (p + bits - 1) 0 ∷ []) → p' ≡ p + bytes_of x
    → Listing bytes ss p' (j + 1) (set list j word)
listing_there bits {bytes} {ss} {p} {p'} {j} {x} {list} {word} l some few small there more room symbol a_word eaten =
    listing_one l more room symbol (a_word ∙ word_at bits x p bytes some few small there)
    (rw eaten (sym (drop-drop (bytes_of x) p bytes)))
    (let e = symbol_bytes bits x few small in omega arith)

-- one entry by the delta cursor
pub listing_next : {bytes ss : List ℕ} {d : Deltas} {j x : ℕ} {list : List ℤ} {word : ℤ} (delta : Delta) → Listing bytes ss d.at j list
    → j < length ss → j < length list → x ≡ get_or ss j 0 → delta ≡ next_delta bytes d x → word ≡ delta.word
    → Listing bytes ss delta.next.at (j + 1) (set list j word)
unfolding next_delta
listing_next {bytes} {ss} {d} {j} {x} {list} {word} delta l more room symbol is a_word =
    let at : delta.next.at ≡ d.at + min (bytes_of x) (length bytes - d.at) = ap (λ (e : Delta). e.next.at) is in
    listing_one l more room symbol (a_word ∙ ap (λ (e : Delta). e.word) is) (rw at (drop_clamp bytes d.at (bytes_of x))) (omega (arith, l.inside))

-- one symbol of a vector whose symbols have so many bits, by the machine's shifts; at most as many bytes go with it
abbrev symbol_bits : ℕ → ℕ → ℕ → ℕ
symbol_bits bits chunk j = chunk / 2 ^ (14 - bits * (j + 1)) % (1 * 2 ^ bits % 18446744073709551616)

record Symbol (bits chunk j : ℕ) : Type 0 where
  is : symbol_bits bits chunk j ≡ get_or (unpack (2 ^ bits) (14 / bits) chunk) j 0
  small : symbol_bits bits chunk j < 2 ^ bits
  place : bits * (j + 1) ≤ 14
  next : bits * (j + 1) ≡ bits * j + bits

symbol : (bits chunk j : ℕ) → 0 < bits → bits ≤ 2 → j < 14 / bits → Symbol bits chunk j
symbol zero chunk j some few more = absurd (omega arith)
symbol (suc zero) chunk j some few more =
    let shift : 14 - 1 * (j + 1) ≡ 13 - j = omega arith in
    record {
      is = ap (λ (n : ℕ). chunk / 2 ^ n % 2) shift ∙ sym (unpack_one chunk j more);
      small = omega arith;
      place = omega arith;
      next = omega arith;
    }
symbol (suc (suc zero)) chunk j some few more =
    let shift : 14 - 2 * (j + 1) ≡ 12 - 2 * j = omega arith in
    record {
      is = ap (λ (n : ℕ). chunk / 2 ^ n % 4) shift ∙ sym (unpack-two chunk j more);
      small = omega arith;
      place = omega arith;
      next = omega arith;
    }
symbol (suc (suc (suc bits))) chunk j some few more = absurd (omega arith)

pub record Vector (bytes : List ℕ) (bits chunk p j : ℕ) (list : List ℤ) : Type 0 where
  pub listing : Listing bytes (unpack (2 ^ bits) (14 / bits) chunk) p j list
  pub few : p ≤ bits * j

pub listing_symbol : (bits chunk : ℕ) {bytes : List ℕ} {p j eaten : ℕ} {list : List ℤ} {word : ℤ} → Vector bytes bits chunk p j list → 0 < bits → bits ≤ 2
    → 14 ≤ length bytes → j < 14 / bits → length list ≡ 14 / bits
    → word ≡ word_of (symbol_bits bits chunk j) (get_or bytes p 0 ∷ get_or bytes (p + bits - 1) 0 ∷ [])
    → eaten ≡ bytes_of (symbol_bits bits chunk j) → Vector bytes bits chunk (p + eaten) (j + 1) (set list j word)
listing_symbol bits chunk {bytes} {p} {j} {eaten} {list} {word} v some few there more all a_word is =
    let s = symbol bits chunk j some few more in
    let e = symbol_bytes bits (symbol_bits bits chunk j) few s.small in
    record {
      listing = listing_there bits v.listing some few s.small (omega (arith, v.few, s.place, s.next)) (omega (arith, length-unpack (2 ^ bits) (14 / bits) chunk)) (omega arith) s.is a_word (ap (λ (n : ℕ). p + n) is);
      few = omega (arith, v.few, s.next, e, is);
    }
