-- Laws of digits, and of what a chunk stands for: its size, the symbol at a place, and that a chunk stands for the symbols that it
-- was made of.
use Prim.Native.Nat.{ℕ, zero, suc, ◌+◌, ◌*◌, ◌-◌, ◌/◌, ◌%◌, ◌^◌, ◌≤◌, ◌<◌}
use mathlib.Core.Path.{◌≡◌, refl, sym, ap, ap₂, ◌∙◌}
use mathlib.Core.List.{List, [], ◌∷◌}
use native.Mathlib.Omega.{arith}
use native.Mathlib.Nat.{one-le-pow, pow-succ', mul_assoc, mul-add-div_right, mul-add-mod_self_right, mod-eq_of_lt, zero-div, zero-mod, not-suc-le-zero, le_of_suc-le-suc}
use borrow.Author.Tests.{lt-ltb, le-ltb}
use lib.ListN.{length, get_or, replicate, length-replicate, get_or-replicate}
use lib.Arith.{digits_lt, digits_div, digits_mod}
use Rattle.octets.specs.Bounds.{Below}
use Rattle.twcc.specs.Chunks.{pack, unpack, runs_end, ones_end, run_weight, stands_for, Run, One, Two, chunk_word}

-- ---- laws of digits

-- exactly n symbols: the first ones, and 0 for those that lack
unfoldable pub pad_to : ℕ → List ℕ → List ℕ
pad_to zero ss = []
pad_to (suc n) [] = 0 ∷ pad_to n []
pad_to (suc n) (s ∷ ss) = s ∷ pad_to n ss

pub length-unpack : (base n number : ℕ) → length (unpack base n number) ≡ n
unfolding unpack
length-unpack base zero number = refl
length-unpack base (suc n) number = ap suc (length-unpack base n number)

pub unpack-at : (base n number j : ℕ) → j < n → get_or (unpack base n number) j 0 ≡ number / base ^ (n - suc j) % base
unfolding unpack
unpack-at base zero number j inside = absurd (not-suc-le-zero inside)
unpack-at base (suc n) number zero inside = ap (λ (m : ℕ). number / base ^ m % base) (omega arith)
unpack-at base (suc n) number (suc j) inside =
    unpack-at base n number j (le_of_suc-le-suc inside) ∙ ap (λ (m : ℕ). number / base ^ m % base) (omega arith)

pub length-pad_to : (n : ℕ) (ss : List ℕ) → length (pad_to n ss) ≡ n
unfolding pad_to
length-pad_to zero ss = refl
length-pad_to (suc n) [] = ap suc (length-pad_to n [])
length-pad_to (suc n) (s ∷ ss) = ap suc (length-pad_to n ss)

module _ (base : ℕ) (some : zero < base) where
  pub pack_lt : (n : ℕ) (ss : List ℕ) → Below base ss → pack base n ss < base ^ n
  unfolding pack
  pack_lt zero ss below = one-le-pow zero base some
  pack_lt (suc n) [] below = one-le-pow (suc n) base some
  pack_lt (suc n) (s ∷ ss) below = rw pow-succ' (digits_lt below.0 (pack_lt n ss below.1))

  -- what stands above the n lowest digits plays no part
  pub unpack_high : (n high number : ℕ) → unpack base n (high * base ^ n + number) ≡ unpack base n number
  unfolding unpack
  unpack_high zero high number = refl
  unpack_high (suc n) high number =
      let one_up : high * base ^ suc n ≡ high * base * base ^ n = ap (λ (m : ℕ). high * m) (pow-succ' base n) ∙ sym (mul_assoc high base (base ^ n)) in
      rw one_up
      (ap₂ ◌∷◌
      (ap (λ (m : ℕ). m % base) (mul-add-div_right (one-le-pow n base some) (high * base) number)
      ∙ mul-add-mod_self_right high base (number / base ^ n))
      (unpack_high n (high * base) number))

  unpack_zero : (n : ℕ) → unpack base n 0 ≡ pad_to n []
  unfolding unpack pad_to
  unpack_zero zero = refl
  unpack_zero (suc n) = ap₂ ◌∷◌ (rw (zero-div, zero-mod)) (unpack_zero n)

  -- the packing law, for both widths
  pub unpack-pack : (n : ℕ) (ss : List ℕ) → Below base ss → unpack base n (pack base n ss) ≡ pad_to n ss
  unfolding unpack pack pad_to
  unpack-pack zero ss below = refl
  unpack-pack (suc n) [] below = unpack_zero (suc n)
  unpack-pack (suc n) (s ∷ ss) below =
      ap₂ ◌∷◌ (ap (λ (m : ℕ). m % base) (digits_div s (pack_lt n ss below.1)) ∙ mod-eq_of_lt below.0)
      (unpack_high n s (pack base n ss) ∙ unpack-pack n ss below.1)

-- ---- laws of chunks, by their kind

four_power : (k : ℕ) → 4 ^ k ≡ 2 ^ (2 * k)
four_power zero = refl
four_power (suc k) =
    let bits : 2 * suc k ≡ suc (suc (2 * k)) = omega arith in
    rw (bits, pow-succ' 4 k, pow-succ' 2 (suc (2 * k)), pow-succ' 2 (2 * k)) (omega (arith, four_power k))

-- the symbol at a place of a vector, by its bits
pub unpack_one : (chunk j : ℕ) → j < 14 → get_or (unpack 2 14 chunk) j 0 ≡ chunk / 2 ^ (13 - j) % 2
unpack_one chunk j inside = unpack-at 2 14 chunk j inside ∙ ap (λ (m : ℕ). chunk / 2 ^ m % 2) (omega arith)

pub unpack-two : (chunk j : ℕ) → j < 7 → get_or (unpack 4 7 chunk) j 0 ≡ chunk / 2 ^ (12 - 2 * j) % 4
unpack-two chunk j inside =
    let bits : 2 * (7 - suc j) ≡ 12 - 2 * j = omega arith in
    unpack-at 4 7 chunk j inside ∙ ap (λ (m : ℕ). chunk / m % 4) (four_power (7 - suc j) ∙ ap (λ (m : ℕ). 2 ^ m) bits)

module _ (chunk : ℕ) where
  pub stands-run : chunk < runs_end → stands_for chunk ≡ replicate (chunk % run_weight) (chunk / run_weight)
  unfolding stands_for
  stands-run run = simp (lt-ltb _ _ run)

  pub stands_one : runs_end ≤ chunk → chunk < ones_end → stands_for chunk ≡ unpack 2 14 chunk
  unfolding stands_for
  stands_one vector one = simp (le-ltb _ _ vector, lt-ltb _ _ one)

  pub stands-two : ones_end ≤ chunk → stands_for chunk ≡ unpack 4 7 chunk
  unfolding stands_for
  stands-two two = let vector : runs_end ≤ chunk = omega arith in simp (le-ltb _ _ vector, le-ltb _ _ two)

  pub size-run : chunk < runs_end → length (stands_for chunk) ≡ chunk % run_weight
  size-run run = rw (stands-run run) (length-replicate (chunk % run_weight) (chunk / run_weight))

  pub size-one : runs_end ≤ chunk → chunk < ones_end → length (stands_for chunk) ≡ 14
  size-one vector one = rw (stands_one vector one) (length-unpack 2 14 chunk)

  pub size-two : ones_end ≤ chunk → length (stands_for chunk) ≡ 7
  size-two two = rw (stands-two two) (length-unpack 4 7 chunk)

  pub run_at : (j : ℕ) → chunk < runs_end → j < chunk % run_weight → get_or (stands_for chunk) j 0 ≡ chunk / run_weight
  run_at j run inside = rw (stands-run run) (get_or-replicate (chunk % run_weight) j (chunk / run_weight) 0 inside)

  pub one_at : (j : ℕ) → runs_end ≤ chunk → chunk < ones_end → j < 14 → get_or (stands_for chunk) j 0 ≡ chunk / 2 ^ (13 - j) % 2
  one_at j vector one inside = rw (stands_one vector one) (unpack_one chunk j inside)

  pub two_at : (j : ℕ) → ones_end ≤ chunk → j < 7 → get_or (stands_for chunk) j 0 ≡ chunk / 2 ^ (12 - 2 * j) % 4
  two_at j two inside = rw (stands-two two) (unpack-two chunk j inside)

-- what `size` and `symbol_at` answer, by the kinds
pub ruleset by_kind = (size-run, size-one, size-two, run_at, one_at, two_at)

-- a chunk stands for the symbols that it was made of
pub run-back : (symbol count : ℕ) → symbol < 4 → count < run_weight → stands_for (chunk_word (Run symbol count)) ≡ replicate count symbol
unfolding chunk_word
run-back symbol count known few =
    stands-run (symbol * run_weight + count) (omega arith) ∙ rw (digits_div symbol few, digits_mod symbol few)

pub one-back : (ss : List ℕ) → Below 2 ss → stands_for (chunk_word (One ss)) ≡ pad_to 14 ss
unfolding chunk_word
one-back ss below =
    let small = pack_lt 2 (omega arith) 14 ss below in
    stands_one (runs_end + pack 2 14 ss) (omega arith) (omega arith)
    ∙ unpack_high 2 (omega arith) 14 2 (pack 2 14 ss)
    ∙ unpack-pack 2 (omega arith) 14 ss below

pub two_back : (ss : List ℕ) → Below 4 ss → stands_for (chunk_word (Two ss)) ≡ pad_to 7 ss
unfolding chunk_word
two_back ss below =
    stands-two (ones_end + pack 4 7 ss) (omega arith)
    ∙ unpack_high 4 (omega arith) 7 3 (pack 4 7 ss)
    ∙ unpack-pack 4 (omega arith) 7 ss below
