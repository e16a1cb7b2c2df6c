-- Delta bytes at the front of the memory: those of one word, and those of words one after the other; and those stored exactly.
use Prim.Native.Nat.{ℕ, zero, suc, ◌+◌, ◌-◌, ◌*◌, ◌/◌, ◌%◌, ◌≤◌, ◌<◌}
use mathlib.Core.Path.{◌≡◌, refl, sym, ap, ap₂, ◌∙◌}
use mathlib.Core.List.{List, [], ◌∷◌, ◌++◌, map, append_assoc, append-nil}
use mathlib.Core.Bool.{cond}
use native.Mathlib.Nat.{zero-add, mul-suc, mul-le-mul_left}
use native.Mathlib.Numerals.{add-one}
use native.Mathlib.Omega.{arith}
use borrow.Author.Tests.{eq-eqb, ne_eqb}
use lib.Dec.{eqb}
use lib.IntN.{ℤ, pos}
use lib.ListN.{length, get_or, take, drop, set, replicate, length-append, length-take, length-drop, length-map, take-append-drop}
use lib.Seq.{sets, take_all, take-take, take-suc, take-append_seam, take-append-add}
use borrow.Rule.Slice.PartMut.{put_mid}
use Rattle.std.specs.List.{between}
use Rattle.std.proofs.lemmas.List.{take-append-le}
use Rattle.std.proofs.lemmas.Slice.{between_to_end}
use Rattle.octets.proofs.Logic.{nothing}
use Rattle.octets.specs.Big.{be_bytes}
use Rattle.octets.specs.Bounds.{Below}
use Rattle.twcc.specs.Words.{AllValid, symbol_of, bits16, delta_bytes, deltas, width_of}
use Rattle.twcc.proofs.Written.{symbol_lt, length_delta, length-deltas}
use Rattle.twcc_plan.proofs.PlanLaws.{below_take, width_le, width-run}
use Rattle.twcc_plan.proofs.BlockLaws.{take-symbols}
use Rattle.lent.proofs.Laws.{sets_append, sets_over, part_stored}
use Rattle.twcc_write.specs.Stores.{Begins, Stored, WordStorable}
use Rattle.twcc_write.proofs.Words.{valid-at, light-at, small-bits}

-- ---- one word

-- the last so many of a delta's two bytes are the word's
pub last_bytes : (w : ℤ) → drop (2 - symbol_of w) (be_bytes 2 (bits16 w)) ≡ delta_bytes w
unfolding delta_bytes
last_bytes w = go (symbol_of w) refl
  where
    go : (s : ℕ) → symbol_of w ≡ s → drop (2 - s) (be_bytes 2 (bits16 w)) ≡ be_bytes s (bits16 w)
    go zero e = refl
    go (suc zero) e = ap (λ (b : ℕ). b ∷ []) (let few = small-bits w e in omega arith)
    go (suc (suc zero)) e = refl
    go (suc (suc (suc s))) e = absurd (omega (arith, symbol_lt w))

one_front : (out : List ℕ) (b : ℕ) → 1 ≤ length out → take 1 (set out 0 b) ≡ b ∷ []
one_front [] b room = absurd (omega arith)
one_front (x ∷ out) b room = refl

two_front : (out : List ℕ) (a b : ℕ) → 2 ≤ length out → (take 1 (set (set out 0 a) 1 b) ≡ a ∷ []) × (take 2 (set (set out 0 a) 1 b) ≡ a ∷ b ∷ [])
two_front [] a b room = absurd (omega arith)
two_front (x ∷ []) a b room = absurd (omega arith)
two_front (x ∷ y ∷ out) a b room = (refl, refl)

pub begins : (bytes rest : List ℕ) (n : ℕ) → n ≡ length bytes → Begins bytes n (bytes ++ rest)
begins bytes rest n size = record { size = size; front = rw (size, take-append_seam bytes rest) refl }

-- what is stored exactly stands at the front
pub stored_begins : {bytes old new : List ℕ} {n : ℕ} → length bytes ≤ length old → Stored bytes n old new → Begins bytes n new
stored_begins {bytes} {old} {new} {n} room s = rw (s.memory, sets_over bytes old room) (begins bytes _ n s.size)

-- a word's bytes, exactly
module _ (w : ℤ) (out : List ℕ) where
  pub none_stored : symbol_of w ≡ 0 → Stored (delta_bytes w) 0 out out
  unfolding delta_bytes
  none_stored none = rw none (record { size = refl; memory = refl })

  pub one_stored : (low : ℕ) → symbol_of w ≡ 1 → low ≡ bits16 w % 256 → Stored (delta_bytes w) 1 out (set out 0 low)
  unfolding delta_bytes
  one_stored low one byte = let bits : low ≡ bits16 w = omega (arith, small-bits w one) in rw (one, bits) (record { size = refl; memory = refl })

  pub two_stored : (high low : ℕ) → symbol_of w ≡ 2 → high ≡ bits16 w / 256 → low ≡ bits16 w % 256 → Stored (delta_bytes w) 2 out (set (set out 0 high) 1 low)
  unfolding delta_bytes
  two_stored high low two first second = rw (two, first, second) (record { size = refl; memory = refl })

pub none_begins : (w : ℤ) (out : List ℕ) → symbol_of w ≡ 0 → Begins (delta_bytes w) 0 out
unfolding delta_bytes
none_begins w out none = rw none (record { size = refl; front = refl })

module _ (w : ℤ) (n : ℕ) where
  pub exact_bytes : (two copied : List ℕ) → n ≡ symbol_of w → two ≡ be_bytes 2 (bits16 w) → copied ≡ between (2 - n) 2 two → copied ≡ delta_bytes w
  exact_bytes two copied is bits after =
      after ∙ between_to_end two (2 - n) 2 (rw bits (omega arith)) ∙ ap₂ (λ (k : ℕ) (l : List ℕ). drop (2 - k) l) is bits ∙ last_bytes w

  pub exact_begins : (two copied rest : List ℕ) → n ≡ symbol_of w → two ≡ be_bytes 2 (bits16 w) → copied ≡ between (2 - n) 2 two → Begins (delta_bytes w) n (copied ++ rest)
  exact_begins two copied rest is bits after = rw (exact_bytes two copied is bits after) (begins (delta_bytes w) rest n (omega (arith, is, length_delta w)))

  -- as many as words have at most, where those that are too many stand behind them
  pub one_begins : (out : List ℕ) (low : ℕ) → n ≡ symbol_of w % 2 → symbol_of w ≤ 1 → low ≡ bits16 w % 256 → 1 ≤ length out → Begins (delta_bytes w) n (set out 0 low)
  unfolding delta_bytes
  one_begins out low is light byte room = go (symbol_of w) refl
    where
      go : (s : ℕ) → symbol_of w ≡ s → Begins (be_bytes (symbol_of w) (bits16 w)) n (set out 0 low)
      go zero e = let none : n ≡ 0 = omega arith in rw (e, none) (record { size = refl; front = refl })
      go (suc zero) e =
          let one : n ≡ 1 = omega arith in
          let bits : low ≡ bits16 w = omega (arith, small-bits w e) in
          rw (e, one) (record { size = refl; front = one_front out low room ∙ ap (λ (b : ℕ). b ∷ []) bits })
      go (suc (suc s)) e = absurd (omega arith)

  pub two_begins : (out : List ℕ) (first low : ℕ) → n ≡ symbol_of w → first ≡ cond (eqb (symbol_of w % 2) 1) (bits16 w % 256) (bits16 w / 256) → low ≡ bits16 w % 256 → 2 ≤ length out
      → Begins (delta_bytes w) n (set (set out 0 first) 1 low)
  unfolding delta_bytes
  two_begins out first low is leads byte room = go (symbol_of w) refl
    where
      go : (s : ℕ) → symbol_of w ≡ s → Begins (be_bytes (symbol_of w) (bits16 w)) n (set (set out 0 first) 1 low)
      go zero e = let none : n ≡ 0 = omega arith in rw (e, none) (record { size = refl; front = refl })
      go (suc zero) e =
          let one : n ≡ 1 = omega arith in
          let bits : first ≡ bits16 w = leads ∙ rw (eq-eqb (symbol_of w % 2) 1 (omega arith)) (omega (arith, small-bits w e)) in
          rw (e, one) (record { size = refl; front = (two_front out first low room).0 ∙ ap (λ (b : ℕ). b ∷ []) bits })
      go (suc (suc zero)) e =
          let two : n ≡ 2 = omega arith in
          let high : first ≡ bits16 w / 256 = leads ∙ rw (ne_eqb (symbol_of w % 2) 1 (λ one. omega arith)) refl in
          rw (e, two) (record { size = refl; front = (two_front out first low room).1 ∙ ap₂ (λ (a b : ℕ). a ∷ b ∷ []) high byte })
      go (suc (suc (suc s))) e = absurd (omega (arith, symbol_lt w))

-- ---- words one after the other

pub deltas-append : (xs ys : List ℤ) → deltas (xs ++ ys) ≡ deltas xs ++ deltas ys
unfolding deltas
deltas-append [] ys = refl
deltas-append (x ∷ xs) ys = rw (deltas-append xs ys) (sym (append_assoc (delta_bytes x) (deltas xs) (deltas ys)))

-- fewer words have no more delta bytes
pub deltas-few : (a n : ℕ) (words : List ℤ) → a ≤ n → length (deltas (take a words)) ≤ length (deltas (take n words))
deltas-few a n words few =
    let first = take a (take n words) in
    let rest = drop a (take n words) in
    let split = ap length (ap deltas (sym (take-append-drop a (take n words))) ∙ deltas-append first rest) in
    let same : first ≡ take a words = take-take a n words few in
    omega (arith, split, length-append (deltas first) (deltas rest), ap (λ (l : List ℤ). length (deltas l)) same)

pub none_yet : (out : List ℕ) → Begins (deltas []) 0 out
unfolding deltas
none_yet out = record { size = refl; front = refl }

pub nothing_stored : (out : List ℕ) → Stored (deltas []) 0 out out
unfolding deltas
nothing_stored out = record { size = refl; memory = refl }

-- words that were lost have no delta bytes
pub lost_begins : (words : List ℤ) (out : List ℕ) → map symbol_of words ≡ replicate (length words) 0 → Begins (deltas words) 0 out
lost_begins words out same =
    let none : length (deltas words) ≡ 0 = omega (arith, length-deltas words ∙ ap width_of same, width-run (length words) 0 (omega arith)) in
    rw (nothing (deltas words) none) (record { size = refl; front = refl })

-- bytes that stand at the front of a part, where others stand before it
pub begins_behind : (a b : List ℕ) (p k : ℕ) (out part rest : List ℕ) → Begins a p out → Begins b k part → Begins (a ++ b) (p + k) (take p out ++ (part ++ rest))
begins_behind a b p k out part rest before more =
    let first : length (take p out) ≡ p = ap length before.front ∙ sym before.size in
    let few : k ≤ length part = omega (arith, ap length more.front, length-take k part, more.size) in
    record {
      size = omega (arith, length-append a b, before.size, more.size);
      front =
          ap (λ (n : ℕ). take (n + k) (take p out ++ (part ++ rest))) (sym first) ∙ take-append-add (take p out) (part ++ rest) k
          ∙ ap (λ (l : List ℕ). take p out ++ l) (take-append-le k part rest few) ∙ ap₂ ◌++◌ before.front more.front;
    }

module _ (words : List ℤ) (i p : ℕ) (out : List ℕ) (before : p ≡ length (deltas (take i words))) (more : i < length words) where
  abbrev word : ℤ
  word = get_or words i (pos 0)

  one_more : deltas (take (i + 1) words) ≡ deltas (take i words) ++ delta_bytes word
  unfolding deltas
  one_more = rw add-one (ap deltas (take-suc words i (pos 0) more) ∙ deltas-append (take i words) (word ∷ []) ∙ rw append-nil refl)

  -- the next word's bytes have room, also in the part from p on
  pub next_room : length (deltas words) ≤ length out → p + symbol_of word ≤ length out
  next_room room =
      let all : take (length words) words ≡ words = take_all (length words) words (omega arith) in
      let few = rw all at (deltas-few (i + 1) (length words) words (omega arith)) in
      omega (arith, ap length one_more ∙ length-append (deltas (take i words)) (delta_bytes word), length_delta word, before, few)

  pub next_storable : AllValid words → length (deltas words) ≤ length out → WordStorable word (symbol_of word) (between p (length out) out)
  next_storable valid room =
      record { valid = valid-at words i (pos 0) valid more; light = omega arith; room = simp (length-take, length-drop) (omega (arith, next_room room)) }

  -- they stand in a part from p on
  pub next_begins : (k size : ℕ) (part : List ℕ) → Begins (deltas (take i words)) p out → Begins (delta_bytes word) k part → Begins (deltas (take (i + 1) words)) (p + k) (put_mid p size out part)
  next_begins k size part front stands = rw one_more (begins_behind (deltas (take i words)) (delta_bytes word) p k out part _ front stands)

  -- they are stored exactly, where those before them were
  pub next_stored : (old : List ℕ) (k size : ℕ) (part : List ℕ) → Stored (deltas (take i words)) p old out → part ≡ delta_bytes word → k ≡ symbol_of word → size ≡ k
      → length (deltas words) ≤ length out → Stored (deltas (take (i + 1) words)) (p + k) old (put_mid p size out part)
  next_stored old k size part s is wide all room =
      let front = deltas (take i words) in
      let bytes = delta_bytes word in
      let width = length_delta word in
      let here : put_mid p size out part ≡ sets out p bytes =
      part_stored out part bytes p p size (omega (arith, next_room room)) (omega (arith, next_room room, width, wide, all)) (is ∙ sym (take_all _ _ (omega (arith, width, wide, all)))) in
      record {
        size = omega (arith, ap length one_more, length-append front bytes, width, wide, s.size);
        memory =
            here ∙ ap (λ (l : List ℕ). sets l p bytes) s.memory ∙ ap (λ (n : ℕ). sets (sets old 0 front) n bytes) (before ∙ sym (zero-add (length front)))
            ∙ sets_append old 0 front bytes ∙ ap (λ (l : List ℕ). sets old 0 l) (sym one_more);
      }

  -- words with at most so many bytes each have no more behind them
  pace : (most : ℕ) → Below (most + 1) (map symbol_of words) → p ≤ most * i
  pace most below =
      let here : Below (suc most) (map symbol_of (take i words)) = rw (take-symbols, add-one) at (below_take (most + 1) i (map symbol_of words) below) in
      let size : length (map symbol_of (take i words)) ≡ i = rw (length-map, length-take) (omega arith) in
      let light = rw size at (width_le most (map symbol_of (take i words)) here) in
      omega (arith, before, length-deltas (take i words), light)

  pub most_storable : (most : ℕ) → Below (most + 1) (map symbol_of words) → AllValid words → most * length words ≤ length out → WordStorable word most (between p (length out) out)
  most_storable most below valid room =
      let all : most * suc i ≤ most * length words = mul-le-mul_left most more in
      let next = mul-suc most i in
      record {
        valid = valid-at words i (pos 0) valid more;
        light = light-at most words i (pos 0) below more;
        room = simp (length-take, length-drop) (omega (arith, pace most below, all, next));
      }
