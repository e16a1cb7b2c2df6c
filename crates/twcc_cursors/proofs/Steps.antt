-- What a step of the chunk cursor and of the delta cursor is, case by case, and the laws of the loops over chunks.
use Prim.Native.Nat.{ℕ, zero, suc, ◌+◌, ◌-◌, ◌*◌, ◌≤◌, ◌<◌, min}
use mathlib.Core.Path.{◌≡◌, refl, sym, ap, ◌∙◌, subst}
use mathlib.Core.Logic.{◌⊎◌, inl, inr}
use mathlib.Core.List.{List, [], ◌∷◌, ◌++◌}
use mathlib.Core.Bool.{cond}
use native.Mathlib.Nat.{not-suc-le-zero, le_of_suc-le-suc}
use native.Mathlib.Numerals.{add-one}
use native.Mathlib.Decide.{ℕ_discrete}
use native.Mathlib.Omega.{arith}
use borrow.Author.Tests.{eq-eqb, ne_eqb}
use lib.IntN.{pos}
use lib.ListN.{length, get_or, take, drop, length-drop, length-append, length-take, drop_of_length-le}
use lib.Dec.{ltb, eqb}
use lib.IntN.{◌+ℤ◌, ◌*ℤ◌}
use mir.Syntax.{w8, w16, w32}
use mir.Val.{to_z, of_z}
use Rattle.std.proofs.lemmas.Int.{ints}
use mir.ValLaws.{to_z_pos, to_z-of_z}
use Rattle.std.specs.Prelude.{Option, None, Some}
use Rattle.std.proofs.lemmas.List.{get_or-drop, take_min, drop_min}
use Rattle.std.proofs.lemmas.Bool.Decides.{nat_tests}
use lib.Seq.{take-nil, drop-cons, drop-drop}
use Rattle.octets.proofs.Logic.{nothing}
use Rattle.twcc.specs.Words.{bytes_of, signed16, not_received, truncated, reserved, word_of}
use Rattle.twcc.specs.Chunks.{stands_for}
use Rattle.octets.specs.Big.{be}
use Rattle.twcc.specs.Block.{status_count, symbols, after_chunks, block_symbols, block_deltas}
use Rattle.twcc.proofs.Reading.{symbols_zero, symbols-short, symbols-cons, after_zero, after-short, after-cons}
use Rattle.twcc_cursors.specs.Cursors.{header_of, headed, taken, next_chunk, full_chunk, counts_of}
use Rattle.refusal.specs.Outcome.{gave}
use Rattle.refusal.specs.Number.{no as refused}
use Rattle.refusal.specs.declared.Refusal.{Refusal}
use Rattle.refusal.proofs.Unique.{no_unique}
use Rattle.refusal.specs.declared.Refusal.TheVariants.{Truncated}
use Rattle.twcc_cursors.specs.declared.Header.{Header}
use Rattle.twcc_cursors.specs.declared.Counts.{Counts}
use Rattle.twcc_cursors.specs.declared.Chunks.{Chunks}
use Rattle.twcc_cursors.specs.declared.NextChunk.{NextChunk}

-- an index loop meets a recursion by two
pub drop-two : (s : List ℕ) (at : ℕ) → at + 2 ≤ length s → drop at s ≡ get_or s at 0 ∷ get_or s (at + 1) 0 ∷ drop (at + 2) s
drop-two s at fits =
    let two : at + 2 ≡ suc (suc at) = omega arith in
    let second : suc at < length s = omega arith in
    rw (two, add-one, drop-cons s at 0 (omega arith), drop-cons s (suc at) 0 second)

-- ---- the header

-- what an answer tells
pub headed_ok : (s : List ℕ) {header : Header} → gave header ≡ headed s → (8 ≤ length s) × (header ≡ header_of s)
unfolding headed
headed_ok s {header} is = grind (arith, nat_tests)

pub headed_err : (s : List ℕ) {r : Refusal} → refused r ≡ headed s → (length s < 8) × (r ≡ Truncated 8 (length s))
unfolding headed
headed_err s {r} is = grind (arith, nat_tests, no_unique)

-- ---- one step of the chunk cursor

pub record IsOver (s : List ℕ) (c : Chunks) : Type 0 where
  pub none : symbols (drop c.at s) c.left ≡ []
  pub after : after_chunks (drop c.at s) c.left ≡ drop c.at s
  pub full : None ≡ full_chunk (drop c.at s) c.at c.left

pub record IsTaken (s : List ℕ) (c : Chunks) (got : NextChunk) : Type 0 where
  pub more : symbols (drop c.at s) c.left ≡ take got.count (stands_for got.chunk) ++ symbols (drop got.next.at s) got.next.left
  pub after : after_chunks (drop c.at s) c.left ≡ after_chunks (drop got.next.at s) got.next.left
  pub fits : c.at + 2 ≤ length s
  pub at : got.next.at ≡ c.at + 2
  pub count : got.count ≡ min c.left (length (stands_for got.chunk))
  pub left : got.next.left ≡ c.left - length (stands_for got.chunk)
  pub full : zero < got.count → Some got ≡ full_chunk (drop c.at s) c.at c.left
  pub empty : got.count ≤ 0 → full_chunk (drop got.next.at s) got.next.at got.next.left ≡ full_chunk (drop c.at s) c.at c.left

full_none : (bytes : List ℕ) (at left : ℕ) → left ≡ 0 → None ≡ full_chunk bytes at left
unfolding full_chunk
full_none [] at left none = refl
full_none (a ∷ []) at left none = refl
full_none (a ∷ b ∷ bytes) at left none = simp (eq-eqb _ _ none)

full_short : (bytes : List ℕ) (at left : ℕ) → length bytes < 2 → None ≡ full_chunk bytes at left
unfolding full_chunk
full_short [] at left short = refl
full_short (a ∷ []) at left short = refl
full_short (a ∷ b ∷ bytes) at left short = absurd (not-suc-le-zero (le_of_suc-le-suc (le_of_suc-le-suc short)))

module _ (a b : ℕ) (bytes : List ℕ) (at left : ℕ) (some : left ≡ 0 → ⊥) where
  full_more : (length (stands_for (256 * a + b)) ≡ 0 → ⊥) → Some (taken at left (256 * a + b)) ≡ full_chunk (a ∷ b ∷ bytes) at left
  unfolding full_chunk
  full_more lists = simp (ne_eqb _ _ some, ne_eqb _ _ lists)

  full_skip : length (stands_for (256 * a + b)) ≡ 0 → full_chunk bytes (at + 2) left ≡ full_chunk (a ∷ b ∷ bytes) at left
  unfolding full_chunk
  full_skip none = simp (ne_eqb _ _ some, eq-eqb _ _ none)

module _ (s : List ℕ) (c : Chunks) where
  over_by : None ≡ next_chunk s c → (c.left ≡ 0) ⊎ (length s < c.at + 2)
  unfolding next_chunk
  over_by over = grind (arith, nat_tests)

  taken_by : {got : NextChunk} → Some got ≡ next_chunk s c
      → (c.left ≡ 0 → ⊥) × (c.at + 2 ≤ length s) × (taken c.at c.left (be 2 s c.at) ≡ got)
  unfolding next_chunk
  taken_by {got} is = grind (arith, nat_tests)

  pub step_none : None ≡ next_chunk s c → IsOver s c
  step_none over = go (over_by over)
    where
      go : (c.left ≡ 0) ⊎ (length s < c.at + 2) → IsOver s c
      go (inl none) = record { none = rw none (symbols_zero _); after = rw none (after_zero _); full = full_none _ _ _ none }
      go (inr few) =
          let short : length (drop c.at s) < 2 = rw length-drop (omega arith) in
          record { none = symbols-short _ _ short; after = after-short _ _ short; full = full_short _ _ _ short }

  pub step_some : {got : NextChunk} → Some got ≡ next_chunk s c → IsTaken s c got
  step_some is =
      let t = taken_by is in
      let some = t.0 in
      let chunk = be 2 s c.at in
      let two = drop-two s c.at t.1 in
      subst (IsTaken s c) t.2
      (record {
        more = rw (two, symbols-cons, ← take_min c.left (stands_for chunk));
        after = rw two (after-cons _ _ _ _ some);
        fits = t.1;
        at = refl;
        count = refl;
        left = refl;
        full = λ lists. rw two (full_more _ _ _ _ _ some (λ none. omega arith));
        empty = λ none.
            let size : length (stands_for chunk) ≡ 0 = omega arith in
            let same : c.left - length (stands_for chunk) ≡ c.left = omega arith in
            rw (same, two) (full_skip _ _ _ _ _ some size);
      })

-- ---- the counting loop

pub record Counting (s : List ℕ) (c : Chunks) (listed : ℕ) : Type 0 where
  pub total : listed + length (symbols (drop c.at s) c.left) ≡ length (block_symbols s)
  pub after : after_chunks (drop c.at s) c.left ≡ block_deltas s
  pub inside : c.at ≤ length s
  pub few : listed + c.left ≤ 65535

pub counting_start : (s : List ℕ) (n : ℕ) → n ≡ status_count s → n < 65536 → 8 ≤ length s → Counting s (record { at = 8; left = n }) 0
unfolding block_symbols block_deltas
counting_start s n is few long =
    record { total = rw is (omega arith); after = rw is refl; inside = long; few = omega arith }

pub counting_more : {s : List ℕ} {c : Chunks} {listed : ℕ} {got : NextChunk}
    → Counting s c listed → IsTaken s c got → Counting s got.next (listed + got.count)
counting_more g t =
    let sum = simp (length-append, length-take) at (ap length t.more) in
    record { total = omega (arith, sum); after = sym t.after ∙ g.after; inside = omega arith; few = omega arith }

counts_are : (s : List ℕ) {listed start : ℕ} → listed ≡ length (block_symbols s) → start ≡ length s - length (block_deltas s)
    → ◌≡◌ {A = Counts} (record { listed = listed; start = start }) (counts_of s)
counts_are s p q = λ i. record { listed = p i; start = q i }

pub counting_over : {s : List ℕ} {c : Chunks} {listed : ℕ} → Counting s c listed → IsOver s c
    → ◌≡◌ {A = Counts} (record { listed = listed; start = c.at }) (counts_of s)
counting_over {s} {c} g o =
    let deltas : drop c.at s ≡ block_deltas s = sym o.after ∙ g.after in
    let size : length (block_deltas s) ≡ length s - c.at = sym (ap length deltas) ∙ length-drop c.at s in
    counts_are s (omega (arith, ap length o.none)) (omega arith)

-- a block without a whole header lists nothing
pub counting_short : (s : List ℕ) → length s < 8 → ◌≡◌ {A = Counts} (record { listed = 0; start = length s }) (counts_of s)
unfolding block_symbols block_deltas
counting_short s short =
    let rest : length (drop 8 s) ≡ 0 = rw length-drop (omega arith) in
    let few : length (drop 8 s) < 2 = omega arith in
    counts_are s
    (rw (symbols-short (drop 8 s) (status_count s) few) refl)
    (rw (after-short (drop 8 s) (status_count s) few) (omega arith))

-- ---- the next chunk that lists an entry, where `ss` are the symbols to come

pub record IsFull (s ss : List ℕ) (got : NextChunk) : Type 0 where
  pub some : zero < got.count
  pub size : got.count ≤ length (stands_for got.chunk)
  pub more : ss ≡ take got.count (stands_for got.chunk) ++ symbols (drop got.next.at s) got.next.left

abbrev pub FullIs : List ℕ → List ℕ → Option NextChunk → Type 0
FullIs s ss None = ss ≡ []
FullIs s ss (Some got) = IsFull s ss got

pub full_is : (s bytes : List ℕ) (at left : ℕ) → bytes ≡ drop at s → FullIs s (symbols bytes left) (full_chunk bytes at left)
unfolding full_chunk
full_is s [] at left here = symbols-short [] left (omega arith)
full_is s (a ∷ []) at left here = symbols-short (a ∷ []) left (omega arith)
full_is s (a ∷ b ∷ bytes) at left here = by_left (full_is s bytes (at + 2) left next) (ℕ_discrete left 0)
  where
    chunk : ℕ
    chunk = 256 * a + b

    next : bytes ≡ drop (at + 2) s
    next = ap (λ (l : List ℕ). drop 2 l) here ∙ drop-drop 2 at s

    by_size : FullIs s (symbols bytes left) (full_chunk bytes (at + 2) left) → (left ≡ 0 → ⊥) → Dec (length (stands_for chunk) ≡ 0)
        → FullIs s (symbols (a ∷ b ∷ bytes) left) (full_chunk (a ∷ b ∷ bytes) at left)
    by_size rest some (yes none) =
        let same : symbols (a ∷ b ∷ bytes) left ≡ symbols bytes left =
        symbols-cons a b bytes left
        ∙ rw (nothing (stands_for chunk) none, take-nil) (ap (symbols bytes) (omega arith)) in
        rw (ne_eqb left 0 some, eq-eqb (length (stands_for chunk)) 0 none, same) rest
    by_size rest some (no lists) =
        rw (ne_eqb left 0 some, ne_eqb (length (stands_for chunk)) 0 lists)
        (record { some = omega arith; size = omega arith; more = rw (← next, symbols-cons, ← take_min left (stands_for chunk)) })

    by_left : FullIs s (symbols bytes left) (full_chunk bytes (at + 2) left) → Dec (left ≡ 0)
        → FullIs s (symbols (a ∷ b ∷ bytes) left) (full_chunk (a ∷ b ∷ bytes) at left)
    by_left rest (yes none) = rw (eq-eqb left 0 none, none) (symbols_zero (a ∷ b ∷ bytes))
    by_left rest (no some) = by_size rest some (ℕ_discrete (length (stands_for chunk)) 0)

-- a chunk of the step lists an entry
pub full_some : (s : List ℕ) (c : Chunks) {got : NextChunk} → full_chunk (drop c.at s) c.at c.left ≡ Some got → zero < got.count
full_some s c is =
    let full : IsFull s _ _ = subst (FullIs s _) is (full_is s (drop c.at s) c.at c.left refl) in
    full.some

-- what a turn of the packets' cursor needs
pub ruleset packets = (full_some, nat_tests)

-- ---- one step of the delta cursor

-- two bytes as a signed number, the high one signed
signed_is : (bits : ℕ) → signed16 bits ≡ to_z w16 bits
unfolding signed16
signed_is bits = grind (arith, nat_tests)

-- the same by the machine's steps
pub signed_high : (high low : ℕ) → high < 256 → low < 256
    → signed16 (256 * high + low)
    ≡ to_z w32 (of_z w32 (to_z w32 (of_z w32 (pos 256 *ℤ to_z w32 (of_z w32 (to_z w8 (of_z w8 (to_z w8 high)))))) +ℤ to_z w32 (of_z w32 (pos low))))
signed_high high low h l = signed_is (256 * high + low) ∙ (grind (arith, ints))

-- a symbol's delta bytes and word, by tests
pub bytes_by : (n : ℕ) → bytes_of n ≡ cond (ltb 2 n) 0 n
unfolding bytes_of
bytes_by zero = refl
bytes_by (suc zero) = refl
bytes_by (suc (suc zero)) = refl
bytes_by (suc (suc (suc n))) = grind (arith, nat_tests)

pub word_by : (n : ℕ) (ds : List ℕ)
    → word_of n ds
    ≡ cond (eqb n 0) not_received
    (cond (ltb 2 n) reserved
    (cond (ltb (length ds) n) truncated
    (cond (eqb n 1) (pos (get_or ds 0 0))
    (signed16 (256 * get_or ds 0 0 + get_or ds 1 0)))))
unfolding word_of
word_by zero ds = refl
word_by (suc zero) [] = refl
word_by (suc zero) (d ∷ ds) = grind (arith, nat_tests)
word_by (suc (suc zero)) [] = grind (arith, nat_tests)
word_by (suc (suc zero)) (d ∷ []) = grind (arith, nat_tests)
word_by (suc (suc zero)) (d ∷ e ∷ ds) = grind (arith, nat_tests)
word_by (suc (suc (suc n))) ds = grind (arith, nat_tests)

-- what a turn of the delta cursor needs
pub ruleset deltas = (bytes_by, word_by, length-drop, get_or-drop, to_z_pos, to_z-of_z, nat_tests)

-- the cursor's next place, and the bytes from there on
pub drop_clamp : (s : List ℕ) (at n : ℕ) → drop (at + min n (length s - at)) s ≡ drop n (drop at s)
drop_clamp s at n = sym (drop-drop _ at s) ∙ rw (← length-drop at s) (drop_min n (drop at s))
