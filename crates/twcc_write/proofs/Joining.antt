-- The parts of a block, stored one by one, are the block; and the room that it needs.
use Prim.Native.Nat.{ℕ, zero, suc, ◌+◌, ◌*◌, ◌-◌, ◌/◌, ◌%◌, ◌≤◌, ◌<◌}
use mathlib.Core.Path.{◌≡◌, refl, sym, ap, ap₂, ◌∙◌}
use mathlib.Core.List.{List, [], ◌∷◌, ◌++◌, map, append_assoc}
use Rattle.std.specs.Prelude.{Option, Some, None}
use Rattle.std.specs.List.{between}
use Rattle.std.proofs.lemmas.List.{drop-take}
use mathlib.Core.Bool.{Bool, true, false, false≢true}
use Rattle.std.specs.Bool.{then_some}
use Rattle.std.specs.Option.{MatchOption}
use Rattle.std.proofs.lemmas.Option.{none-some, same_Some}
use native.Mathlib.Omega.{arith}
use borrow.Author.Tests.{ltb-true, ltb-false, leb-true, leb-false, le-ltb}
use borrow.Rule.Slice.PartMut.{put_mid}
use lib.Dec.{ltb, leb, eqb}
use lib.IntN.{ℤ}
use lib.ListN.{length, take, drop, set, replicate, length-append, length-map, length-take, length-drop}
use lib.Seq.{sets, sets-eq, set_comm, take_at, drop_at, drop-drop, take-take, take_all, length-sets, drop-append-add}
use Rattle.lent.specs.Bytes.{zero_bytes}
use Rattle.lent.proofs.Laws.{length-zero_bytes, sets_append, sets_over}
use Rattle.octets.proofs.Logic.{by_test}
use Rattle.twcc.specs.Time.{latest}
use Rattle.twcc.specs.Words.{symbol_of, deltas}
use Rattle.twcc.specs.Chunks.{Chunk, Run, One, Two, chunk_word, chunk_bytes}
use Rattle.twcc_plan.specs.Choice.{taken_by, width_by}
use Rattle.twcc_plan.specs.Limits.{up_four, Within}
use Rattle.twcc_plan.specs.Plan.{taken_in}
use Rattle.twcc_plan.specs.Planned.{Good, Planned}
use Rattle.twcc_plan.specs.Block.{header, chunks_of, taken_of, body, used_of, size_of, block_bytes}
use Rattle.twcc_plan.proofs.Fronts.{front_take}
use Rattle.twcc_plan.proofs.BlockLaws.{take-symbols, valid-take, length-chunks, block-planned, used_is}
use Rattle.twcc_plan.proofs.PlanLaws.{planned_free}
use Rattle.twcc_plan.specs.Promise.{Plans}
use Rattle.twcc_plan.specs.declared.Plan.{Plan}
use Rattle.twcc_write.specs.Stores.{Carriable, BlockStorable, BlockStored}

-- ---- stores in another order

set_before : (l : List ℕ) (i j : ℕ) (xs : List ℕ) (y : ℕ) → i + length xs ≤ j → sets (set l j y) i xs ≡ set (sets l i xs) j y
set_before l i j [] y apart = refl
set_before l i j (x ∷ xs) y apart =
    ap (λ (k : List ℕ). sets k (suc i) xs) (set_comm l j i y x (λ same. omega arith)) ∙ set_before (set l i x) (suc i) j xs y (omega arith)

sets_before : (l : List ℕ) (i j : ℕ) (xs ys : List ℕ) → i + length xs ≤ j → sets (sets l j ys) i xs ≡ sets (sets l i xs) j ys
sets_before l i j xs [] apart = refl
sets_before l i j xs (y ∷ ys) apart =
    sets_before (set l j y) i (suc j) xs ys (omega arith) ∙ ap (λ (k : List ℕ). sets k (suc j) ys) (set_before l i j xs y apart)

-- ---- a part behind what was stored

module _ (l : List ℕ) (at : ℕ) (first last : List ℕ) (room : at + length first + length last ≤ length l) where
  abbrev one : List ℕ
  one = sets l at first

  abbrev rest : List ℕ
  rest = drop (at + length first) l

  opened : one ≡ take at l ++ (first ++ rest)
  opened = sets-eq first l at (omega arith) ∙ append_assoc (take at l) first rest

  front-size : length (take at l) ≡ at
  front-size = omega (arith, length-take at l)

  behind : drop at one ≡ first ++ rest
  behind = ap (drop at) opened ∙ drop_at (take at l) (first ++ rest) at front-size

  pub part_first : (end : ℕ) → at + length first ≤ end → take (length first) (between at end one) ≡ first
  part_first end more =
      take-take (length first) (end - at) (drop at one) (omega arith) ∙ ap (take (length first)) behind ∙ take_at first rest (length first) refl

  pub part_joined : (size : ℕ) → size ≡ length first + length last → put_mid at size one (first ++ last) ≡ sets l at (first ++ last)
  part_joined size is =
      let past : drop size (drop at one) ≡ drop (at + length (first ++ last)) l =
      ap (drop size) behind ∙ ap (λ (n : ℕ). drop n (first ++ rest)) is ∙ drop-append-add first rest (length last) ∙ drop-drop (length last) (at + length first) l
      ∙ ap (λ (n : ℕ). drop n l) (omega (arith, length-append first last)) in
      let front : take at one ≡ take at l = ap (take at) opened ∙ take_at (take at l) (first ++ rest) at front-size in
      rw (front, past) (sym (sets-eq (first ++ last) l at (omega (arith, length-append first last)) ∙ append_assoc (take at l) (first ++ last) (drop (at + length (first ++ last)) l)))

zeros_are : (n : ℕ) → replicate n 0 ≡ zero_bytes n
unfolding zero_bytes
zeros_are zero = refl
zeros_are (suc n) = ap (λ (l : List ℕ). 0 ∷ l) (zeros_are n)

-- a part that is written over, and four of them, one behind the other
part_sets : (l : List ℕ) (at size : ℕ) (bytes : List ℕ) → size ≡ length bytes → at + length bytes ≤ length l → put_mid at size l bytes ≡ sets l at bytes
part_sets l at size bytes is room =
    rw (is, drop-drop (length bytes) at l) (sym (sets-eq bytes l at room ∙ append_assoc (take at l) bytes (drop (at + length bytes) l)))

four_stored : (out a b c : List ℕ) (d : ℕ) → 8 ≤ length out → length a ≡ 2 → length b ≡ 2 → length c ≡ 3 → set (put_mid 4 3 (put_mid 2 2 (a ++ drop 2 out) b) c) 7 d ≡ sets out 0 (a ++ b ++ c ++ d ∷ [])
four_stored out a b c d room two more three =
    let first : a ++ drop 2 out ≡ sets out 0 a = ap (λ (n : ℕ). a ++ drop n out) (sym two) ∙ sym (sets_over a out (omega arith)) in
    let at₂ : 2 ≡ 0 + length a = omega arith in
    let second : put_mid 2 2 (a ++ drop 2 out) b ≡ sets out 0 (a ++ b) =
    rw first (part_sets (sets out 0 a) 2 2 b (sym more) (omega (arith, length-sets out 0 a)) ∙ ap (λ (n : ℕ). sets (sets out 0 a) n b) at₂ ∙ sets_append out 0 a b) in
    let at₄ : 4 ≡ 0 + length (a ++ b) = omega (arith, length-append a b) in
    let third : put_mid 4 3 (put_mid 2 2 (a ++ drop 2 out) b) c ≡ sets out 0 (a ++ b ++ c) =
    rw second (part_sets (sets out 0 (a ++ b)) 4 3 c (sym three) (omega (arith, length-sets out 0 (a ++ b))) ∙ ap (λ (n : ℕ). sets (sets out 0 (a ++ b)) n c) at₄ ∙ sets_append out 0 (a ++ b) c) in
    let at₇ : 7 ≡ 0 + length (a ++ b ++ c) = omega (arith, length-append (a ++ b) c, at₄) in
    ap (λ (l : List ℕ). set l 7 d) third ∙ ap (λ (n : ℕ). set (sets out 0 (a ++ b ++ c)) n d) at₇ ∙ sets_append out 0 (a ++ b ++ c) (d ∷ [])

pub header_stored : (out a b c : List ℕ) (base count time feedback : ℕ) → 8 ≤ length out → base < 65536 → count < 65536 → time ≤ latest → a ≡ base / 256 % 256 ∷ base % 256 ∷ []
    → b ≡ count / 256 % 256 ∷ count % 256 ∷ [] → c ≡ time / 65536 % 256 ∷ time / 256 % 256 ∷ time % 256 ∷ []
    → set (put_mid 4 3 (put_mid 2 2 (a ++ drop 2 out) b) c) 7 feedback ≡ sets out 0 (header base count time feedback)
unfolding header
header_stored out a b c base count time feedback room small few fits first second third =
    let base-high : base / 256 % 256 ≡ base / 256 = omega arith in
    let count-high : count / 256 % 256 ≡ count / 256 = omega arith in
    let high : time / 65536 % 256 ≡ time / 65536 = omega arith in
    let middle : time / 256 % 256 ≡ time % 65536 / 256 = omega arith in
    let low : time % 256 ≡ time % 65536 % 256 = omega arith in
    four_stored out a b c feedback room (rw first refl) (rw second refl) (rw third refl) ∙ rw (first, second, third, base-high, count-high, high, middle, low) refl

-- ---- chunks of a plan are also for just the entries that they take

take_both : (n m : ℕ) (ss : List ℕ) → length (take n ss) ≤ m → take n ss ≡ take n (take m ss)
take_both n m ss few =
    by_test (leb n m)
    (λ e. sym (take-take n m ss (leb-true n m e)))
    (λ e.
    let short : m < n = leb-false n m e in
    ap (take n) (sym (take_all m ss (omega (arith, length-take n ss)))))

good_front : (m : ℕ) (ss : List ℕ) (c : Chunk) → Good ss c → taken_by c ≤ m → Good (take m ss) c
unfolding taken_by
good_front m ss (Run s r) good few = (good.0, good.1, good.2, omega (arith, front_take (eqb s) m ss, good.3))
good_front m ss (One xs) good few =
    (omega (arith, length-take m ss, length-take 14 ss, ap length good.1), good.1 ∙ take_both 14 m ss (omega (arith, ap length good.1)), good.2)
good_front m ss (Two xs) good few =
    (omega (arith, length-take m ss, length-take 7 ss, ap length good.1), good.1 ∙ take_both 7 m ss (omega (arith, ap length good.1)))

planned_front : (used : ℕ) (cs : List Chunk) (ss : List ℕ) (m : ℕ) → Planned None used cs ss → taken_in cs ≤ m → Planned None used cs (take m ss)
unfolding taken_in
planned_front used [] ss m planned few = tt
planned_front used (c ∷ cs) ss m planned few =
    let whole : taken_by c + (m - taken_by c) ≡ m = omega arith in
    let behind : drop (taken_by c) (take m ss) ≡ take (m - taken_by c) (drop (taken_by c) ss) =
    ap (λ (n : ℕ). drop (taken_by c) (take n ss)) (sym whole) ∙ drop-take (taken_by c) (m - taken_by c) ss in
    (good_front m ss c planned.0 (omega arith), rw behind (planned_front (used + 2 + width_by c) cs (drop (taken_by c) ss) (m - taken_by c) planned.1 (omega arith)))

-- ---- a block

module _ {time : ℕ} {list : List ℤ} {limit : Option ℕ} {l₀ l₁ : List ℕ} {p : Plan} (storable : BlockStorable time list limit (length l₀)) (plans : Plans list limit l₀ p l₁) where
  abbrev first : List ℕ
  first = chunk_bytes (map chunk_word (chunks_of limit list))

  abbrev last : List ℕ
  last = deltas (take p.taken list)

  first_size : length first ≡ 2 * p.chunks
  first_size = omega (arith, plans.chunks, length-chunks (map chunk_word (chunks_of limit list)), length-map (chunks_of limit list) chunk_word)

  all_used : p.used ≡ used_of limit list
  all_used = plans.used ∙ sym (used_is limit list storable.plannable.eight)

  bodied : body limit list ≡ first ++ last
  unfolding body
  bodied = ap (λ (n : ℕ). first ++ deltas (take n list)) (sym plans.taken)

  pub used_sum : p.used ≡ 8 + length first + length last
  used_sum = omega (arith, all_used, ap length bodied ∙ length-append first last)

  pub padded_fits : (p.used ≤ p.bytes) × (p.bytes ≤ length l₀)
  padded_fits =
      let size : p.bytes ≡ size_of limit list = plans.bytes ∙ ap up_four all_used in
      (omega (arith, plans.bytes), omega (arith, size, storable.room))

  pub used_fits : p.used ≤ length l₀
  used_fits = omega (arith, all_used, storable.room)

  room : 8 + length first + length last ≤ length l₀
  room = omega (arith, used_sum, used_fits)

  stands : take (2 * p.chunks) (between 8 p.used l₁) ≡ first
  stands =
      let there : take (length first) (between 8 p.used (sets l₀ 8 first)) ≡ first = part_first l₀ 8 first last room p.used (omega (arith, used_sum)) in
      rw (plans.stored, ← first_size) there

  pub carriable : Carriable (take p.taken list) p.chunks (between 8 p.used l₁)
  unfolding taken_of
  carriable =
      let cs = chunks_of limit list in
      let planned = planned_front 8 cs (map symbol_of list) p.taken (planned_free limit 8 cs (map symbol_of list) (block-planned limit list storable.plannable.eight)) (omega (arith, plans.taken)) in
      let size : length l₁ ≡ length l₀ = ap length plans.stored ∙ length-sets l₀ 8 first in
      record {
        valid = valid-take p.taken list storable.valid;
        plan = cs;
        planned = rw take-symbols at planned;
        takes = omega (arith, plans.taken, length-take p.taken list, plans.inside);
        count = plans.chunks;
        stands = stands;
        room = simp (length-take, length-drop) (omega (arith, size, used_sum, first_size, used_fits));
      }

  module _ {l₂ : List ℕ} (stored : l₂ ≡ put_mid 8 (p.used - 8) l₁ (take (2 * p.chunks) (between 8 p.used l₁) ++ last)) where
    whole : l₂ ≡ sets l₀ 8 (body limit list)
    whole =
        stored ∙ ap (λ (bytes : List ℕ). put_mid 8 (p.used - 8) l₁ (bytes ++ last)) stands ∙ ap (λ (l : List ℕ). put_mid 8 (p.used - 8) l (first ++ last)) plans.stored
        ∙ part_joined l₀ 8 first last room (p.used - 8) (omega (arith, used_sum)) ∙ ap (sets l₀ 8) (sym bodied)

    pub filled : (base feedback : ℕ) (zeros l₃ l₄ : List ℕ) → zeros ≡ replicate (length (between p.used p.bytes l₂)) 0 → l₃ ≡ put_mid p.used (p.bytes - p.used) l₂ zeros
        → l₄ ≡ sets l₃ 0 (header base p.taken time feedback) → BlockStored base time feedback list limit l₀ (record { bytes = p.bytes; taken = p.taken }) l₄
    unfolding block_bytes header
    filled base feedback zeros l₃ l₄ are stands headed =
        let n = p.bytes - p.used in
        let room : p.used + n ≤ length l₂ = omega (arith, padded_fits, ap length whole, length-sets l₀ 8 (body limit list)) in
        let fits : p.used + length (zero_bytes n) ≤ length l₂ = omega (arith, room, length-zero_bytes n) in
        let count : length (between p.used p.bytes l₂) ≡ n = simp (length-take, length-drop) (omega (arith, room)) in
        let is : zeros ≡ zero_bytes n = rw (are, count) (zeros_are n) in
        let padded : l₃ ≡ sets l₂ p.used (zero_bytes n) = rw (stands, is) (part_sets l₂ p.used n (zero_bytes n) (sym (length-zero_bytes n)) fits) in
        let size : p.bytes ≡ size_of limit list = plans.bytes ∙ ap up_four all_used in
        let pad = zero_bytes (size_of limit list - used_of limit list) in
        let head = header base (taken_of limit list) time feedback in
        let rest : l₃ ≡ sets l₀ 8 (body limit list ++ pad) = padded ∙ rw (all_used, size, whole) (sets_append l₀ 8 (body limit list) pad) in
        let whole-block : sets (sets l₀ 8 (body limit list ++ pad)) 0 head ≡ sets l₀ 0 (head ++ body limit list ++ pad) =
        sets_before l₀ 0 8 head (body limit list ++ pad) (omega arith) ∙ sets_append l₀ 0 head (body limit list ++ pad) in
        record {
          size = size;
          taken = plans.taken;
          block = headed ∙ ap₂ (λ (n : ℕ) (l : List ℕ). sets l 0 (header base n time feedback)) plans.taken rest ∙ whole-block;
        }

-- ---- the room that it needs

pub plan-size : {list : List ℤ} {limit : Option ℕ} {old new : List ℕ} {p : Plan} → Within limit 8 → Plans list limit old p new → p.bytes ≡ size_of limit list
plan-size {list} {limit} eight plans = plans.bytes ∙ ap up_four (plans.used ∙ sym (used_is limit list eight))

-- a limit within the room keeps every block within it
pub limit-enough : (limit : Option ℕ) (room size : ℕ) (within : Bool) {P : ℕ → Type 0} → MatchOption limit (within ≡ false) P → ((bytes : ℕ) → P bytes → within ≡ leb bytes room)
    → Within limit size → within ≡ true → size ≤ room
limit-enough None room size within tells means fits holds = absurd (false≢true (sym tells ∙ holds))
limit-enough (Some bytes) room size within tells means fits holds = omega (arith, fits, leb-true bytes room (sym (means bytes tells) ∙ holds))

module _ (room size : ℕ) where
  pub enough : size ≤ room → None ≡ then_some (ltb room size) size
  enough fits = rw (le-ltb room size fits)

  -- what the code learns of it
  pub lacked : (needed : ℕ) → then_some (ltb room size) size ≡ Some needed → (needed ≡ size) × (room < size)
  lacked needed lacks =
      by_test (ltb room size)
      (λ e. (sym (same_Some size needed (rw e at lacks)), ltb-true room size e))
      (λ e. absurd (none-some needed (rw e at lacks)))

  pub suffices : then_some (ltb room size) size ≡ None → size ≤ room
  suffices none = by_test (ltb room size) (λ e. absurd (none-some size (sym (rw e at none)))) (λ e. ltb-false room size e)
