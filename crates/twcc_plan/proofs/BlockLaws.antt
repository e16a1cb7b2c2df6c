-- Laws of blocks, for any list and any limit that the writer takes: the size, what a block reads as, that it keeps within
-- its limit, and that it takes an entry where its limit is absent or at least 24.
use Prim.Native.Nat.{ℕ, zero, suc, ◌+◌, ◌*◌, ◌-◌, ◌≤◌, ◌<◌}
use mathlib.Core.Path.{◌≡◌, refl, ap, ◌∙◌}
use mathlib.Core.List.{List, [], ◌∷◌, ◌++◌, map, append_assoc}
use Rattle.std.specs.Prelude.{Option}
use mathlib.Core.Bool.{true}
use native.Mathlib.Omega.{arith}
use borrow.Author.Tests.{leb-true, ltb-true, le-leb, lt-ltb}
use lib.Dec.{ltb}
use lib.IntN.{ℤ, pos, negsuc}
use lib.ListN.{length, take, drop, length-append, length-map}
use Rattle.lent.specs.Bytes.{zero_bytes}
use Rattle.lent.proofs.Laws.{length-zero_bytes}
use Rattle.twcc.specs.Time.{latest, time_of, time_bits}
use Rattle.octets.specs.Big.{be}
use Rattle.octets.proofs.Logic.{by_test}
use Rattle.twcc.proofs.Written.{time-back, time_bits_lem, symbols_lt, length-deltas, entries-back, symbols-back, after-back}
use Rattle.twcc.specs.Words.{half, Valid, AllValid, symbol_of, bits16, delta_bytes, deltas, width_of}
use Rattle.octets.specs.Bounds.{Below}
use Rattle.twcc.specs.Chunks.{Chunk, chunk_word, chunk_bytes}
use Rattle.twcc.specs.Block.{base_of, status_count, reference_time, feedback_count, block_symbols, block_deltas, listed}
use Rattle.twcc_plan.specs.Front.{front}
use Rattle.twcc_plan.specs.Choice.{taken_by, width_by}
use Rattle.twcc_plan.specs.Plan.{used_by}
use Rattle.twcc_plan.specs.Block.{most_entries, in_range, first_bad, header, chunks_of, taken_of, body, used_of, size_of, block_bytes}
use Rattle.twcc_plan.specs.Limits.{Within, Wide}
use Rattle.twcc_plan.specs.Planned.{Planned}
use Rattle.twcc_plan.proofs.PlanLaws.{chunk_lt, below_drop, plan-planned, planned-reads, planned-used, planned-small, planned-within, plan-takes}

-- ---- lists of words

pub take-symbols : (n : ℕ) (list : List ℤ) → take n (map symbol_of list) ≡ map symbol_of (take n list)
take-symbols zero list = refl
take-symbols (suc n) [] = refl
take-symbols (suc n) (w ∷ list) = ap (λ (ss : List ℕ). symbol_of w ∷ ss) (take-symbols n list)

pub valid-take : (n : ℕ) (list : List ℤ) → AllValid list → AllValid (take n list)
valid-take zero list valid = tt
valid-take (suc n) [] valid = tt
valid-take (suc n) (w ∷ list) valid = (valid.0, valid-take n list valid.1)

pub valid-drop : (n : ℕ) (list : List ℤ) → AllValid list → AllValid (drop n list)
valid-drop zero list valid = valid
valid-drop (suc n) [] valid = tt
valid-drop (suc n) (w ∷ list) valid = valid-drop n list valid.1

range_valid : (w : ℤ) → in_range w ≡ true → Valid w
unfolding in_range
range_valid (pos n) e = leb-true n half e
range_valid (negsuc n) e = ltb-true n half e

-- a list in which no word is bad can be written
pub none_bad : (list : List ℤ) → length list ≤ first_bad list → AllValid list
unfolding front
none_bad [] all-fine = tt
none_bad (w ∷ list) all-fine =
    by_test (in_range w)
    (λ e. let all : suc (length list) ≤ suc (front in_range list) = rw e at all-fine in (range_valid w e, none_bad list (omega arith)))
    (λ e. absurd (let z : suc (length list) ≤ 0 = rw e at all-fine in omega arith))

valid_range : (w : ℤ) → Valid w → in_range w ≡ true
unfolding in_range
valid_range (pos n) valid = le-leb n half valid
valid_range (negsuc n) valid = lt-ltb n half valid

pub valid_fine : (list : List ℤ) → AllValid list → first_bad list ≡ length list
unfolding front
valid_fine [] valid = refl
valid_fine (w ∷ list) valid = rw (valid_range w valid.0) (ap suc (valid_fine list valid.1))

pub length-chunks : (chunks : List ℕ) → length (chunk_bytes chunks) ≡ 2 * length chunks
unfolding chunk_bytes
length-chunks [] = refl
length-chunks (chunk ∷ chunks) = omega (arith, length-chunks chunks)

-- ---- that what is written are bytes

pub below_append : (b : ℕ) (xs ys : List ℕ) → Below b xs → Below b ys → Below b (xs ++ ys)
below_append b [] ys first second = second
below_append b (x ∷ xs) ys first second = (first.0, below_append b xs ys first.1 second)

zeros-bytes : (n : ℕ) → Below 256 (zero_bytes n)
unfolding zero_bytes
zeros-bytes zero = tt
zeros-bytes (suc n) = (omega arith, zeros-bytes n)

delta_bytes_lem : (w : ℤ) → Valid w → Below 256 (delta_bytes w)
unfolding delta_bytes symbol_of bits16
delta_bytes_lem (pos n) valid =
    by_test (ltb n 256)
    (λ e. rw e (ltb-true n 256 e, tt))
    (λ e. rw e (by_test (ltb n half) (λ f. rw f (omega arith, (omega arith, tt))) (λ f. rw f tt)))
delta_bytes_lem (negsuc n) valid = (omega arith, (omega arith, tt))

deltas-bytes : (list : List ℤ) → AllValid list → Below 256 (deltas list)
unfolding deltas
deltas-bytes [] valid = tt
deltas-bytes (w ∷ list) valid = below_append 256 (delta_bytes w) (deltas list) (delta_bytes_lem w valid.0) (deltas-bytes list valid.1)

chunks-bytes : (limit : Option ℕ) (used : ℕ) (cs : List Chunk) (ss : List ℕ) → Below 3 ss → Planned limit used cs ss → Below 256 (chunk_bytes (map chunk_word cs))
unfolding chunk_bytes
chunks-bytes limit used [] ss below planned = tt
chunks-bytes limit used (c ∷ cs) ss below planned =
    let few = chunk_lt ss c below planned.0 in
    (omega arith, (omega arith, chunks-bytes limit (used + 2 + width_by c) cs (drop (taken_by c) ss) (below_drop 3 (taken_by c) ss below) planned.1))

-- ---- one block

pub block-takes : (limit : Option ℕ) (list : List ℤ) → Wide limit → zero < length list → zero < taken_of limit list
unfolding taken_of chunks_of
block-takes limit list wide there = plan-takes limit (map symbol_of list) wide (symbols_lt list) (rw length-map there)

module _ (limit : Option ℕ) (list : List ℤ) (eight : Within limit 8) where
  pub block-planned : Planned limit 8 (chunks_of limit list) (map symbol_of list)
  unfolding chunks_of
  block-planned = plan-planned limit 0 8 0 (map symbol_of list) (symbols_lt list) eight

  pub taken-fits : taken_of limit list ≤ length list
  unfolding taken_of
  taken-fits = rw length-map at (planned-reads limit 8 (chunks_of limit list) (map symbol_of list) (symbols_lt list) block-planned).fits

  -- the bytes that the plan counts are those that are written
  pub used_is : used_of limit list ≡ used_by 8 (chunks_of limit list)
  unfolding body taken_of
  used_is =
      let cs = chunks_of limit list in
      let n = taken_of limit list in
      let planned = planned-used limit 8 cs (map symbol_of list) (symbols_lt list) block-planned in
      let width : length (deltas (take n list)) ≡ width_of (take n (map symbol_of list)) = rw take-symbols (length-deltas (take n list)) in
      omega (arith, planned, width, length-append (chunk_bytes (map chunk_word cs)) (deltas (take n list)), length-chunks (map chunk_word cs), length-map cs chunk_word)

  -- at most four bytes for each entry of the list, behind the header
  pub size_small : size_of limit list ≤ 8 + 4 * length list
  unfolding taken_of
  size_small = omega (arith, used_is, taken-fits, planned-small limit 8 (chunks_of limit list) (map symbol_of list) (symbols_lt list) block-planned)

  pub size-within : Within limit (size_of limit list)
  size-within = rw used_is (planned-within limit 8 (chunks_of limit list) (map symbol_of list) block-planned)

  module _ (base time feedback : ℕ) where
    abbrev block : List ℕ
    block = block_bytes base time feedback limit list

    pub block-length : length block ≡ size_of limit list
    unfolding block_bytes header
    block-length = simp (length-append, length-zero_bytes) (omega arith)

    pub block_within : Within limit (length block)
    block_within = rw block-length size-within

    pub block_base : base_of block ≡ base
    unfolding block_bytes header
    block_base = omega arith

    pub block-count : status_count block ≡ taken_of limit list
    unfolding block_bytes header
    block-count = omega arith

    pub block-feedback : feedback_count block ≡ feedback
    unfolding block_bytes header
    block-feedback = refl

    pub block-time : time ≤ latest → reference_time block ≡ time
    unfolding block_bytes header
    block-time fits =
        let bits = time_bits_lem time fits in
        let image : be 3 block 4 ≡ time_bits time = omega arith in
        ap time_of image ∙ time-back time fits

    -- the symbols of its chunks are those of the entries that it took; after the chunks come their deltas and the padding
    pub block_symbols_lem : block_symbols block ≡ map symbol_of (take (taken_of limit list) list)
    unfolding block_symbols block_bytes header body taken_of
    block_symbols_lem =
        let n = taken_of limit list in
        let ws = map chunk_word (chunks_of limit list) in
        let pad = zero_bytes (size_of limit list - used_of limit list) in
        let reads = planned-reads limit 8 (chunks_of limit list) (map symbol_of list) (symbols_lt list) block-planned in
        rw (block-count, append_assoc (chunk_bytes ws) (deltas (take n list)) pad)
        (symbols-back ws (deltas (take n list) ++ pad) n reads.takes ∙ reads.symbols ∙ take-symbols n list)

    pub block_deltas_lem : block_deltas block ≡ deltas (take (taken_of limit list) list) ++ zero_bytes (size_of limit list - used_of limit list)
    unfolding block_deltas block_bytes header body taken_of
    block_deltas_lem =
        let n = taken_of limit list in
        let ws = map chunk_word (chunks_of limit list) in
        let pad = zero_bytes (size_of limit list - used_of limit list) in
        let reads = planned-reads limit 8 (chunks_of limit list) (map symbol_of list) (symbols_lt list) block-planned in
        rw (block-count, append_assoc (chunk_bytes ws) (deltas (take n list)) pad) (after-back ws (deltas (take n list) ++ pad) n reads.takes)

    -- it reads as exactly the entries that it took
    pub block-list : AllValid list → listed block ≡ take (taken_of limit list) list
    unfolding listed
    block-list valid =
        let n = taken_of limit list in
        rw (block_symbols_lem, block_deltas_lem) (entries-back (take n list) (zero_bytes (size_of limit list - used_of limit list)) (valid-take n list valid))

    pub block_bytes_lem : AllValid list → length list ≤ most_entries → base < 65536 → time ≤ latest → feedback < 256 → Below 256 block
    unfolding block_bytes header body
    block_bytes_lem valid short small fits low =
        let n = taken_of limit list in
        let few = taken-fits in
        let bits = time_bits_lem time fits in
        let chunks = chunks-bytes limit 8 (chunks_of limit list) (map symbol_of list) (symbols_lt list) block-planned in
        let own = deltas-bytes (take n list) (valid-take n list valid) in
        let pad = zeros-bytes (size_of limit list - used_of limit list) in
        let first : Below 256 (header base n time feedback) = omega arith in
        below_append 256 (header base n time feedback) (body limit list ++ zero_bytes (size_of limit list - used_of limit list)) first
        (below_append 256 (body limit list) (zero_bytes (size_of limit list - used_of limit list))
        (below_append 256 (chunk_bytes (map chunk_word (chunks_of limit list))) (deltas (take n list)) chunks own) pad)
