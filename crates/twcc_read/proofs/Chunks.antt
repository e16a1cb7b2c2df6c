-- The first symbols of a chunk by its kind, and filling a list with the words of a block's chunks, one after the other.
use Prim.Native.Nat.{ℕ, ◌+◌, ◌-◌, ◌≤◌, ◌/◌, ◌%◌, ◌<◌}
use mathlib.Core.Path.{◌≡◌, refl, sym, ap, ◌∙◌}
use mathlib.Core.List.{List, ◌++◌}
use native.Mathlib.Omega.{arith}
use borrow.Rule.Slice.PartMut.{put_mid}
use lib.IntN.{ℤ}
use lib.ListN.{length, take, drop, length-append, length-take, length-drop, replicate}
use lib.Seq.{drop-drop, take_at, drop_at, take_all, length-take-le}
use Rattle.std.proofs.lemmas.List.{take_rest, take-append-drop, take-replicate}
use Rattle.std.proofs.lemmas.Slice.{take-put_mid, drop-put_mid}
use Rattle.lent.proofs.Laws.{sets_over}
use Rattle.twcc.specs.Words.{entries}
use Rattle.twcc.specs.Chunks.{stands_for, unpack, runs_end, ones_end, run_weight}
use Rattle.twcc.specs.Block.{symbols}
use Rattle.twcc.proofs.Entries.{length-entries}
use Rattle.twcc_cursors.specs.declared.Chunks.{Chunks}
use Rattle.twcc_cursors.specs.declared.NextChunk.{NextChunk}
use Rattle.twcc_cursors.proofs.Steps.{IsOver, IsTaken}
use Rattle.twcc_read.specs.Filled.{Filled, AllFilled}
use Rattle.twcc_read.proofs.Filling.{Listing, listing_start, listing_part}
use Rattle.twcc.proofs.Stands.{length-unpack, stands-run, stands_one, stands-two, size-run, size-one, size-two}

-- ---- the first n symbols of a chunk, by its kind

module _ (chunk n : ℕ) where
  pub first_run : n ≤ length (stands_for chunk) → chunk < runs_end → take n (stands_for chunk) ≡ replicate n (chunk / run_weight)
  first_run fits run =
      rw (stands-run chunk run) (take-replicate n (chunk % run_weight) (chunk / run_weight) (omega (arith, size-run chunk run)))

  pub first_ones : n ≡ 14 → runs_end ≤ chunk → chunk < ones_end → take n (stands_for chunk) ≡ unpack 2 14 chunk
  first_ones all vector one = rw (stands_one chunk vector one) (take_all n (unpack 2 14 chunk) (omega (arith, length-unpack 2 14 chunk)))

  pub first_twos : n ≡ 7 → ones_end ≤ chunk → take n (stands_for chunk) ≡ unpack 4 7 chunk
  first_twos all two = rw (stands-two chunk two) (take_all n (unpack 4 7 chunk) (omega (arith, length-unpack 4 7 chunk)))

pub ruleset firsts = (first_run, first_ones, first_twos, size-one, size-two)

-- ---- all chunks of a block

-- the first k places are filled, the deltas go on at d, and the chunks to come list the symbols that are left
pub record Filling (s : List ℕ) (statuses start : ℕ) (c : Chunks) (d k : ℕ) (old list : List ℤ) : Type 0 where
  pub listing : Listing (drop start s) (symbols (drop 8 s) statuses) (d - start) k list
  pub left : drop k (symbols (drop 8 s) statuses) ≡ symbols (drop c.at s) c.left
  pub begun : start ≤ d
  pub inside : d ≤ length s
  pub within : k ≤ length (symbols (drop 8 s) statuses)
  pub behind : drop k list ≡ drop k old
  pub size : length list ≡ length old

pub filling_start : (s : List ℕ) (statuses start : ℕ) (old : List ℤ) → start ≤ length s
    → Filling s statuses start (record { at = 8; left = statuses }) start 0 old old
filling_start s statuses start old inside =
    record { listing = listing_start _ _ _ _ (omega arith); left = refl; begun = omega arith; inside = inside; within = omega arith; behind = refl; size = refl }

-- one chunk's symbols
module _ {s : List ℕ} {statuses start : ℕ} {c : Chunks} {d k : ℕ} {old list : List ℤ} {got : NextChunk}
    (f : Filling s statuses start c d k old list) (t : IsTaken s c got) where
  abbrev front : List ℕ
  front = take got.count (stands_for got.chunk)

  front-size : length front ≡ got.count
  front-size = length-take-le got.count (stands_for got.chunk) (omega (arith, t.count))

  left_is : drop k (symbols (drop 8 s) statuses) ≡ front ++ symbols (drop got.next.at s) got.next.left
  left_is = f.left ∙ t.more

  places : k + got.count ≤ length (symbols (drop 8 s) statuses)
  places =
      let sum : length (symbols (drop 8 s) statuses) - k ≡ got.count + length (symbols (drop got.next.at s) got.next.left) =
      sym (length-drop k (symbols (drop 8 s) statuses)) ∙ ap length left_is ∙ rw (length-append, front-size) refl in
      omega (arith, f.within, sum)

  module _ (enough : length (symbols (drop 8 s) statuses) ≤ length old) where
    pub room : k + got.count ≤ length list
    room = omega (arith, places, f.size)

    pub filling_more : (width count : ℕ) {q : ℕ} {part : List ℤ} → width ≡ got.count → count ≡ got.count
        → Filled (take (length s - d) (drop d s)) (take count (stands_for got.chunk)) q part
        → Filling s statuses start got.next (d + q) (k + got.count) old (put_mid k width list part)
    filling_more width count {q} {part} whole all counted =
        let n = got.count in
        let filled = rw all at counted in
        let from : take (length s - d) (drop d s) ≡ drop (d - start) (drop start s) =
        take_rest s d ∙ ap (λ (i : ℕ). drop i s) (omega (arith, f.begun)) ∙ sym (drop-drop (d - start) start s) in
        let next : front ≡ take n (drop k (symbols (drop 8 s) statuses)) = sym (ap (take n) left_is ∙ take_at front _ n front-size) in
        let size : length part ≡ n = ap length filled.words ∙ length-entries front _ ∙ front-size in
        let eaten : q ≤ length s - d = rw (take_rest, length-drop) at filled.inside in
        let fits : k ≤ length list = omega (arith, room) in
        record {
          listing = listing_part n f.listing next (rw from at filled) (take-put_mid k width list part (k + n) (omega arith) fits) (omega (arith, f.begun)) refl;
          left = sym (drop-drop n k (symbols (drop 8 s) statuses)) ∙ ap (drop n) left_is ∙ drop_at front _ n front-size;
          begun = omega (arith, f.begun);
          inside = omega (arith, f.inside);
          within = places;
          behind = drop-put_mid k width list part (k + n) (omega arith) fits (omega arith) ∙ sym (drop-drop n k list) ∙ ap (drop n) f.behind ∙ drop-drop n k old;
          size = simp (length-append, length-take, length-drop) (omega (arith, f.size, room));
        }

pub filling_over : {s : List ℕ} {statuses start : ℕ} {c : Chunks} {d k : ℕ} {old list : List ℤ} → Filling s statuses start c d k old list
    → IsOver s c → length (symbols (drop 8 s) statuses) ≤ length old → AllFilled s statuses start old list
filling_over {s} {statuses} {start} {c} {d} {k} {old} {list} f o enough =
    let ss = symbols (drop 8 s) statuses in
    let words = entries ss (drop start s) in
    let all : length ss ≤ k = omega (arith, length-drop k ss, ap length (f.left ∙ o.none)) in
    let size : length words ≡ k = length-entries ss (drop start s) ∙ (omega (arith, f.within)) in
    let front : take k list ≡ words = f.listing.words ∙ ap (λ (xs : List ℕ). entries xs (drop start s)) (take_all k ss all) in
    sym (take-append-drop k list) ∙ rw (front, f.behind, ← size) (sym (sets_over words old (omega (arith, size))))
