-- The loop over a block's chunks: what is left of them is for the entries that are left, and their deltas make the whole.
use Prim.Native.Nat.{ℕ, ◌+◌, ◌-◌, ◌*◌, ◌/◌, ◌%◌, ◌≤◌, ◌<◌, min}
use mathlib.Core.Path.{◌≡◌, refl, sym, ap, ◌∙◌}
use mathlib.Core.List.{List, [], ◌∷◌, ◌++◌, map, append_assoc, append-nil}
use Rattle.std.specs.Prelude.{None}
use Rattle.std.specs.List.{between}
use native.Mathlib.Omega.{arith}
use borrow.Rule.Slice.PartMut.{put_mid}
use lib.IntN.{ℤ}
use lib.ListN.{length, get_or, take, drop, replicate, length-append, length-take, length-drop, length-map, take-append-drop}
use lib.Seq.{take-take, take_all}
use Rattle.octets.proofs.Logic.{nothing}
use Rattle.octets.specs.Bounds.{Below}
use Rattle.twcc.specs.Words.{AllValid, symbol_of, deltas}
use Rattle.twcc.specs.Chunks.{runs_end, ones_end, run_weight, Chunk, Run, One, Two, chunk_word, stands_for, chunk_bytes}
use Rattle.twcc.proofs.Written.{symbols_lt}
use Rattle.twcc_plan.specs.Choice.{taken_by, width_by}
use Rattle.twcc_plan.specs.Plan.{taken_in}
use Rattle.twcc_plan.specs.Planned.{Good, Planned}
use Rattle.twcc_plan.proofs.PlanLaws.{good_agrees, front-run, below_take}
use Rattle.twcc_plan.proofs.BlockLaws.{take-symbols, valid-take, valid-drop}
use Rattle.twcc_plan.proofs.Stepping.{drop-symbols}
use Rattle.twcc_write.specs.Stores.{Begins, ChunkStorable}
use Rattle.twcc_write.proofs.Beginning.{deltas-append, begins_behind}

-- these chunks are for just these entries, p bytes of deltas stand, and those that are left fill the room
pub record Carrying (list : List ℤ) (chunks : List ℕ) (rest : List ℤ) (p : ℕ) (out : List ℕ) : Type 0 where
  pub left : List Chunk
  pub used : ℕ
  pub planned : Planned None used left (map symbol_of rest)
  pub takes : taken_in left ≡ length rest
  pub stands : chunks ≡ chunk_bytes (map chunk_word left)
  pub valid : AllValid rest
  pub room : p + length (deltas rest) ≡ length out
  pub whole : take p out ++ deltas rest ≡ deltas list

run-entries : (ss : List ℕ) (c : Chunk) → Good ss c → chunk_word c < runs_end → (chunk_word c / run_weight ≤ 2) × (take (taken_by c) ss ≡ replicate (taken_by c) (chunk_word c / run_weight))
unfolding chunk_word taken_by
run-entries ss (Run s r) good run =
    let symbol : (s * run_weight + r) / run_weight ≡ s = omega arith in
    (omega arith, rw symbol (front-run s r ss good.3))
run-entries ss (One xs) good run = absurd (omega arith)
run-entries ss (Two xs) good run = absurd (omega arith)

one-entries : (ss : List ℕ) (c : Chunk) → Good ss c → runs_end ≤ chunk_word c → chunk_word c < ones_end → Below 2 (take (taken_by c) ss)
unfolding chunk_word taken_by
one-entries ss (Run s r) good vector one = absurd (omega arith)
one-entries ss (One xs) good vector one =
    let few : length xs ≤ 14 = omega (arith, ap length good.1 ∙ length-take 14 ss) in
    let below : Below 2 (take (length xs) (take 14 ss)) = rw (← good.1) (below_take 2 (length xs) xs good.2) in
    rw (take-take (length xs) 14 ss few) at below
one-entries ss (Two xs) good vector one = absurd (omega arith)

-- the next chunk's entries, and what storing their deltas leaves
pub record Carried (list : List ℤ) (chunk : ℕ) (next : List ℕ) (rest : List ℤ) (n p : ℕ) (out : List ℕ) : Type 0 where
  pub storable : ChunkStorable chunk (take n rest) (between p (length out) out)
  pub further : (k : ℕ) (part : List ℕ) → length part ≡ length out - p → Begins (deltas (take n rest)) k part
      → Carrying list next (drop n rest) (p + k) (put_mid p (length out - p) out part)

two_bytes : (pair next others : List ℕ) (high low : ℕ) → pair ++ next ≡ high ∷ low ∷ others → length pair ≡ 2 → (get_or pair 0 0 ≡ high) × (get_or pair 1 0 ≡ low) × (next ≡ others)
two_bytes [] next others high low same two = absurd (omega arith)
two_bytes (a ∷ []) next others high low same two = absurd (omega arith)
two_bytes (a ∷ b ∷ []) next others high low same two = (cc, cc, cc)
two_bytes (a ∷ b ∷ c ∷ pair) next others high low same two = absurd (omega arith)

module _ {list : List ℤ} {chunks : List ℕ} {rest : List ℤ} {p : ℕ} {out : List ℕ} (d : Carrying list chunks rest p out) where
  split : (n : ℕ) → deltas rest ≡ deltas (take n rest) ++ deltas (drop n rest)
  split n = ap deltas (sym (take-append-drop n rest)) ∙ deltas-append (take n rest) (drop n rest)

  sizes : (n : ℕ) → length (deltas rest) ≡ length (deltas (take n rest)) + length (deltas (drop n rest))
  sizes n = ap length (split n) ∙ length-append (deltas (take n rest)) (deltas (drop n rest))

  next_chunk : (ch : Chunk) (later : List Chunk) (used : ℕ) → Planned None used (ch ∷ later) (map symbol_of rest) → taken_by ch + taken_in later ≡ length rest
      → (chunk n : ℕ) → chunk ≡ chunk_word ch → n ≡ min (length (stands_for chunk)) (length rest) → Carried list chunk (chunk_bytes (map chunk_word later)) rest n p out
  next_chunk ch later used planned takes chunk n is few =
      let ss = map symbol_of rest in
      let agrees = good_agrees ss ch (symbols_lt rest) planned.0 in
      let stand : length (stands_for chunk) ≡ length (stands_for (chunk_word ch)) = ap (λ (w : ℕ). length (stands_for w)) is in
      let all : n ≡ taken_by ch = omega (arith, agrees.all, length-map rest symbol_of) in
      let own : take n ss ≡ map symbol_of (take n rest) = take-symbols n rest in
      let inside : p ≤ length out = omega (arith, d.room) in
      let size : length (take n rest) ≡ n = omega (arith, length-take n rest) in
      record {
        storable = record {
          storable = record { valid = valid-take n rest d.valid; room = simp (length-take, length-drop) (omega (arith, sizes n, d.room)) };
          run = λ run.
              let entries = run-entries ss ch planned.0 (rw is at run) in
              (rw is entries.0, rw (size, is, ← own, all) entries.1);
          ones = λ vector one. rw (← own, all) (one-entries ss ch planned.0 (rw is at vector) (rw is at one));
        };
        further = λ k part kept stands.
            let own_front : Begins (take p out) p out = record { size = omega (arith, length-take p out); front = refl } in
            let begins = begins_behind (take p out) (deltas (take n rest)) p k out part (drop (length out - p) (drop p out)) own_front stands in
            record {
              left = later;
              used = used + 2 + width_by ch;
              planned = rw (drop-symbols n rest, all) planned.1;
              takes = omega (arith, length-drop n rest);
              stands = refl;
              valid = valid-drop n rest d.valid;
              room = simp (length-append, length-take, length-drop) (omega (arith, sizes n, d.room, stands.size));
              whole =
                  ap (λ (l : List ℕ). l ++ deltas (drop n rest)) begins.front ∙ append_assoc (take p out) (deltas (take n rest)) (deltas (drop n rest))
                  ∙ ap (λ (l : List ℕ). take p out ++ l) (sym (split n)) ∙ d.whole;
            };
      }

  pub carried : (pair next : List ℕ) → chunks ≡ pair ++ next → length pair ≡ 2 → (chunk n : ℕ) → chunk ≡ 256 * get_or pair 0 0 + get_or pair 1 0
      → n ≡ min (length (stands_for chunk)) (length rest) → Carried list chunk next rest n p out
  unfolding chunk_bytes taken_in
  carried pair next parts two chunk n joined few = go d.left refl
    where
      go : (left : List Chunk) → d.left ≡ left → Carried list chunk next rest n p out
      go [] e = let none : chunks ≡ [] = rw e at d.stands in absurd (omega (arith, ap length parts ∙ length-append pair next, ap length none))
      go (ch ∷ later) e =
          let stands : chunks ≡ chunk_word ch / 256 ∷ chunk_word ch % 256 ∷ chunk_bytes (map chunk_word later) = rw e at d.stands in
          let read = two_bytes pair next _ _ _ (sym parts ∙ stands) two in
          rw read.2 (next_chunk ch later d.used (rw e at d.planned) (rw e at d.takes) chunk n (omega (arith, joined, read)) few)

  pub carried_over : length chunks < 2 → out ≡ deltas list
  unfolding chunk_bytes taken_in deltas
  carried_over short = go d.left refl
    where
      go : (left : List Chunk) → d.left ≡ left → out ≡ deltas list
      go (ch ∷ later) e = absurd (omega (arith, let stands = rw e at d.stands in ap length stands))
      go [] e =
          let none : rest ≡ [] = nothing rest (let takes = rw e at d.takes in sym takes) in
          let room : p + 0 ≡ length out = rw none at d.room in
          let whole = rw (none, append-nil) at d.whole in
          sym (take_all p out (omega arith)) ∙ whole
