-- Walking the packets of a block gives its list: what is to come falls by one entry at each step.
use Prim.Native.Nat.{ℕ, suc, ◌+◌, ◌%◌, ◌≤◌, ◌<◌}
use mathlib.Core.Path.{◌≡◌, refl, sym, ap, ◌∙◌, subst}
use mathlib.Core.Logic.{◌⊎◌, inl, inr}
use mathlib.Core.List.{List, [], ◌∷◌, ◌++◌}
use native.Mathlib.Numerals.{add-one}
use native.Mathlib.Decide.{dec_lt}
use native.Mathlib.Omega.{arith}
use borrow.Author.Tests.{lt-ltb, le-ltb}
use lib.IntN.{ℤ}
use lib.ListN.{length, take, drop, length-take, drop_of_length-le}
use Rattle.std.specs.Prelude.{Option, None, Some}
use lib.Seq.{drop-cons, get_or-take, length-take-le}
use Rattle.kinds.specs.declared.Seq.{Seq}
use Rattle.twcc.specs.Words.{bytes_of, word_of, entries}
use Rattle.twcc.specs.Chunks.{stands_for}
use Rattle.twcc.specs.Block.{base_of, symbols, block_symbols, listed}
use Rattle.twcc.proofs.Reading.{deltas-there}
use Rattle.twcc_cursors.specs.Cursors.{full_chunk, next_delta}
use Rattle.twcc_cursors.specs.Packets.{first_packets, symbol_here, packets_after, packet_at, on_chunk, from_chunk, next_packet, Walks}
use Rattle.twcc_cursors.specs.declared.NextChunk.{NextChunk}
use Rattle.twcc_cursors.specs.declared.Deltas.{Deltas}
use Rattle.twcc_cursors.specs.declared.Packets.{Packets}
use Rattle.twcc_cursors.specs.declared.NextPacket.{NextPacket}
use Rattle.twcc_cursors.proofs.Steps.{FullIs, full_is, drop_clamp}

-- ---- one step of the packets

module _ (s : List ℕ) (p : Packets) where
  pub next_here : p.place < p.end → next_packet s p ≡ Some (packet_at s p)
  unfolding next_packet
  next_here inside = simp (lt-ltb _ _ inside)

  pub next_chunk_lem : {step : Option NextChunk} → p.end ≤ p.place
      → full_chunk (drop p.chunks.at s) p.chunks.at p.chunks.left ≡ step → next_packet s p ≡ from_chunk s p step
  unfolding next_packet
  next_chunk_lem over is = simp (le-ltb _ _ over) (ap (from_chunk s p) is)

-- ---- the symbols to come

to_come : List ℕ → Packets → List ℕ
to_come s p = drop p.place (take p.end (stands_for p.chunk)) ++ symbols (drop p.chunks.at s) p.chunks.left

come_here : (s : List ℕ) (p : Packets) → p.place < p.end → p.end ≤ length (stands_for p.chunk)
    → to_come s p ≡ symbol_here p ∷ to_come s (packets_after s p)
unfolding to_come
come_here s p inside size =
    let part = take p.end (stands_for p.chunk) in
    let there : p.place < length part = rw (length-take-le p.end (stands_for p.chunk) size) inside in
    rw (add-one p.place, drop-cons part p.place 0 there, get_or-take p.end (stands_for p.chunk) p.place 0 inside) refl

come_chunk : (s : List ℕ) (p : Packets) → p.end ≤ p.place → to_come s p ≡ symbols (drop p.chunks.at s) p.chunks.left
unfolding to_come
come_chunk s p over =
    let few : length (take p.end (stands_for p.chunk)) ≤ p.place = rw length-take (omega arith) in
    rw (drop_of_length-le (take p.end (stands_for p.chunk)) few) refl

come_new : (s : List ℕ) (p : Packets) (got : NextChunk)
    → to_come s (on_chunk p got) ≡ take got.count (stands_for got.chunk) ++ symbols (drop got.next.at s) got.next.left
unfolding to_come
come_new s p got = refl

-- the cursor that the next packet is read at
record Ready (s : List ℕ) (p q : Packets) (ss : List ℕ) : Type 0 where
  next : next_packet s p ≡ Some (packet_at s q)
  number : q.number ≡ p.number
  deltas : q.deltas ≡ p.deltas
  size : q.end ≤ length (stands_for q.chunk)
  come : symbol_here q ∷ to_come s (packets_after s q) ≡ ss

record Ended (s : List ℕ) (p : Packets) (ss : List ℕ) : Type 0 where
  next : next_packet s p ≡ None
  none : ss ≡ []

ready : (s : List ℕ) (p : Packets) → p.end ≤ length (stands_for p.chunk) → Ended s p (to_come s p) ⊎ ((q : Packets) × Ready s p q (to_come s p))
ready s p size = by_place (dec_lt p.place p.end)
  where
    at_chunk : p.end ≤ p.place → (step : Option NextChunk) → full_chunk (drop p.chunks.at s) p.chunks.at p.chunks.left ≡ step
        → FullIs s (symbols (drop p.chunks.at s) p.chunks.left) step → Ended s p (to_come s p) ⊎ ((q : Packets) × Ready s p q (to_come s p))
    at_chunk over None is full = inl (record { next = next_chunk_lem s p over is; none = come_chunk s p over ∙ full })
    at_chunk over (Some got) is full =
        inr (
          on_chunk p got,
          record {
            next = next_chunk_lem s p over is;
            number = refl;
            deltas = refl;
            size = full.size;
            come =
                sym (come_here s (on_chunk p got) full.some full.size)
                ∙ come_new s p got
                ∙ sym full.more
                ∙ sym (come_chunk s p over);
          },
        )

    by_place : Dec (p.place < p.end) → Ended s p (to_come s p) ⊎ ((q : Packets) × Ready s p q (to_come s p))
    by_place (yes inside) =
        inr (p, record { next = next_here s p inside; number = refl; deltas = refl; size = size; come = sym (come_here s p inside size) })
    by_place (no over) =
        at_chunk (omega arith) _ refl (full_is s (drop p.chunks.at s) p.chunks.at p.chunks.left refl)

-- ---- the walk

-- the packet's word, and the delta bytes after it
word-here : (s : List ℕ) (q : Packets) → (next_delta s q.deltas (symbol_here q)).word ≡ word_of (symbol_here q) (drop q.deltas.at s)
unfolding next_delta
word-here s q = refl

rest-here : (s : List ℕ) (q : Packets)
    → drop (packets_after s q).deltas.at s ≡ drop (bytes_of (symbol_here q)) (drop q.deltas.at s)
unfolding next_delta
rest-here s q = drop_clamp s q.deltas.at (bytes_of (symbol_here q))

packet_at_lem : (s : List ℕ) (q : Packets) {number : Seq} {word : ℤ} → q.number ≡ number
    → (next_delta s q.deltas (symbol_here q)).word ≡ word → ◌≡◌ {A = NextPacket} (packet_at s q) (record { number = number; word = word; next = packets_after s q })
unfolding packet_at
packet_at_lem s q a-number a_word = λ i. record { number = a-number i; word = a_word i; next = packets_after s q }

-- what walking owes of a cursor whose symbols to come are ss
abbrev Owes : List ℕ → ℕ → ℕ → List ℕ → Packets → Type 0
Owes s base k ss p =
    p.number.0 ≡ (base + k) % 65536 → p.end ≤ length (stands_for p.chunk) → to_come s p ≡ ss
    → Walks s base k p (entries ss (drop p.deltas.at s))

walk-over : (s : List ℕ) (p : Packets) → to_come s p ≡ [] → Ended s p (to_come s p) ⊎ ((q : Packets) × Ready s p q (to_come s p))
    → next_packet s p ≡ None
walk-over s p come (inl ended) = ended.next
walk-over s p come (inr (q, at)) = let none = ap length (at.come ∙ come) in absurd (omega arith)

walk_more : (s : List ℕ) (base k : ℕ) (p : Packets) (x : ℕ) (ss : List ℕ) → p.number.0 ≡ (base + k) % 65536 → to_come s p ≡ x ∷ ss
    → ((q : Packets) → Owes s base (suc k) ss q) → Ended s p (to_come s p) ⊎ ((q : Packets) × Ready s p q (to_come s p))
    → Walks s base k p (entries (x ∷ ss) (drop p.deltas.at s))
unfolding entries
walk_more s base k p x ss number come further (inl ended) =
    let none = ap length (sym come ∙ ended.none) in absurd (omega arith)
walk_more s base k p x ss number come further (inr (q, at)) =
    let whole = at.come ∙ come in
    let head : symbol_here q ≡ x = cc in
    let rest : to_come s (packets_after s q) ≡ ss = cc in
    let deltas : drop q.deltas.at s ≡ drop p.deltas.at s = ap (λ (d : Deltas). drop d.at s) at.deltas in
    let here : q.number ≡ record { 0 = (base + k) % 65536 } = at.number ∙ (λ i. record { 0 = number i }) in
    let same : q.number.0 ≡ (base + k) % 65536 = ap (λ (n : Seq). n.0) here in
    let word : (next_delta s q.deltas (symbol_here q)).word ≡ word_of x (drop p.deltas.at s) = word-here s q ∙ rw (head, deltas) refl in
    let after : drop (packets_after s q).deltas.at s ≡ drop (bytes_of x) (drop p.deltas.at s) = rest-here s q ∙ rw (head, deltas) refl in (
      packets_after s q,
      (
        at.next ∙ ap Some (packet_at_lem s q here word),
        subst (λ (ds : List ℕ). Walks s base (suc k) (packets_after s q) (entries ss ds)) after
            (further (packets_after s q) (omega arith) at.size rest),
      ),
    )

walk : (s : List ℕ) (base k : ℕ) (ss : List ℕ) (p : Packets) → Owes s base k ss p
unfolding entries
walk s base k [] p number size come = walk-over s p come (ready s p size)
walk s base k (x ∷ ss) p number size come = walk_more s base k p x ss number come (walk s base (suc k) ss) (ready s p size)

-- walking the packets of a block gives its list, the packet at place k numbered base + k modulo 65,536
pub packets_listed : (block : List ℕ) → base_of block < 65536 → Walks block (base_of block) 0 (first_packets block) (listed block)
unfolding listed block_symbols to_come
packets_listed block small =
    subst (λ (ds : List ℕ). Walks block (base_of block) 0 (first_packets block) (entries (block_symbols block) ds)) (deltas-there block)
    (walk block (base_of block) 0 (block_symbols block) (first_packets block) (omega arith) (omega arith) refl)
