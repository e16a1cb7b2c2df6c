-- The theorem about cuts, over the definitions: whatever limits are chosen, the blocks read as the list, and the procedure ends.
use Prim.Native.Nat.{ℕ, zero, suc, ◌+◌, ◌%◌, ◌≤◌, ◌<◌}
use mathlib.Core.Path.{◌≡◌, refl, sym, ap, ◌∙◌}
use mathlib.Core.List.{List, [], ◌∷◌, ◌++◌}
use native.Mathlib.Nat.{add-zero}
use native.Mathlib.Omega.{arith}
use lib.IntN.{ℤ}
use lib.ListN.{length, take, drop, length-take, length-drop, take-append-drop}
use Rattle.twcc.specs.Words.{AllValid}
use Rattle.twcc_plan.specs.Block.{most_entries, taken_of}
use Rattle.twcc_plan.proofs.PlanLaws.{wide-eight}
use Rattle.twcc_plan.proofs.BlockLaws.{valid-drop, taken-fits, block-takes, block_within, block_base, block-time, block-feedback, block-list, block_bytes_lem}
use Rattle.twcc_cut.specs.Numbered.{numbered}
use Rattle.twcc_cut.specs.Cut.{Fits, Part, part_of, Cut, AllFit, back, Whole, Way, Follows, nothing_left, one_more}
use Rattle.twcc_cut.proofs.Numbering.{numbered-append, numbered-moved}

-- ---- that it is so

-- whatever blocks the procedure gives take an entry each, keep within their limits, and read as the list
pub cut_whole : (base : ℕ) (list : List ℤ) (parts : List Part) → Cut base list parts → base < 65536 → length list ≤ most_entries → AllValid list → AllFit parts
    → Whole base list parts
unfolding back numbered
cut_whole base list parts nothing_left small short valid fit = record { each = tt; read_back = refl }
cut_whole base list parts (one_more {parts = later} c there cut) small short valid fit =
    let n = taken_of c.limit list in
    let eight = wide-eight c.limit fit.0.0 in
    let rest = cut_whole ((base + n) % 65536) (drop n list) later cut (omega arith) (omega (arith, length-drop n list)) (valid-drop n list valid) fit.1 in
    let place : n ≡ 0 + length (take n list) = omega (arith, length-take n list, taken-fits c.limit list eight) in
    record {
      each = (
        record {
          some-taken = block-takes c.limit list fit.0.0 there;
          are_bytes = block_bytes_lem c.limit list eight base c.time c.feedback valid short small fit.0.1 fit.0.2;
          within = block_within c.limit list eight base c.time c.feedback;
          time-back = block-time c.limit list eight base c.time c.feedback fit.0.1;
          feedback-back = block-feedback c.limit list eight base c.time c.feedback;
        },
        rest.each,
      );
      read_back =
          rw (block_base c.limit list eight base c.time c.feedback, block-list c.limit list eight base c.time c.feedback valid, rest.read_back, numbered-moved, add-zero n)
          (ap (λ (k : ℕ). numbered base 0 (take n list) ++ numbered base k (drop n list)) place
          ∙ sym (numbered-append base 0 (take n list) (drop n list)) ∙ ap (numbered base 0) (take-append-drop n list));
    }

ends : (fuel : ℕ) (way : Way) → ((before : List Part) → Fits (way before)) → (before : List Part) (base : ℕ) (list : List ℤ) → length list ≤ fuel
    → (parts : List Part) × Cut base list parts × Follows way before parts × AllFit parts
ends zero way fits before base [] few = ([], nothing_left, tt, tt)
ends zero way fits before base (w ∷ list) few = absurd (omega arith)
ends (suc fuel) way fits before base [] few = ([], nothing_left, tt, tt)
ends (suc fuel) way fits before base (w ∷ list) few =
    let c = way before in
    let n = taken_of c.limit (w ∷ list) in
    let p = part_of c base (w ∷ list) in
    let fewer : length (drop n (w ∷ list)) ≤ fuel = omega (arith, length-drop n (w ∷ list), block-takes c.limit (w ∷ list) (fits before).0 (omega arith)) in
    let rest = ends fuel way fits (p ∷ before) ((base + n) % 65536) (drop n (w ∷ list)) fewer in
    (p ∷ rest.0, one_more {list = w ∷ list} c (omega arith) rest.1, (refl, rest.2), (fits before, rest.3))

-- Every list of words that can be written, cut in whatever way, ends in blocks that read as the list: without an error,
-- entry for entry, the entry at place k numbered base plus k.
pub cut_ends : (way : Way) → ((before : List Part) → Fits (way before)) → (base : ℕ) (list : List ℤ) → base < 65536 → length list ≤ most_entries → AllValid list
    → (parts : List Part) × Cut base list parts × Follows way [] parts × Whole base list parts
cut_ends way fits base list small short valid =
    let cut = ends (length list) way fits [] base list (omega arith) in
    (cut.0, cut.1, cut.2, cut_whole base list cut.0 cut.1 small short valid cut.3)
