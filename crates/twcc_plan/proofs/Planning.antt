-- The planning loop: the chunks made so far, and those that the plan still has for what remains.
use Prim.Native.Nat.{ℕ, zero, ◌+◌, ◌*◌, ◌-◌, ◌≤◌, ◌<◌}
use mathlib.Core.Path.{◌≡◌, refl, sym, ap, ◌∙◌}
use mathlib.Core.List.{List, [], ◌∷◌, map}
use Rattle.std.specs.Prelude.{Option, Some, None, option_map}
use Rattle.std.specs.List.{between}
use Rattle.std.proofs.lemmas.Option.{none-some}
use Rattle.std.proofs.lemmas.Slice.{between_to_end}
use native.Mathlib.Omega.{arith}
use lib.IntN.{ℤ}
use lib.ListN.{length, drop, length-drop, length-map}
use lib.Seq.{sets, drop-drop, length-sets}
use Rattle.octets.specs.Big.{be_bytes}
use Rattle.lent.proofs.Laws.{sets_append}
use Rattle.twcc.specs.Words.{symbol_of}
use Rattle.twcc.specs.Chunks.{Chunk, chunk_word, chunk_bytes}
use Rattle.twcc.proofs.Written.{symbols_lt}
use Rattle.twcc_plan.specs.Choice.{taken_by, width_by}
use Rattle.twcc_plan.specs.Limits.{up_four, next}
use Rattle.twcc_plan.specs.Plan.{plan, taken_in, used_by}
use Rattle.twcc_plan.specs.Block.{chunks_of, taken_of}
use Rattle.twcc_plan.proofs.PlanLaws.{StepLaw, next_law, good_taken, good_width, chunk_lt, below_drop, plan_end, plan_stop, plan_go}
use Rattle.twcc_plan.specs.Picked.{picked}
use Rattle.twcc_plan.specs.declared.pick.Picked.{Picked}
use Rattle.twcc_plan.specs.Steps.{step_in}
use Rattle.twcc_plan.specs.Promise.{Plans}
use Rattle.twcc_plan.proofs.Stepping.{drop-symbols}

-- the chunks for what remains
abbrev pub left : List ℤ → Option ℕ → ℕ → ℕ → List Chunk
left list limit used taken = plan limit 0 used taken (drop taken (map symbol_of list))

abbrev pub bytes_in : List Chunk → List ℕ
bytes_in cs = chunk_bytes (map chunk_word cs)

pub record Planning (list : List ℤ) (limit : Option ℕ) (out₀ out : List ℕ) (chunks used taken : ℕ) : Type 0 where
  pub inside : taken ≤ length list
  pub few : chunks ≤ taken
  pub small : used ≤ 8 + 4 * taken
  pub same : length out ≡ length out₀
  pub counts : taken_of limit list ≡ taken + taken_in (left list limit used taken)
  pub spends : used_by 8 (chunks_of limit list) ≡ used_by used (left list limit used taken)
  pub makes : length (chunks_of limit list) ≡ chunks + length (left list limit used taken)
  pub stores : sets out (8 + 2 * chunks) (bytes_in (left list limit used taken)) ≡ sets out₀ 8 (bytes_in (chunks_of limit list))

pub planning_start : (list : List ℤ) (limit : Option ℕ) (out : List ℕ) → Planning list limit out out 0 8 0
unfolding taken_of chunks_of
planning_start list limit out =
    record {
      inside = omega arith;
      few = omega arith;
      small = omega arith;
      same = refl;
      counts = omega arith;
      spends = refl;
      makes = omega arith;
      stores = refl;
    }

-- a step that is taken is that of some chunk, and one that is not ends the plan
step-some : (limit : Option ℕ) (used taken : ℕ) (ss : List ℕ) (p : Picked) → step_in limit used ss ≡ Some p
    → (zero < length ss) × ((c : Chunk) × (next limit used taken ss ≡ Some c) × (p ≡ picked c))
unfolding step_in next
step-some limit used taken [] p e = absurd (none-some p e)
step-some limit used taken (s ∷ ss) p e = (omega arith, go (next limit used taken (s ∷ ss)) e)
  where
    go : (o : Option Chunk) → option_map picked o ≡ Some p → (c : Chunk) × (o ≡ Some c) × (p ≡ picked c)
    go None e = absurd (none-some p e)
    go (Some c) e = (c, refl, cc)

step-none : (limit : Option ℕ) (used taken : ℕ) (ss : List ℕ) → step_in limit used ss ≡ None → plan limit 0 used taken ss ≡ []
unfolding step_in next
step-none limit used taken [] e = plan_end limit used taken
step-none limit used taken (s ∷ ss) e = plan_stop limit used taken (s ∷ ss) (go (next limit used taken (s ∷ ss)) e)
  where
    go : (o : Option Chunk) → option_map picked o ≡ None → o ≡ None
    go None e = refl
    go (Some c) e = absurd (none-some (picked c) (sym e))

module _ {list : List ℤ} {limit : Option ℕ} {out₀ out : List ℕ} {chunks used taken : ℕ} (planning : Planning list limit out₀ out chunks used taken) where
  abbrev here : List ℕ
  here = drop taken (map symbol_of list)

  -- what one step gives
  pub record Turned (p : Picked) : Type 0 where
    pub some-taken : zero < p.count
    pub fits : taken + p.count ≤ length list
    pub slim : p.width ≤ 2 * p.count
    pub bits : p.chunk < 65536
    pub further : (new : List ℕ) → new ≡ sets out (8 + 2 * chunks) (be_bytes 2 p.chunk) → (all : ℕ) → all ≡ used + 2 + p.width
        → Planning list limit out₀ new (chunks + 1) all (taken + p.count)

  turned_chunk : (c : Chunk) → taken < length list → next limit used taken here ≡ Some c → Turned (picked c)
  unfolding taken_in used_by picked chunk_bytes
  turned_chunk c more is =
      let below = below_drop 3 taken (map symbol_of list) (symbols_lt list) in
      let size : length here ≡ length list - taken = rw (length-drop, length-map) in
      let there : zero < length here = omega arith in
      let law : StepLaw limit used here (Some c) = rw is at (next_law limit used taken here below there) in
      let n = good_taken here c law.0 in
      let width = good_width here c below law.0 in
      let behind : drop (taken_by c) here ≡ drop (taken + taken_by c) (map symbol_of list) = drop-drop (taken_by c) taken (map symbol_of list) in
      let goes : left list limit used taken ≡ c ∷ left list limit (used + 2 + width_by c) (taken + taken_by c) =
      plan_go limit used taken here c below there is ∙ ap (λ (ss : List ℕ). c ∷ plan limit 0 (used + 2 + width_by c) (taken + taken_by c) ss) behind in
      let later = left list limit (used + 2 + width_by c) (taken + taken_by c) in
      let place : 8 + 2 * (chunks + 1) ≡ 8 + 2 * chunks + 2 = omega arith in
      record {
        some-taken = n.0;
        fits = omega arith;
        slim = width;
        bits = chunk_lt here c below law.0;
        further = λ new stored all sum. rw sum (record {
          inside = omega arith;
          few = omega (arith, planning.few);
          small = omega (arith, planning.small);
          same = ap length stored ∙ length-sets out (8 + 2 * chunks) (be_bytes 2 (chunk_word c)) ∙ planning.same;
          counts = planning.counts ∙ rw goes (omega arith);
          spends = planning.spends ∙ rw goes;
          makes = planning.makes ∙ rw goes (omega arith);
          stores =
              rw (stored, place)
              (sets_append out (8 + 2 * chunks) (be_bytes 2 (chunk_word c)) (bytes_in later)
              ∙ sym (ap (λ (cs : List Chunk). sets out (8 + 2 * chunks) (bytes_in cs)) goes) ∙ planning.stores);
        });
      }

  here_is : map symbol_of (between taken (length list) list) ≡ here
  here_is = ap (map symbol_of) (between_to_end list taken (length list) (omega arith)) ∙ drop-symbols taken list

  pub turned : (p : Picked) → step_in limit used (map symbol_of (between taken (length list) list)) ≡ Some p → Turned p
  turned p takes =
      let step = step-some limit used taken here p (rw here_is at takes) in
      let more : taken < length list = omega (arith, step.0, length-drop taken (map symbol_of list), length-map list symbol_of) in
      rw step.1.2 (turned_chunk step.1.0 more step.1.1)

  -- what the loop leaves with
  pub planned : step_in limit used (map symbol_of (between taken (length list) list)) ≡ None → (bytes : ℕ) → bytes ≡ up_four used
      → Plans list limit out₀ (record { chunks = chunks; used = used; bytes = bytes; taken = taken }) out
  unfolding taken_in used_by chunk_bytes
  planned stops bytes sized =
      let gone : left list limit used taken ≡ [] = step-none limit used taken here (rw here_is at stops) in
      record {
        taken = sym (planning.counts ∙ rw gone (omega arith));
        used = sym (planning.spends ∙ rw gone);
        bytes = sized;
        chunks = sym (planning.makes ∙ rw gone (omega arith));
        stored = sym (ap (λ (cs : List Chunk). sets out (8 + 2 * chunks) (bytes_in cs)) gone) ∙ planning.stores;
        inside = planning.inside;
        few = planning.few;
        small = planning.small;
      }
