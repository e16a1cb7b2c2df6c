-- A step over chunks as the code holds them is the step of the rule.
use Prim.Native.Nat.{ℕ, zero, suc, ◌+◌, ◌*◌, ◌-◌, ◌/◌, ◌≤◌, ◌<◌}
use mathlib.Core.Path.{◌≡◌, refl, ap, ◌∙◌}
use mathlib.Core.List.{List, [], ◌∷◌, map}
use Rattle.std.specs.Prelude.{Option, Some, None, option_map}
use native.Mathlib.Omega.{arith}
use borrow.Author.Tests.{leb-true, leb-false, lt-ltb, le-ltb, le-leb, lt-leb}
use lib.Dec.{ltb, leb}
use lib.IntN.{ℤ}
use lib.ListN.{length, drop, length-take}
use Rattle.twcc.specs.Words.{symbol_of}
use Rattle.octets.specs.Bounds.{Below}
use Rattle.twcc.specs.Chunks.{runs_end, run_weight, longest_run, Chunk, Run, One, Two, chunk_word}
use Rattle.octets.proofs.Logic.{by_test}
use Rattle.twcc.proofs.Written.{symbols_lt}
use Rattle.twcc_plan.specs.Choice.{chunk_for, taken_by, width_by}
use Rattle.twcc_plan.specs.Limits.{up_four, size_with, shorten, fitted, next}
use Rattle.twcc_plan.specs.Planned.{Good}
use Rattle.twcc_plan.proofs.PlanLaws.{chunk_good, good_width}
use Rattle.twcc_plan.specs.Picked.{picked}
use Rattle.twcc_plan.specs.declared.pick.Picked.{Picked}
use Rattle.twcc_plan.specs.Steps.{Slim, step_in, short_step, fit_step}

pub drop-symbols : (n : ℕ) (list : List ℤ) → map symbol_of (drop n list) ≡ drop n (map symbol_of list)
drop-symbols zero list = refl
drop-symbols (suc n) [] = refl
drop-symbols (suc n) (w ∷ list) = drop-symbols n list

good_few : (ss : List ℕ) (c : Chunk) → Good ss c → taken_by c ≤ longest_run
unfolding taken_by
good_few ss (Run s r) good = good.1
good_few ss (One xs) good = omega (arith, ap length good.1 ∙ length-take 14 ss)
good_few ss (Two xs) good = omega (arith, ap length good.1 ∙ length-take 7 ss)

module _ (over : ℕ) (s r : ℕ) (there : zero < r) (few : r ≤ longest_run) where
  -- a received run
  run_short : (k : ℕ) → s ≡ suc k → s < 3 → short_step over (picked (Run s r)) ≡ option_map picked (shorten over (Run (suc k) r))
  unfolding short_step picked shorten chunk_word taken_by width_by
  run_short k is known =
      let symbol : (s * run_weight + r) / run_weight ≡ suc k = omega arith in
      let v = up_four over / suc k in
      rw (le-ltb (s * run_weight + r) run_weight (omega arith), lt-leb runs_end (s * run_weight + r) (omega arith), symbol)
      (by_test (leb r v)
      (λ e. rw (e, lt-ltb (r - 1) v (omega (arith, leb-true r v e))))
      (λ e. rw (e, le-ltb (r - 1) v (omega (arith, leb-false r v e)))))

short_is : (over : ℕ) (ss : List ℕ) (c : Chunk) → Below 3 ss → Good ss c → short_step over (picked c) ≡ option_map picked (shorten over c)
unfolding short_step picked shorten chunk_word taken_by width_by
short_is over ss (Run zero r) below good = rw (lt-ltb (0 * run_weight + r) run_weight (omega arith))
short_is over ss (Run (suc k) r) below good = run_short over (suc k) r good.0 good.1 k refl good.2
short_is over ss (One xs) below good = rw (le-ltb (chunk_word (One xs)) run_weight (omega arith), le-leb runs_end (chunk_word (One xs)) (omega arith))
short_is over ss (Two xs) below good = rw (le-ltb (chunk_word (Two xs)) run_weight (omega arith), le-leb runs_end (chunk_word (Two xs)) (omega arith))

fit_is : (limit : Option ℕ) (used : ℕ) (ss : List ℕ) (c : Chunk) → Below 3 ss → Good ss c → fit_step limit used (picked c) ≡ option_map picked (fitted limit used c)
unfolding fit_step fitted picked
fit_is None used ss c below good = refl
fit_is (Some limit) used ss c below good =
    by_test (ltb limit (size_with used c)) (λ e. rw e (short_is (size_with used c - limit) ss c below good)) (λ e. rw e)

-- the chunk picked for words
module _ (p : Picked) where
  pub picked_slim : (list : List ℤ) → zero < length list → p ≡ picked (chunk_for (map symbol_of list)) → Slim p
  unfolding picked
  picked_slim [] there is = absurd (omega arith)
  picked_slim (w ∷ list) there is =
      let ss = map symbol_of (w ∷ list) in
      let below = symbols_lt (w ∷ list) in
      let good = chunk_good ss below (omega arith) in
      let few = good_few ss (chunk_for ss) good in
      rw is (record { count = few; width = omega (arith, few, good_width ss (chunk_for ss) below good) })

  pub step_is : (list : List ℤ) → zero < length list → p ≡ picked (chunk_for (map symbol_of list)) → (limit : Option ℕ) (used : ℕ) → fit_step limit used p ≡ step_in limit used (map symbol_of list)
  unfolding step_in next
  step_is [] there is limit used = absurd (omega arith)
  step_is (w ∷ list) there is limit used =
      let ss = map symbol_of (w ∷ list) in
      let below = symbols_lt (w ∷ list) in
      ap (fit_step limit used) is ∙ fit_is limit used ss (chunk_for ss) below (chunk_good ss below (omega arith))
