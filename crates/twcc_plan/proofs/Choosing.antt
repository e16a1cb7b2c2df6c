-- The chunk that the rule picks, as the code holds it, from the two counts and the two tests.
use Prim.Native.Nat.{ℕ, zero, suc, ◌+◌, ◌*◌, ◌^◌, ◌≤◌}
use mathlib.Core.Path.{◌≡◌, refl, ap, ◌∙◌}
use mathlib.Core.List.{List, [], ◌∷◌}
use mathlib.Core.Bool.{true, false}
use native.Mathlib.Omega.{arith}
use lib.ListN.{length, get_or, take, length-take}
use Rattle.twcc.specs.Chunks.{runs_end, ones_end, run_weight, longest_run, Run, One, Two, pack, chunk_word}
use Rattle.twcc_plan.specs.Choice.{run_of, ones_of, is_run, is_one, choice, chunk_for, taken_by, width_by}
use Rattle.twcc_plan.specs.Picked.{picked, vector_of}
use Rattle.twcc_plan.specs.declared.pick.Picked.{Picked}

pub run_le : (ss : List ℕ) → run_of ss ≤ longest_run
unfolding run_of
run_le ss = omega arith

pub pack-take : (base n : ℕ) (ss : List ℕ) → pack base n ss ≡ pack base n (take n ss)
unfolding pack
pack-take base zero ss = refl
pack-take base (suc n) [] = refl
pack-take base (suc n) (s ∷ ss) = ap (λ (m : ℕ). s * base ^ n + m) (pack-take base n ss)

one-picked : (ss : List ℕ) → vector_of 2 14 runs_end ss ≡ picked (One (take 14 ss))
unfolding vector_of picked chunk_word taken_by width_by
one-picked ss = let chunk = pack-take 2 14 ss in let count = length-take 14 ss in cc

two_picked : (ss : List ℕ) → vector_of 4 7 ones_end ss ≡ picked (Two (take 7 ss))
unfolding vector_of picked chunk_word taken_by width_by
two_picked ss = let chunk = pack-take 4 7 ss in let count = length-take 7 ss in cc

run_picked_lem : (s r : ℕ) → ◌≡◌ {A = Picked} (record { chunk = s * run_weight + r; count = r; width = s * r }) (picked (Run s r))
unfolding picked chunk_word taken_by width_by
run_picked_lem s r = refl

module _ (ss : List ℕ) (r b : ℕ) (run : r ≡ run_of ss) (ones : b ≡ ones_of ss) where
  chosen : choice r b ss ≡ chunk_for ss
  unfolding chunk_for
  chosen = cc

  pub picks_run : (s : ℕ) → is_run r b ≡ true → s ≡ get_or ss 0 0 → ◌≡◌ {A = Picked} (record { chunk = s * run_weight + r; count = r; width = s * r }) (picked (chunk_for ss))
  unfolding choice
  picks_run s e first = run_picked_lem s r ∙ ap picked (ap (λ (x : ℕ). Run x r) first ∙ (simp e) ∙ chosen)

  pub picks_one : is_run r b ≡ false → is_one b (length ss) ≡ true → vector_of 2 14 runs_end ss ≡ picked (chunk_for ss)
  unfolding choice
  picks_one e f = one-picked ss ∙ ap picked ((simp (e, f)) ∙ chosen)

  pub picks_two : is_run r b ≡ false → is_one b (length ss) ≡ false → vector_of 4 7 ones_end ss ≡ picked (chunk_for ss)
  unfolding choice
  picks_two e f = two_picked ss ∙ ap picked ((simp (e, f)) ∙ chosen)
