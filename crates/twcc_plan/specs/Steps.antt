-- The step rule over chunks as the code holds them.
use Rattle.std.specs.Prelude.{ℕ, ◌+◌, ◌-◌, ◌/◌, ◌≤◌, List, [], ◌∷◌, cond, ltb, leb, Option, Some, None, option_map}
use Rattle.twcc.specs.Chunks.{runs_end, run_weight, longest_run}
use Rattle.twcc_plan.specs.Limits.{up_four, next}
use Rattle.twcc_plan.specs.Picked.{picked, run_picked}
use Rattle.twcc_plan.specs.declared.pick.Picked.{Picked}

-- a chunk takes no more than the longest run, with two delta bytes each
pub record Slim (c : Picked) : Type 0 where
  pub count : c.count ≤ longest_run
  pub width : c.width ≤ 16382

-- the step before these symbols: none where nothing remains, and the entries taken stop nothing
unfoldable pub step_in : Option ℕ → ℕ → List ℕ → Option Picked
step_in limit used [] = None
step_in limit used (s ∷ ss) = option_map picked (next limit used 0 (s ∷ ss))

unfoldable pub short_step : ℕ → Picked → Option Picked
short_step over c =
    cond (ltb c.chunk run_weight) None
    (cond (leb runs_end c.chunk) None
    (cond (leb c.count (up_four over / (c.chunk / run_weight))) None
    (Some (run_picked (c.chunk / run_weight) (c.count - up_four over / (c.chunk / run_weight))))))

unfoldable pub fit_step : Option ℕ → ℕ → Picked → Option Picked
fit_step None used c = Some c
fit_step (Some limit) used c =
    cond (ltb limit (up_four (used + 2 + c.width))) (short_step (up_four (used + 2 + c.width) - limit) c) (Some c)
