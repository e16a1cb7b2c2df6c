-- A chunk as the code holds it.
use Rattle.std.specs.Prelude.{ℕ, ◌+◌, ◌*◌, ◌/◌, ◌^◌, ◌≤◌, min, ◌≡◌, List, [], ◌∷◌, cond, eqb, length, get_or, take, Option, Some, None}
use Rattle.twcc.specs.Words.{width_of}
use Rattle.twcc.specs.Chunks.{run_weight, ones_end, longest_run, Chunk, pack, chunk_word}
use Rattle.twcc_plan.specs.Front.{front}
use Rattle.twcc_plan.specs.Choice.{run_of, ones_of, is_run, taken_by, width_by}
use Rattle.twcc_plan.specs.declared.pick.Picked.{Picked}
use Rattle.twcc_plan.specs.declared.pick.Seven.{Seven}

unfoldable pub picked : Chunk → Picked
picked c = record { chunk = chunk_word c; count = taken_by c; width = width_by c }

-- 14 bits hold so many digits of the base, and top bits stand above them
pub record Places (base places top : ℕ) : Type 0 where
  pub two : 2 ≤ base
  pub fourteen : base ^ places ≤ 16384
  pub few : places ≤ 14
  pub sixteen : top ≤ ones_end

unfoldable pub vector_of : ℕ → ℕ → ℕ → List ℕ → Picked
vector_of base places top ss =
    record { chunk = top + pack base places ss; count = min places (length ss); width = width_of (take places ss) }

-- how many of the symbols are 2
unfoldable pub twos_in : List ℕ → ℕ
twos_in [] = 0
twos_in (s ∷ ss) = s / 2 + twos_in ss

-- the first seven symbols
pub record Gathered (ss : List ℕ) (r : Seven) : Type 0 where
  pub two : r.two ≡ pack 4 7 ss
  pub width : r.width ≡ width_of (take 7 ss)
  pub twos : r.twos ≡ twos_in (take 7 ss)
  pub small : (r.two ≤ 32768) × (r.width ≤ 14)

abbrev pub two_of : Seven → Picked
two_of a = record { chunk = ones_end + a.two; count = 7; width = a.width }

abbrev pub run_picked : ℕ → ℕ → Picked
run_picked s r = record { chunk = s * run_weight + r; count = r; width = s * r }

-- one-bit digits, and above 65,536 their delta bytes
abbrev pub weight_of : ℕ → List ℕ → ℕ
weight_of n ss = 65536 * width_of (take n ss) + pack 2 n ss

-- how far a run goes at least
pub record Known (ss : List ℕ) (symbol from : ℕ) : Type 0 where
  pub within : from ≤ min longest_run (length ss)
  pub run : from ≤ front (eqb symbol) ss

-- the first symbol, which seven have
pub record Alike (ss : List ℕ) (first : ℕ) : Type 0 where
  pub known : first ≤ 2
  pub stands : first ≡ get_or ss 0 0
  pub seven : 7 ≤ front (eqb first) ss

-- a run that makes a chunk, if there is one
abbrev pub Settles : List ℕ → Option ℕ → Type 0
Settles ss r = r ≡ cond (is_run (run_of ss) (ones_of ss)) (Some (run_of ss)) None
