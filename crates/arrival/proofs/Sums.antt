-- How far sums lie from 0.
use Prim.Native.Nat.{ℕ, suc, ◌+◌, ◌-◌, ◌≤◌}
use mathlib.Core.Path.{◌≡◌, refl}
use mathlib.Core.Bool.{Bool, true, false, cond}
use native.Mathlib.Omega.{arith}
use lib.Dec.{ltb}
use lib.IntN.{ℤ, pos, negsuc, nat_abs, sub_ℕ, ◌+ℤ◌}
use borrow.Author.Tests.{ltb-true, ltb-false}
use Rattle.std.proofs.lemmas.Bool.Decides.{nat_tests}
use Rattle.std.proofs.lemmas.Int.{ints}

-- of a sum and its two summands none lies farther from 0 than the others together
pub record Near (sum a b : ℕ) : Type 0 where
  pub whole : sum ≤ a + b
  pub first : a ≤ sum + b
  pub second : b ≤ sum + a

apart : (a b : ℕ) → Near (nat_abs (sub_ℕ a b)) a b
apart a b = go (ltb a b) refl
  where
    go : (t : Bool) → ltb a b ≡ t → Near (nat_abs (cond t (negsuc (b - suc a)) (pos (a - b)))) a b
    go true less = let l = ltb-true a b less in record { whole = omega arith; first = omega arith; second = omega arith }
    go false least = let l = ltb-false a b least in record { whole = omega arith; first = omega arith; second = omega arith }

swapped : (sum a b : ℕ) → Near sum a b → Near sum b a
swapped sum a b n = record { whole = omega arith; first = n.second; second = n.first }

pub near : (t d : ℤ) → Near (nat_abs (t +ℤ d)) (nat_abs t) (nat_abs d)
near (pos a) (pos b) = record { whole = omega arith; first = omega arith; second = omega arith }
near (pos a) (negsuc b) = apart a (suc b)
near (negsuc a) (pos b) = swapped (nat_abs (sub_ℕ b (suc a))) b (suc a) (apart b (suc a))
near (negsuc a) (negsuc b) = record { whole = omega arith; first = omega arith; second = omega arith }

-- what the start of a block's ticks needs
pub ruleset times = (ints, nat_tests)
