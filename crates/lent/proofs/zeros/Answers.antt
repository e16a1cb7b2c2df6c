-- The part that is filled holds as many zeros as fit.
use Prim.Native.Nat.{ℕ, ◌-◌, ◌≤◌}
use mathlib.Core.Path.{◌≡◌, sym, ap, ◌∙◌}
use native.Mathlib.Omega.{arith}
use lib.ListN.{length, take, drop, length-take, length-drop, replicate}
use Rattle.lent.specs.Bytes.{zero_bytes, fitting}
use Rattle.lent.proofs.Laws.{part_stored, length-zero_bytes, take-zero_bytes}
use Rattle.lent.proofs.zeros.Goals as goal

pub returns : goal.returns
returns c = let a = c.args in
    let start = c.min-start.result in
    let n = c.end_of-end.result - start in
    let counts : n ≡ fitting (length a.out.now) start (length (zero_bytes a.count)) = omega (arith, length-zero_bytes a.count) in
    let few : n ≤ a.count = omega arith in
    let size : length (take n (drop start a.out.now)) ≡ n = omega (arith, length-take n (drop start a.out.now), length-drop start a.out.now) in
    part_stored a.out.now _ (zero_bytes a.count) a.at start n c.min-start.ensures counts
    (c.fill.ensures.after (λ y same. same) ∙ ap (λ (k : ℕ). replicate k 0) size ∙ sym (take-zero_bytes n a.count few))
