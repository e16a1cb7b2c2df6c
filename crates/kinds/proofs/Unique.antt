-- No slack: a sequence number that is so many packets later is one number.
use Rattle.std.proofs.Common.{◌≡◌, ℕ, sym, ap, ◌∙◌}
use Rattle.kinds.specs.Seq.{later}
use Rattle.kinds.specs.declared.Seq.{Seq}

-- of `after`, and of `next` with one packet
pub after_unique : (s : Seq) (packets : ℕ) (a b : Seq) → a.0 ≡ later s.0 packets → b.0 ≡ later s.0 packets → a ≡ b
after_unique s packets a b p q = ap (λ (n : ℕ). record { 0 = n }) (p ∙ sym q)
