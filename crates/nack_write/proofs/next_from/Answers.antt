use Rattle.nack_write.proofs.Scan.{found}
use Rattle.nack_write.proofs.next_from.Goals as goal

pub returns-then-left-ne0 : goal.returns-then-left-ne0
returns-then-left-ne0 c = let byte = c.in_ok-left.ensures.lookup.3 in
    found _ _ _ (byte.1 0) c.if-left-ne0.true (rw (byte.1 0) (c.fits-store _)) byte.0 c.told-store
