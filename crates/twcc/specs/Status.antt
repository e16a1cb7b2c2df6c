-- What a status word says of its packet. Numbers outside −32,768 to 32,770 are no status: no reader lists them and no writer
-- takes them.
use Rattle.std.specs.Prelude.{cond, ltb, eqb, ℤ, pos, negsuc}
use Rattle.twcc.specs.Words.{half}
use Rattle.twcc.specs.declared.Status.{Status}
use Rattle.twcc.specs.declared.Status.TheVariants.{Received, NotReceived, Truncated, Reserved, NoStatus}

unfoldable pub status_of : ℤ → Status
status_of (pos n) =
    cond (ltb n half) (Received (pos n))
    (cond (eqb n half) NotReceived
    (cond (eqb n 32769) Truncated
    (cond (eqb n 32770) Reserved NoStatus)))
status_of (negsuc n) = cond (ltb n half) (Received (negsuc n)) NoStatus
