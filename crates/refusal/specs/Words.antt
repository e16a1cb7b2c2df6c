-- A refusal in words, with its values.
use Rattle.std.specs.Prelude.{ℕ, List, ◌++◌, codes}
use Rattle.std.specs.Fmt.{decimal}
use Rattle.refusal.specs.declared.Refusal.{Refusal}
use Rattle.refusal.specs.declared.Refusal.TheVariants.{Truncated, UnsupportedVersion, PacketTypeMismatch, TooLarge, InvalidPadding, CountOutOfRange, UnevenPadding, ReferenceTimeTooLarge, BodyLength, StatusOutOfRange, ListTooLong, LimitTooSmall, OutputTooSmall, StoreLength, LeastLength}

abbrev pub words : Refusal → List ℕ
words (Truncated expected actual) = codes "bytes too short: " ++ (decimal expected ++ (codes " expected, " ++ (decimal actual ++ codes " present")))
words (UnsupportedVersion version) = codes "version " ++ (decimal version ++ codes " where 2 is expected")
words (PacketTypeMismatch actual requested) = codes "packet type " ++ (decimal actual ++ (codes " where " ++ (decimal requested ++ codes " is requested")))
words (TooLarge expected actual) = codes "bytes too many: " ++ (decimal expected ++ (codes " expected, " ++ (decimal actual ++ codes " present")))
words InvalidPadding = codes "padding before the last packet, or a padding count that does not fit"
words (CountOutOfRange count) = codes "count " ++ (decimal count ++ codes " is above 31")
words (UnevenPadding padding) = codes "padding of " ++ (decimal padding ++ codes " bytes is not a multiple of 4")
words (ReferenceTimeTooLarge time) = codes "reference time " ++ (decimal time ++ codes " is above 16777215")
words (BodyLength size) = codes "body of " ++ (decimal size ++ codes " bytes is not a multiple of 4 or makes a packet above 262144 bytes")
words (StatusOutOfRange place) = codes "status word at place " ++ (decimal place ++ codes " is out of range")
words (ListTooLong size) = codes "list of " ++ (decimal size ++ codes " entries is above 16384")
words (LimitTooSmall limit) = codes "size limit " ++ (decimal limit ++ codes " is below 8")
words (OutputTooSmall needed present) = codes "output lacks room: " ++ (decimal needed ++ (codes " needed, " ++ (decimal present ++ codes " present")))
words (StoreLength size) = codes "NACK store of " ++ (decimal size ++ codes " bytes is not 8192 bytes")
words (LeastLength least) = codes "least length " ++ (decimal least ++ codes " is outside 4 to 262144")
