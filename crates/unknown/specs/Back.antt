-- What it means that a packet reads as what was written.
use Rattle.std.specs.Prelude.{ℕ, List, ◌≡◌, Option, Some, None, cond, eqb, length, take, drop}
use Rattle.refusal.specs.Outcome.{gave}
use Rattle.utils.specs.Header.{version_of, count_of, type_of, length_of}
use Rattle.utils.specs.Check.{padding_byte}
use Rattle.unknown.specs.Parse.{unknown}

-- the padding byte that a reader finds
abbrev pub padding_given : ℕ → Option ℕ
padding_given padding = cond (eqb padding 0) None (Some padding)

-- a packet of this count, type, body and padding, as readers see it
pub record ReadsAs (packet : List ℕ) (count type : ℕ) (body : List ℕ) (padding : ℕ) : Type 0 where
  pub accepted : unknown packet ≡ gave tt
  pub version : version_of packet ≡ 2
  pub count-back : count_of packet ≡ count
  pub type_back : type_of packet ≡ type
  pub length_back : length_of packet ≡ length packet
  pub padding-back : padding_byte packet ≡ gave (padding_given padding)
  pub body_back : take (length body) (drop 4 packet) ≡ body
