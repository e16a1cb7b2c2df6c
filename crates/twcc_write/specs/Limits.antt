-- What the writer asks of its limit.
use Rattle.std.specs.Prelude.{ℕ, Option, unwrap_or}

-- no block has fewer than eight bytes
abbrev pub least_of : Option ℕ → ℕ
least_of limit = unwrap_or limit 8
