-- How sequence numbers count.
use Rattle.std.specs.Prelude.{ℕ, ◌+◌, ◌%◌}

-- the number so many packets later
abbrev pub later : ℕ → ℕ → ℕ
later number packets = (number + packets) % 65536
