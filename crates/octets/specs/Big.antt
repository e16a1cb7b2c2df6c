-- Numbers of k bytes, the high byte first.
use Rattle.std.specs.Prelude.{ℕ, zero, suc, ◌+◌, ◌*◌, ◌/◌, ◌%◌, ◌^◌, List, [], ◌∷◌, get_or}

-- the number in the k bytes from a place on; a byte that is missing counts as 0
abbrev pub be : ℕ → List ℕ → ℕ → ℕ
be zero bytes at = 0
be (suc zero) bytes at = get_or bytes at 0
be (suc (suc k)) bytes at = 256 * be (suc k) bytes at + get_or bytes (at + suc k) 0

-- the k bytes of a number below 256 ^ k
abbrev pub be_bytes : ℕ → ℕ → List ℕ
be_bytes zero number = []
be_bytes (suc zero) number = number ∷ []
be_bytes (suc (suc k)) number = number / 256 ^ suc k ∷ be_bytes (suc k) (number % 256 ^ suc k)
