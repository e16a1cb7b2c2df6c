-- What the private functions promise.
use Rattle.std.specs.Prelude.{ℕ, ◌+◌, ◌*◌, ◌-◌, ◌/◌, Bool, false, cond, not, eqb, ltb, length, get_or, List, Result, Ok, Err}
use Rattle.refusal.specs.Outcome.{Outcome, gave}
use Rattle.refusal.specs.Number.{no}
use Rattle.refusal.specs.declared.Refusal.{Refusal}
use Rattle.utils.specs.Header.{padding_bit_of}

-- whether the padding bit of the packet at the front is set
abbrev pub is_padded : List ℕ → Bool
is_padded packet = not (eqb (padding_bit_of packet) 0)

-- a usual packet, which starts at a word: of version 2, without padding, of 1,024 bytes at most, and whole
unfoldable pub is_usual : List ℕ → ℕ → Bool
is_usual bytes word =
    cond (not (eqb (get_or bytes (4 * word) 0 / 32) 4)) false
    (cond (not (eqb (get_or bytes (4 * word + 2) 0) 0)) false
    (ltb (get_or bytes (4 * word + 3) 0) (length bytes / 4 - word)))

-- a turn counts in words of four bytes
abbrev pub said_turn : Result ℕ Refusal → Outcome ℕ
said_turn (Ok word) = gave (4 * word)
said_turn (Err r) = no r
