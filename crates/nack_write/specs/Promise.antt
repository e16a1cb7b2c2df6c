-- What writing promises: the bytes of the store's numbers, from the output's front, where the store has its size and the output room.
use Rattle.std.specs.Prelude.{ℕ, ◌*◌, ◌-◌, ◌<◌, ◌≤◌, ◌≡◌, List, [], Option, MatchOption, Result, length}
use Rattle.refusal.specs.declared.Refusal.{Refusal}
use Rattle.lent.specs.Fills.{Fills}
use Rattle.nack_store.specs.Bits.{bit_of, members}
use Rattle.nack_store.specs.Promise.{of_store}
use Rattle.nack.specs.Entries.{nack_bytes}
use Rattle.nack.specs.Promise.{into_room}

abbrev pub Wrote : List ℕ → List ℕ → Result ℕ Refusal → List ℕ → Type 0
Wrote store out = Fills (of_store store (into_room (length (nack_bytes store)) (length out))) 0 (nack_bytes store) out

-- a number is the first of a store's members from another on
pub record IsFirst (s : List ℕ) (from r : ℕ) : Type 0 where
  pub up : from ≤ r
  pub below : r < 8 * length s
  pub small : r < 65536
  pub same : members (bit_of s) from (8 * length s - from) ≡ members (bit_of s) r (8 * length s - r)
  pub there : bit_of s r ≡ 1

-- the first of a store's members from a number on, if there are any
abbrev pub Next : List ℕ → ℕ → Option ℕ → Type 0
Next s from r = MatchOption r (members (bit_of s) from (8 * length s - from) ≡ []) (IsFirst s from)
