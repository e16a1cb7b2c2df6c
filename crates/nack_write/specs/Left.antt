-- What an iterator over the numbers that open a store's entries has still to give.
use Rattle.std.specs.Prelude.{ℕ, ◌≡◌, ◌+◌, ◌*◌, ◌-◌, ◌<◌, List, [], ◌∷◌, Option, MatchOption, length}
use Rattle.nack_store.specs.Bits.{bit_of, members, window}
use Rattle.nack.specs.Entries.{Entry, entry, entries_of}
use Rattle.nack_write.specs.declared.Openers.{Openers}

-- the entries of the store's numbers from the next one to be looked at on
unfoldable pub entries_left : Openers → List Entry
entries_left o = entries_of (members (bit_of o.store.now) o.from (8 * length o.store.now - o.from))

-- the number that opens the first of them; none where none is left
abbrev pub GivesOpener : Openers → Option ℕ → Openers → Type 0
GivesOpener o r next =
    MatchOption r ((entries_left o ≡ []) × (entries_left next ≡ []))
    (λ n. (n < 65536) × (next.store.now ≡ o.store.now) × (entries_left o ≡ entry n (window (bit_of o.store.now) (n + 1) 16) ∷ entries_left next))
