-- The entries that are left of a store's: those of the numbers from one on.
use Prim.Native.Nat.{ℕ, ◌+◌, ◌*◌, ◌-◌, ◌<◌}
use mathlib.Core.Path.{◌≡◌, ap, ◌∙◌}
use mathlib.Core.List.{List, [], ◌∷◌, map}
use native.Mathlib.Omega.{arith}
use native.Mathlib.Nat.{sub-zero}
use native.Mathlib.Numerals.{add-one}
use lib.ListN.{length, length-map}
use Rattle.std.specs.Iterator.{Drains}
use Rattle.std.proofs.lemmas.Iterator.Consumers.{count_from_yields_List, YieldsList-from_shown}
use Rattle.nack_store.specs.Bits.{bit_of, members, window, numbers_of}
use Rattle.nack_store.proofs.Bytes.{within}
use Rattle.nack.specs.Entries.{Entry, entry, entries_of}
use Rattle.nack.proofs.Opens.{opened}
use Rattle.nack_write.specs.declared.Openers.{Openers}
use Rattle.nack_write.specs.Left.{entries_left, GivesOpener}
use Rattle.nack_write.specs.Promise.{IsFirst}

pub left_all : (o : Openers) → o.from ≡ 0 → entries_left o ≡ entries_of (numbers_of o.store.now)
unfolding entries_left numbers_of
left_all o start = rw (start, sub-zero)

pub left_none : (o : Openers) → members (bit_of o.store.now) o.from (8 * length o.store.now - o.from) ≡ [] → entries_left o ≡ []
unfolding entries_left entries_of
left_none o none = rw none

pub left_first : (o : Openers) (r : ℕ) → IsFirst o.store.now o.from r
    → entries_left o ≡ entry r (window (bit_of o.store.now) (r + 1) 16) ∷ entries_left (record { store = o.store; from = r + 17 })
unfolding entries_left
left_first o r first =
    rw (first.same, add-one) (opened (bit_of o.store.now) (8 * length o.store.now) r (within o.store.now) first.below first.there)

pub left_fewer : (o : Openers) (r : ℕ) → IsFirst o.store.now o.from r → length (entries_left (record { store = o.store; from = r + 17 })) < length (entries_left o)
left_fewer o r first = omega (arith, ap length (left_first o r first))

pub ruleset give_steps = (left_none, left_first, left_fewer)

abbrev opener : Entry → ℕ
opener (entry n mask) = n

-- as many numbers come as there are entries
pub openers_counted : (o : Openers) (r : ℕ) → (xs : List ℕ) × Drains GivesOpener o xs × (r ≡ length xs) → r ≡ length (entries_left o)
openers_counted o r ran =
    count_from_yields_List o r ran
    (YieldsList-from_shown GivesOpener (λ n. n) (λ o. map opener (entries_left o))
    (λ o next gave. rw gave.0)
    (λ o n next gave. rw gave.2) o)
    ∙ length-map (entries_left o) opener
