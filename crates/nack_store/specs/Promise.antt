-- What the calls on a store promise: refusal 16 for bytes of another size; else the answer, and what the store holds then.
use Rattle.std.specs.Prelude.{ℕ, ◌≡◌, ◌≢◌, Bool, cond, not, List, [], ◌∷◌, Result, Ok, Err, eqb, length}
use Rattle.std.specs.Borrow.{Bor}
use Rattle.refusal.specs.Outcome.{Outcome, gave, refuse}
use Rattle.refusal.specs.Said.{said}
use Rattle.refusal.specs.declared.Refusal.{Refusal}
use Rattle.refusal.specs.declared.Refusal.TheVariants.{StoreLength}
use Rattle.lent.specs.Fills.{held}
use Rattle.nack_store.specs.Bits.{store_size, bit_of, numbers_of}

-- the bytes themselves where they have a store's size, else refusal 16
abbrev pub AsStore : List ℕ → Result (Bor (List ℕ)) Refusal → Type 0
AsStore bytes (Ok store) = (length bytes ≡ store_size) × (store.now ≡ bytes)
AsStore bytes (Err r) = (length bytes ≢ store_size) × (r ≡ StoreLength (length bytes))

-- the same, right where they stand: equal bytes elsewhere would be another store
abbrev pub InPlace : Bor (List ℕ) → Result (Bor (List ℕ)) Refusal → Type 0
InPlace bytes (Ok store) = (length bytes.now ≡ store_size) × (store ≡ bytes)
InPlace bytes (Err r) = AsStore bytes.now (Err r)

-- an outcome that only bytes of a store's size have
abbrev pub of_store : {A : Type 0} → List ℕ → Outcome A → Outcome A
of_store s outcome = cond (not (eqb (length s) store_size)) (refuse 16 (length s ∷ [])) outcome

-- a call that has nothing to say but that it did its work
abbrev pub sized : List ℕ → Outcome Unit
sized s = of_store s (gave tt)

-- a call that makes another store of a store
pub record Changed (s changed : List ℕ) (r : Result Unit Refusal) (new : List ℕ) : Type 0 where
  pub answer : said r ≡ sized s
  pub store : new ≡ held (sized s) changed s

abbrev pub has_number : List ℕ → ℕ → Outcome Bool
has_number s n = of_store s (gave (eqb (bit_of s n) 1))

abbrev pub count_numbers : List ℕ → Outcome ℕ
count_numbers s = of_store s (gave (length (numbers_of s)))
