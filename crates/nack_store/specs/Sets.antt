-- What it means that a list is a set: of a store, of other numbers, and of bits.
use Rattle.std.specs.Prelude.{ℕ, suc, ◌/◌, ◌<◌, ◌≤◌, ◌≡◌, length, get_or}
use mathlib.Core.List.{List, [], ◌∷◌, Memᴰ}
use Rattle.nack_store.specs.Bits.{bit_of}

-- a number is in a list
abbrev pub In : ℕ → List ℕ → Type 0
In m ns = Memᴰ m ns

-- every number of a list lies below an end
abbrev pub AllBelow : ℕ → List ℕ → Type 0
AllBelow end ns = (m : ℕ) → In m ns → m < end

-- ascending from `low` on, each number once, below `end`
pub data Rising (end : ℕ) : ℕ → List ℕ → Type 0 where
  none : {low : ℕ} → Rising end low []
  more : {low n : ℕ} {ns : List ℕ} → low ≤ n → n < end → Rising end (suc n) ns → Rising end low (n ∷ ns)

-- l is the set of a store: ascending, each number once, and just those whose bit is set
pub record SetOf (s l : List ℕ) : Type 0 where
  pub rises : Rising 65536 0 l
  pub from : (m : ℕ) → In m l → bit_of s m ≡ 1
  pub to : (m : ℕ) → m < 65536 → bit_of s m ≡ 1 → In m l

-- l is ns sorted, without repeats
pub record Sorted (ns l : List ℕ) : Type 0 where
  pub rises : Rising 65536 0 l
  pub from : (m : ℕ) → In m l → In m ns
  pub to : (m : ℕ) → In m ns → In m l

-- a set as a function: each number's bit is 0 or 1, and none is set from `end` on
pub record BitsBelow (f : ℕ → ℕ) (end : ℕ) : Type 0 where
  pub bit : (n : ℕ) → f n < 2
  pub out : (n : ℕ) → end ≤ n → f n ≡ 0

-- a store that differs from s in the bit of number n alone
pub record OneBit (s : List ℕ) (n bit : ℕ) (new : List ℕ) : Type 0 where
  pub size : length new ≡ length s
  pub this : bit_of new n ≡ bit
  pub others : (m : ℕ) → (m ≡ n → ⊥) → bit_of new m ≡ bit_of s m
  pub bytes : (i : ℕ) → (i ≡ n / 8 → ⊥) → get_or new i 0 ≡ get_or s i 0
