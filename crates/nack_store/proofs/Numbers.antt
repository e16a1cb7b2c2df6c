-- The numbers of a store ascend and are those whose bit is set; the numbers of an empty store to which a list was added are that
-- list, sorted and without repeats.
use Prim.Native.Nat.{ℕ, zero, suc, ◌+◌, ◌*◌, ◌/◌, ◌<◌, ◌≤◌}
use mathlib.Core.Path.{◌≡◌, refl, ◌∙◌, subst}
use mathlib.Core.Logic.{by_cases}
use mathlib.Core.List.Memᴰ
use mathlib.Core.List.{List, [], ◌∷◌}
use native.Mathlib.Omega.{arith}
use native.Mathlib.Nat.{zero-div}
use native.Mathlib.Decide.{ℕ_discrete}
use lib.ListN.{length, length-set}
use Rattle.lent.proofs.Laws.{length-zero_bytes, get_or-zero_bytes}
use Rattle.nack_store.specs.Bits.{store_size, bit_of, keep, members, numbers_of, added, added_all, empty_store}
use Rattle.nack_store.specs.Sets.{In, Rising, none, more, SetOf, Sorted, AllBelow, BitsBelow}
use Rattle.nack_store.proofs.Sets.{by_bit, members_skip, members-take}
use Rattle.nack_store.proofs.Bytes.{within}
use Rattle.nack_store.proofs.Store.{added-one}

pub rising_from : (end low n : ℕ) (ns : List ℕ) → low ≤ n → Rising end n ns → Rising end low ns
rising_from end low n [] h none = none
rising_from end low n (k ∷ ns) h (more above below rest) = more {low = low} {n = k} (omega arith) below rest

pub members_rising : (f : ℕ → ℕ) (end n k : ℕ) → BitsBelow f end → n + k ≤ end → Rising end n (members f n k)
unfolding members
members_rising f end n zero set h = none
members_rising f end n (suc k) set h =
    by_bit (f n) (set.bit n)
    (λ clear. rw (members_skip f n k clear) (rising_from end n (suc n) (members f (suc n) k) (omega arith) (members_rising f end (suc n) k set (omega arith))))
    (λ there. rw (members-take f n k there) (more {low = n} {n = n} (omega arith) (omega arith) (members_rising f end (suc n) k set (omega arith))))

pub numbers_rising : (s : List ℕ) → length s ≡ store_size → Rising 65536 0 (numbers_of s)
unfolding numbers_of
numbers_rising s size =
    let end : 8 * length s ≡ 65536 = omega arith in
    subst (λ (end : ℕ). Rising end 0 (members (bit_of s) 0 (8 * length s))) end (members_rising (bit_of s) (8 * length s) 0 (8 * length s) (within s) (omega arith))

first_or : {X : Type 0} {m n : ℕ} {ns : List ℕ} → In m (n ∷ ns) → (m ≡ n → X) → (In m ns → X) → X
first_or (Memᴰ.head e) first rest = first e
first_or (Memᴰ.tail i) first rest = rest i

-- in the list: the bit is set
members-bit : (f : ℕ → ℕ) (end n k m : ℕ) → BitsBelow f end → In m (members f n k) → f m ≡ 1
unfolding members
members-bit f end n zero m set i = elim i [ ]
members-bit f end n (suc k) m set i =
    by_bit (f n) (set.bit n)
    (λ clear. members-bit f end (suc n) k m set (rw (members_skip f n k clear) at i))
    (λ there. first_or (rw (members-take f n k there) at i) (λ e. rw e there) (λ j. members-bit f end (suc n) k m set j))

in_keep : (bit n m : ℕ) (ns : List ℕ) → In m ns → In m (keep bit n ns)
in_keep zero n m ns i = i
in_keep (suc bit) n m ns i = Memᴰ.tail i

-- the bit is set: in the list
bit-members : (f : ℕ → ℕ) (n k m : ℕ) → n ≤ m → m < n + k → f m ≡ 1 → In m (members f n k)
unfolding members
bit-members f n zero m above below there = absurd (omega arith)
bit-members f n (suc k) m above below there =
    by_cases (ℕ_discrete m n)
    (λ e. let first : f n ≡ 1 = rw e at there in rw (members-take f n k first) (Memᴰ.head e))
    (λ e. in_keep (f n) n m (members f (suc n) k) (bit-members f (suc n) k m (omega arith) (omega arith) there))

pub numbers_bit : (s : List ℕ) (m : ℕ) → In m (numbers_of s) → bit_of s m ≡ 1
unfolding numbers_of
numbers_bit s m i = members-bit (bit_of s) (8 * length s) 0 (8 * length s) m (within s) i

pub bit_numbers : (s : List ℕ) (m : ℕ) → m < 8 * length s → bit_of s m ≡ 1 → In m (numbers_of s)
unfolding numbers_of
bit_numbers s m below there = bit-members (bit_of s) 0 (8 * length s) m (omega arith) (omega arith) there

pub numbers_set : (s : List ℕ) → length s ≡ store_size → SetOf s (numbers_of s)
numbers_set s size = record {
  rises = numbers_rising s size;
  from = λ m i. numbers_bit s m i;
  to = λ m below there. bit_numbers s m (omega arith) there;
}

rising_low : {end low : ℕ} (m : ℕ) (ns : List ℕ) → Rising end low ns → In m ns → low ≤ m
rising_low m (n ∷ ns) (more above below rest) (Memᴰ.head e) = omega arith
rising_low m (n ∷ ns) (more above below rest) (Memᴰ.tail i) = let h = rising_low m ns rest i in omega arith
rising_low {end = end} {low = low} m [] _ x3 = elim x3 [ ]

rising_high : {end low : ℕ} (m : ℕ) (ns : List ℕ) → Rising end low ns → In m ns → m < end
rising_high m (n ∷ ns) (more above below rest) (Memᴰ.head e) = omega arith
rising_high m (n ∷ ns) (more above below rest) (Memᴰ.tail i) = rising_high m ns rest i
rising_high {end = end} {low = low} m [] _ x3 = elim x3 [ ]

-- two ascending lists of the same numbers are one
rising_same : (end low : ℕ) (a b : List ℕ) → Rising end low a → Rising end low b → ((m : ℕ) → In m a → In m b) → ((m : ℕ) → In m b → In m a) → a ≡ b
rising_same end low [] [] none none to from = refl
rising_same end low [] (k ∷ b) none (more above below y) to from = elim (from k (Memᴰ.head refl)) [ ]
rising_same end low (n ∷ a) [] (more above below x) none to from = elim (to n (Memᴰ.head refl)) [ ]
rising_same end low (n ∷ a) (k ∷ b) (more above below x) (more above' below' y) to from =
    let p : k ≤ n = first_or (to n (Memᴰ.head refl)) (λ e. omega arith) (λ i. let h = rising_low n b y i in omega arith) in
    let q : n ≤ k = first_or (from k (Memᴰ.head refl)) (λ e. omega arith) (λ i. let h = rising_low k a x i in omega arith) in
    let e : n ≡ k = omega arith in
    let x' : Rising end (suc k) a = subst (λ (n : ℕ). Rising end (suc n) a) e x in
    let rest : a ≡ b = rising_same end (suc k) a b x' y
    (λ m i. let h = rising_low m a x' i in first_or (to m (Memᴰ.tail i)) (λ e. absurd (omega arith)) (λ j. j))
    (λ m i. let h = rising_low m b y i in first_or (from m (Memᴰ.tail i)) (λ e. absurd (omega arith)) (λ j. j)) in
    rw (e, rest)

-- there is one sorted list
pub sorted_unique : {ns a b : List ℕ} → Sorted ns a → Sorted ns b → a ≡ b
sorted_unique {ns} {a} {b} x y =
    rising_same 65536 0 a b x.rises y.rises (λ m i. y.to m (x.from m i)) (λ m i. x.to m (y.from m i))

pub rising_sorted : (ns : List ℕ) → Rising 65536 0 ns → Sorted ns ns
rising_sorted ns rises = record { rises = rises; from = λ m i. i; to = λ m i. i }

pub rising_below : (ns : List ℕ) → Rising 65536 0 ns → AllBelow 65536 ns
rising_below ns rises m i = rising_high m ns rises i

pub length-added : (s ns : List ℕ) → length (added_all s ns) ≡ length s
length-added s [] = refl
length-added s (n ∷ ns) = length-added (added s n) ns ∙ length-set s (n / 8) _

module _ (s : List ℕ) (n : ℕ) (ns : List ℕ) (below : AllBelow (8 * length s) (n ∷ ns)) where
  below_first : n < 8 * length s
  below_first = below n (Memᴰ.head refl)

  below_rest : AllBelow (8 * length (added s n)) ns
  below_rest m i = simp length-set (below m (Memᴰ.tail i))

-- what was there stays
added-kept : (s ns : List ℕ) (m : ℕ) → AllBelow (8 * length s) ns → bit_of s m ≡ 1 → bit_of (added_all s ns) m ≡ 1
added-kept s [] m below there = there
added-kept s (n ∷ ns) m below there =
    let one = added-one s n (below_first s n ns below) in
    added-kept (added s n) ns m (below_rest s n ns below)
    (by_cases (ℕ_discrete m n) (λ e. rw e one.this) (λ e. one.others m e ∙ there))

-- what is added comes
added_in : (s ns : List ℕ) (m : ℕ) → AllBelow (8 * length s) ns → In m ns → bit_of (added_all s ns) m ≡ 1
added_in s (n ∷ ns) m below (Memᴰ.head e) =
    let one = added-one s n (below_first s n ns below) in
    added-kept (added s n) ns m (below_rest s n ns below) (rw e one.this)
added_in s (n ∷ ns) m below (Memᴰ.tail i) = added_in (added s n) ns m (below_rest s n ns below) i
added_in s [] m below x'' = elim x'' [ ]

-- what is there afterwards was added or there
added-from : (s ns : List ℕ) (m : ℕ) → AllBelow (8 * length s) ns → bit_of s m ≡ 0 → bit_of (added_all s ns) m ≡ 1 → In m ns
added-from s [] m below clear there = absurd (omega arith)
added-from s (n ∷ ns) m below clear there =
    let one = added-one s n (below_first s n ns below) in
    by_cases (ℕ_discrete m n) (λ e. Memᴰ.head e)
    (λ e. Memᴰ.tail (added-from (added s n) ns m (below_rest s n ns below) (one.others m e ∙ clear) there))

pub length-empty : length empty_store ≡ 8192
length-empty = length-zero_bytes store_size

empty-clear : (m : ℕ) → bit_of empty_store m ≡ 0
empty-clear m = rw (get_or-zero_bytes (m / 8) store_size, zero-div)

-- the numbers of an empty store to which a list was added
pub added_sorted : (ns : List ℕ) → AllBelow 65536 ns → Sorted ns (numbers_of (added_all empty_store ns))
added_sorted ns below =
    let s = added_all empty_store ns in
    let size : length s ≡ 8192 = length-added empty_store ns ∙ length-empty in
    let fits : AllBelow (8 * length empty_store) ns = (λ m i. let h = below m i in omega (arith, length-empty)) in
    record {
      rises = numbers_rising s size;
      from = λ m i. added-from empty_store ns m fits (empty-clear m) (numbers_bit s m i);
      to = λ m i. bit_numbers s m (let h = below m i in omega arith) (added_in empty_store ns m fits i);
    }
