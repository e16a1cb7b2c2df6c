-- Laws of a set's members and of its windows, for any function of bits.
use Prim.Native.Nat.{ℕ, zero, suc, ◌+◌, ◌*◌, ◌-◌, ◌/◌, ◌%◌, ◌^◌, ◌<◌, ◌≤◌}
use mathlib.Core.Path.{◌≡◌, refl, sym, ◌∙◌}
use mathlib.Core.List.{[], ◌∷◌, ◌++◌}
use mathlib.Core.Logic.{by_cases}
use native.Mathlib.Omega.{arith}
use native.Mathlib.Nat.{add-zero, zero-add, add-suc, suc-add, pow-suc, pow-succ', pow-zero, one-mul, mul-add, mul_assoc, mul_comm, add_comm, add_assoc, div-one, div-div-eq-div-mul}
use native.Mathlib.Decide.{dec_le}
use lib.Arith.{digits_div, digits_mod, mod-mul}
use lib.Pow.{pow_pos}
use lib.Count.{ones, ones_step}
use lib.ListN.{length, length-append}
use Rattle.nack_store.specs.Bits.{members, window}
use Rattle.nack_store.specs.Sets.{BitsBelow}

-- a bit is 0 or 1
pub by_bit : {X : Type 0} (bit : ℕ) → bit < 2 → (bit ≡ 0 → X) → (bit ≡ 1 → X) → X
by_bit zero two clear there = clear refl
by_bit (suc zero) two clear there = there refl
by_bit (suc (suc bit)) two clear there = absurd (omega arith)

pub by_le : {X : Type 0} (a b : ℕ) → (a ≤ b → X) → (b < a → X) → X
by_le a b low high = by_cases (dec_le a b) low (λ h. high (omega arith))

-- a number that is not there is passed over
pub members_skip : (f : ℕ → ℕ) (n k : ℕ) → f n ≡ 0 → members f n (suc k) ≡ members f (suc n) k
unfolding members
members_skip f n k clear = rw clear

pub members-take : (f : ℕ → ℕ) (n k : ℕ) → f n ≡ 1 → members f n (suc k) ≡ n ∷ members f (suc n) k
unfolding members
members-take f n k there = rw there

-- the same, said by what is left below `end`
pub left-take : (f : ℕ → ℕ) (n end : ℕ) → n < end → f n ≡ 1 → members f n (end - n) ≡ n ∷ members f (suc n) (end - suc n)
left-take f n end below there =
    let left : end - n ≡ suc (end - suc n) = omega arith in
    rw left (members-take f n (end - suc n) there)

pub left_none : (f : ℕ → ℕ) (n end : ℕ) → end ≤ n → members f n (end - n) ≡ []
unfolding members
left_none f n end past =
    let left : end - n ≡ 0 = omega arith in
    rw left

pub left_skip : (f : ℕ → ℕ) (n end : ℕ) → f n ≡ 0 → members f n (end - n) ≡ members f (suc n) (end - suc n)
left_skip f n end clear =
    by_le end n
    (λ past. left_none f n end past ∙ sym (left_none f (suc n) end (omega arith)))
    (λ below.
    let left : end - n ≡ suc (end - suc n) = omega arith in
    rw left (members_skip f n (end - suc n) clear))

-- so are several
pub left_skip_all : (f : ℕ → ℕ) (n k end : ℕ) → ((i : ℕ) → i < k → f (n + i) ≡ 0) → members f n (end - n) ≡ members f (n + k) (end - (n + k))
left_skip_all f n zero end clear = rw add-zero
left_skip_all f n (suc k) end clear =
    let first : f n ≡ 0 = rw add-zero at (clear 0 (omega arith)) in
    let next : n + suc k ≡ suc n + k = omega arith in
    rw next (left_skip f n end first ∙ left_skip_all f (suc n) k end (λ i l. rw (suc-add, ← add-suc) (clear (suc i) (omega arith))))

pub window-out : (f : ℕ → ℕ) (n k end : ℕ) → BitsBelow f end → end ≤ n → window f n k ≡ 0
unfolding window
window-out f n zero end set past = refl
window-out f n (suc k) end set past = omega (arith, set.out n past, window-out f (suc n) k end set (omega arith))

pub window_lt : (f : ℕ → ℕ) (n k end : ℕ) → BitsBelow f end → window f n k < 2 ^ k
unfolding window
window_lt f n zero end set = omega (arith, pow-zero 2)
window_lt f n (suc k) end set = omega (arith, set.bit n, window_lt f (suc n) k end set, pow-suc 2 k)

pub window-append : (f : ℕ → ℕ) (n i j : ℕ) → window f n (i + j) ≡ window f n i + 2 ^ i * window f (n + i) j
unfolding window
window-append f n zero j = rw (zero-add, pow-zero, one-mul, add-zero, zero-add)
window-append f n (suc i) j =
    rw (suc-add, window-append f (suc n) i j, pow-succ', suc-add, add-suc, mul-add, ← mul_assoc, add_assoc)

-- a window as a number, shifted and cut
pub window_shr : (f : ℕ → ℕ) (n r k end : ℕ) → BitsBelow f end → window f n (r + k) / 2 ^ r ≡ window f (n + r) k
window_shr f n r k end set =
    rw (window-append, add_comm, mul_comm) (digits_div (window f (n + r) k) (window_lt f n r end set))

pub window-low : (f : ℕ → ℕ) (n k j end : ℕ) → BitsBelow f end → window f n (k + j) % 2 ^ k ≡ window f n k
window-low f n k j end set =
    rw (window-append, add_comm, mul_comm) (digits_mod (window f (n + k) j) (window_lt f n k end set))

-- a number's digits are its window
pub window_digits : (f : ℕ → ℕ) (n k x : ℕ) → ((i : ℕ) → i < k → f (n + i) ≡ x / 2 ^ i % 2) → window f n k ≡ x % 2 ^ k
unfolding window
window_digits f n zero x digit = omega (arith, pow-zero 2)
window_digits f n (suc k) x digit =
    let first : f n ≡ x % 2 = rw (add-zero, pow-zero, div-one) at (digit 0 (omega arith)) in
    let rest : window f (suc n) k ≡ x / 2 % 2 ^ k =
    window_digits f (suc n) k (x / 2) (λ i l. rw (suc-add, ← add-suc, div-div-eq-div-mul, ← pow-succ') (digit (suc i) (omega arith))) in
    let whole : x % 2 ^ suc k ≡ (x / 2 % 2 ^ k) * 2 + x % 2 = rw (pow-suc) (mod-mul x (pow_pos k) (omega arith)) in
    omega arith

pub members-append : (f : ℕ → ℕ) (end n i j : ℕ) → BitsBelow f end → members f n (i + j) ≡ members f n i ++ members f (n + i) j
unfolding members
members-append f end n zero j set = rw (zero-add, add-zero)
members-append f end n (suc i) j set =
    let next : n + suc i ≡ suc n + i = omega arith in
    by_bit (f n) (set.bit n)
    (λ clear. rw (suc-add, next, members_skip f n (i + j) clear, members_skip f n i clear) (members-append f end (suc n) i j set))
    (λ there. rw (suc-add, next, members-take f n (i + j) there, members-take f n i there, members-append f end (suc n) i j set))

-- a window's digits count its members
pub members-ones : (f : ℕ → ℕ) (end n k : ℕ) → BitsBelow f end → length (members f n k) ≡ ones (window f n k)
unfolding members window ones
members-ones f end n zero set = refl
members-ones f end n (suc k) set =
    let low : (f n + 2 * window f (suc n) k) % 2 ≡ f n = omega (arith, set.bit n) in
    let high : (f n + 2 * window f (suc n) k) / 2 ≡ window f (suc n) k = omega (arith, set.bit n) in
    let step : ones (f n + 2 * window f (suc n) k) ≡ f n + ones (window f (suc n) k) = ones_step (f n + 2 * window f (suc n) k) ∙ rw (low, high) in
    by_bit (f n) (set.bit n)
    (λ clear. rw (members_skip f n k clear) (omega (arith, step, members-ones f end (suc n) k set)))
    (λ there. rw (members-take f n k there) (omega (arith, step, members-ones f end (suc n) k set)))

-- the members from n on: those of a window, and those behind it
pub count-window : (f : ℕ → ℕ) (end n k : ℕ) → BitsBelow f end → n + k ≤ end
    → length (members f n (end - n)) ≡ ones (window f n k) + length (members f (n + k) (end - (n + k)))
count-window f end n k set fits =
    let left : end - n ≡ k + (end - (n + k)) = omega arith in
    rw (left, members-append f end n k (end - (n + k)) set, length-append, members-ones f end n k set)
