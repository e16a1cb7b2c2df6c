-- What joins stores: bytes still to be written, written from here, make the whole.
use Prim.Native.Nat.{ℕ, zero, suc, ◌+◌, ◌≤◌, min}
use mathlib.Core.Path.{◌≡◌, refl, sym, ap, ◌∙◌}
use mathlib.Core.List.{List, [], ◌∷◌, ◌++◌, append_assoc}
use native.Mathlib.Nat.{add-zero, zero-add}
use native.Mathlib.Omega.{arith}
use lib.ListN.{length, get_or, take, drop, set, length-set, replicate}
use lib.Dec.{leb}
use lib.Seq.{sets, sets-eq, set_out, take_at, drop-drop, length-take-le}
use borrow.Author.Tests.{leb-true, leb-false}
use borrow.Rule.Slice.PartMut.{put_mid}
use Rattle.std.proofs.lemmas.List.{length-replicate, take-replicate}
use Rattle.octets.proofs.Logic.{by_test, nothing}
use Rattle.lent.specs.Bytes.{zero_bytes, fitting}

pub sets_append : {A : Type 0} (out : List A) (at : ℕ) (first rest : List A) → sets (sets out at first) (at + length first) rest ≡ sets out at (first ++ rest)
sets_append out at [] rest = ap (λ (k : ℕ). sets out k rest) (add-zero at)
sets_append out at (x ∷ first) rest =
    let next : at + suc (length first) ≡ suc at + length first = omega arith in
    ap (λ (k : ℕ). sets (sets (set out at x) (suc at) first) k rest) next ∙ sets_append (set out at x) (suc at) first rest

-- what lies past the end falls away
pub sets_past : (out : List ℕ) (at : ℕ) (bytes : List ℕ) → length out ≤ at → sets out at bytes ≡ out
sets_past out at [] past = refl
sets_past out at (x ∷ bytes) past =
    ap (λ (l : List ℕ). sets l (suc at) bytes) (set_out out at x past) ∙ sets_past out (suc at) bytes (omega arith)

-- what fits is all that counts
pub sets_fitting : (n : ℕ) (out : List ℕ) (at : ℕ) (bytes : List ℕ) → fitting (length out) at (length bytes) ≤ n → sets out at (take n bytes) ≡ sets out at bytes
sets_fitting zero out at [] fits = refl
sets_fitting zero out at (x ∷ bytes) fits = sym (sets_past out at (x ∷ bytes) (omega arith))
sets_fitting (suc n) out at [] fits = refl
sets_fitting (suc n) out at (x ∷ bytes) fits = sets_fitting n (set out at x) (suc at) bytes (omega (arith, length-set out at x))

-- what a part of a buffer holds then, from the place on or, where that lies past the end, from the end on
pub part_stored : (old part bytes : List ℕ) (at start n : ℕ) → start ≡ min at (length old) → n ≡ fitting (length old) start (length bytes) → part ≡ take n bytes
    → put_mid start n old part ≡ sets old at bytes
part_stored old part bytes at start n starts counts holds =
    let some : n ≤ length bytes = omega arith in
    let all : length part ≡ n = ap length holds ∙ length-take-le n bytes some in
    let end : start + length part ≤ length old = omega arith in
    let behind : drop n (drop start old) ≡ drop (start + length part) old = drop-drop n start old ∙ ap (λ (k : ℕ). drop (start + k) old) (sym all) in
    let whole : put_mid start n old part ≡ sets old start part = ap (λ (l : List ℕ). take start old ++ (part ++ l)) behind ∙ sym (append_assoc (take start old) part (drop (start + length part) old)) ∙ sym (sets-eq part old start end) in
    by_test (leb at (length old))
    (λ within. let inside = leb-true at (length old) within in
    let here : start ≡ at = omega arith in
    whole ∙ ap (λ (k : ℕ). sets old k part) here ∙ ap (λ (l : List ℕ). sets old at l) holds ∙ sets_fitting n old at bytes (omega arith))
    (λ past. let outside = leb-false at (length old) past in
    let none : n ≡ 0 = omega arith in
    whole ∙ ap (λ (l : List ℕ). sets old start l) (nothing part (omega arith)) ∙ sym (sets_past old at bytes (omega arith)))

pub length-zero_bytes : (count : ℕ) → length (zero_bytes count) ≡ count
unfolding zero_bytes
length-zero_bytes count = length-replicate count 0

pub take-zero_bytes : (n count : ℕ) → n ≤ count → take n (zero_bytes count) ≡ replicate n 0
unfolding zero_bytes
take-zero_bytes n count few = take-replicate n count 0 few

pub get_or-zero_bytes : (j count : ℕ) → get_or (zero_bytes count) j 0 ≡ 0
unfolding zero_bytes
get_or-zero_bytes j zero = refl
get_or-zero_bytes zero (suc count) = refl
get_or-zero_bytes (suc j) (suc count) = get_or-zero_bytes j count

-- what was written to the front stands there
pub take_sets : (out bytes : List ℕ) (n : ℕ) → length bytes ≡ n → n ≤ length out → take n (sets out 0 bytes) ≡ bytes
take_sets out bytes n all fits =
    ap (λ (l : List ℕ). take n l) (sets-eq bytes out 0 (omega arith))
    ∙ ap (λ (l : List ℕ). take n l) (append_assoc [] bytes (drop (0 + length bytes) out))
    ∙ take_at bytes (drop (0 + length bytes) out) n all

-- elements that fit, stored one by one from the start on
pub sets_over : {A : Type 0} (front old : List A) → length front ≤ length old → sets old 0 front ≡ front ++ drop (length front) old
sets_over front old fits = simp zero-add at (sets-eq front old 0 (omega arith))
