-- Reading: entries one by one, counted and listed.
use Prim.Native.Nat.{ℕ, suc, ◌+◌, ◌*◌, ◌-◌, ◌/◌, ◌%◌, ◌<◌, ◌≤◌}
use mathlib.Core.Path.{◌≡◌, refl, sym, ap, ◌∙◌}
use mathlib.Core.List.{List, [], ◌∷◌, ◌++◌, append-nil}
use native.Mathlib.Omega.{arith}
use lib.Bits.{bit_and}
use lib.Count.{ones, count_trailing_zeros}
use native.Mathlib.Nat.{add-zero, zero-add}
use native.Mathlib.Numerals.{add-one}
use lib.ListN.{length, get_or, take, drop, set, length-append, length-drop, drop_of_length-le}
use lib.Seq.{sets, take_all, drop-cons}
use borrow.Rule.Slice.PartMut.{put_mid}
use Rattle.std.specs.Simd.{first_chunks}
use Rattle.std.proofs.lemmas.List.{take_more}
use Rattle.std.proofs.lemmas.List.Concat.{flat_map-append}
use Rattle.std.proofs.lemmas.List.Folds.{length-flat_map-take}
use Rattle.octets.specs.Big.{be}
use Rattle.lent.proofs.Laws.{sets_append}
use Rattle.lent.proofs.Filling.{sets_part}
use Rattle.nack.specs.Entries.{masked, named, all_named, entries_in, read_nack}
use Rattle.nack.specs.Promise.{capped}
use Rattle.nack.proofs.Masks.{length-named, named-few, masked-none, masked-first, masked_full, and_less, run, length_run, run-none, run-more}
use Rattle.nack_read.specs.Named.{entry_named, named_by}

-- the numbers that bytes name are those of their entries
pub entries_named : (bytes : List ℕ) → named_by (first_chunks 4 (length bytes / 4) bytes) ≡ read_nack bytes
unfolding read_nack entries_in all_named
entries_named [] = refl
entries_named (a ∷ []) = refl
entries_named (a ∷ b ∷ []) = refl
entries_named (a ∷ b ∷ c ∷ []) = refl
entries_named (a ∷ b ∷ c ∷ d ∷ rest) =
    let one_more : length (a ∷ b ∷ c ∷ d ∷ rest) / 4 ≡ suc (length rest / 4) = omega arith in
    rw (one_more, entries_named rest)

-- an entry names at most seventeen
pub named_by_few : (es : List (List ℕ)) → length (named_by es) ≤ 17 * length es
named_by_few [] = omega arith
named_by_few (e ∷ es) = simp length-append (omega (arith, named-few (be 2 e 0) (be 2 e 2), named_by_few es))

-- one entry more
pub named_more : (es : List (List ℕ)) (i : ℕ) → i < length es → named_by (take (i + 1) es) ≡ named_by (take i es) ++ entry_named (get_or es i [])
named_more es i more =
    ap named_by (take_more es i [] more) ∙ flat_map-append entry_named (take i es) (get_or es i [] ∷ []) ∙ ap (λ (l : List ℕ). named_by (take i es) ++ l) (append-nil _)

-- counting one entry more
pub counted_more : (es : List (List ℕ)) (i listed mask : ℕ) → i < length es → mask ≡ be 2 (get_or es i []) 2 → mask < 65536 → listed ≡ capped (length (named_by (take i es)))
    → capped (listed + (1 + ones mask)) ≡ capped (length (named_by (take (i + 1) es)))
counted_more es i listed mask more read small all =
    let this = length-named (be 2 (get_or es i []) 0) mask small in
    rw (named_more es i more, ← read) (omega (arith, length-append {A = ℕ}))

-- the numbers that an entry with a full mask names, stored one by one
pub full_none : (list : List ℕ) (n : ℕ) → sets list 0 (run n 0) ≡ list
full_none list n = rw run-none

pub full_more : (list : List ℕ) (n j : ℕ) → set (sets list 0 (run n j)) j ((n + j) % 65536) ≡ sets list 0 (run n (j + 1))
full_more list n j =
    let place : 0 + length (run n j) ≡ j = zero-add _ ∙ length_run n j in
    rw (add-one, run-more)
    (ap (λ (k : ℕ). set (sets list 0 (run n j)) k ((n + j) % 65536)) (sym place) ∙ sets_append list 0 (run n j) ((n + j) % 65536 ∷ []))

pub named_full : (n : ℕ) → n < 65536 → named n 65535 ≡ run n 17
unfolding run
named_full n small =
    let own : n % 65536 ≡ n = omega arith in
    rw (own, masked_full)

pub ruleset full_steps = (full_none, full_more, named_full)

-- listing a mask: what is left of it, stored from here, makes the whole
pub record Naming (first : List ℕ) (place n mask : ℕ) (list : List ℕ) (next left : ℕ) : Type 0 where
  pub low : left < 65536
  pub numbers : sets list next (masked n left 16) ≡ sets first (suc place) (masked n mask 16)
  pub end : next + length (masked n left 16) ≡ place + length (named n mask)

-- the lowest bit of what is left names the next number, and goes
module _ {first list : List ℕ} {place n mask next left : ℕ} (some : left ≡ 0 → ⊥) (i : Naming first place n mask list next left) where
  pub naming_room : next < place + length (named n mask)
  naming_room = omega (arith, ap length (masked-first n left i.low some), i.end)

  pub naming_turn : (number : ℕ) → number ≡ (n + (count_trailing_zeros 16 left + 1)) % 65536 → Naming first place n mask (set list next number) (next + 1) (bit_and left (left - 1))
  naming_turn number is =
      let front = masked-first n left i.low some in
      rw is
      (record {
        low = omega (arith, and_less left i.low some, i.low);
        numbers = rw (add-one next) (rw front at i.numbers);
        end = omega (arith, ap length front, i.end);
      })

pub naming_over : {first list : List ℕ} {place n mask next left : ℕ} → left ≡ 0 → Naming first place n mask list next left
    → (next ≡ place + length (named n mask)) × (list ≡ sets first (suc place) (masked n mask 16))
naming_over {first} {list} {place} {n} {mask} {next} {left} over i =
    let none : masked n left 16 ≡ [] = rw over (masked-none n 16) in
    (omega (arith, ap length none, i.end), rw none at i.numbers)

-- an entry with a full mask names seventeen
pub full_length : (n mask : ℕ) → mask ≡ 65535 → length (named n mask) ≡ 17
full_length n mask full = rw (full, masked_full) (ap suc (length_run (suc n) 16))

-- which are stored in the part from its place on
pub full_stored : (list part : List ℕ) (place n mask : ℕ) → mask ≡ 65535 → place ≤ length list → part ≡ sets (take (length list - place) (drop place list)) 0 (named n 65535)
    → put_mid place (length list - place) list part ≡ sets list place (named n mask)
full_stored list part place n mask full within stored =
    let all : length (drop place list) ≤ length list - place = simp length-drop (omega arith) in
    let part_is : part ≡ sets (drop place list) 0 (named n 65535) = rw (take_all _ _ all) at stored in
    rw (part_is, drop_of_length-le _ all, append-nil, full) (sets_part list (named n 65535) place 0 within ∙ rw add-zero)

-- listing one entry more: there is room for it, and it stands behind the entries before
pub listed_room : (es : List (List ℕ)) (i room : ℕ) → i < length es → length (named_by es) ≤ room → length (named_by (take i es)) + length (entry_named (get_or es i [])) ≤ room
listed_room es i room more fits = omega (arith, length-flat_map-take entry_named es i [] more)

pub listed_more : (es : List (List ℕ)) (i number mask : ℕ) (old list new : List ℕ) (place next : ℕ) → i < length es → number ≡ be 2 (get_or es i []) 0 → mask ≡ be 2 (get_or es i []) 2
    → (place ≡ length (named_by (take i es))) × (list ≡ sets old 0 (named_by (take i es)))
    → (next ≡ place + length (named number mask)) × (new ≡ sets list place (named number mask))
    → (next ≡ length (named_by (take (i + 1) es))) × (new ≡ sets old 0 (named_by (take (i + 1) es)))
listed_more es i number mask old list new place next more first second before entry =
    let front = named_by (take i es) in
    let all : named_by (take (i + 1) es) ≡ front ++ named number mask = named_more es i more ∙ rw (first, second) in
    let here : place ≡ 0 + length front = before.0 ∙ sym (zero-add (length front)) in (
      entry.0 ∙ rw (before.0, all) (sym (length-append front (named number mask))),
      entry.1 ∙ rw (before.1, here, all) (sets_append old 0 front (named number mask)),
    )

-- the entry that stands first among those to come: there is room for it, and then it is listed
module _ (es rest behind : List (List ℕ)) (e : List ℕ) (left : rest ≡ drop (length es - length rest) es) (is : rest ≡ e ∷ behind) (number mask : ℕ) (first : number ≡ be 2 e 0) (second : mask ≡ be 2 e 2) where
  counts : (length rest ≡ suc (length behind)) × (length rest ≡ length es - (length es - length rest))
  counts = (ap length is, ap length left ∙ length-drop (length es - length rest) es)

  more : length es - length rest < length es
  more = omega (arith, counts)

  here : e ∷ behind ≡ get_or es (length es - length rest) [] ∷ drop (suc (length es - length rest)) es
  here = sym is ∙ left ∙ drop-cons es (length es - length rest) [] more

  entry : e ≡ get_or es (length es - length rest) []
  entry = ap (λ (l : List (List ℕ)). get_or l 0 []) here

  pub next_room : (place room : ℕ) → place ≡ length (named_by (take (length es - length rest) es)) → length (named_by es) ≤ room → place + length (named number mask) ≤ room
  next_room place room front fits = rw (front, first, second, entry) (listed_room es (length es - length rest) room more fits)

  pub next_listed : (old list new : List ℕ) (place next : ℕ)
      → (place ≡ length (named_by (take (length es - length rest) es))) × (list ≡ sets old 0 (named_by (take (length es - length rest) es)))
      → (next ≡ place + length (named number mask)) × (new ≡ sets list place (named number mask))
      → (behind ≡ drop (length es - length behind) es) × (next ≡ length (named_by (take (length es - length behind) es))) × (new ≡ sets old 0 (named_by (take (length es - length behind) es)))
  next_listed old list new place next before stored =
      let on : length es - length behind ≡ length es - length rest + 1 = omega (arith, counts) in
      let all = listed_more es (length es - length rest) number mask old list new place next more (rw entry at first) (rw entry at second) before stored in
      rw on (rw add-one (ap (drop 1) here), all.0, all.1)
