-- Runs: deltas whose bytes are there, one by one and a part at a time, runs that are cut short, and those without deltas.
use Prim.Native.Nat.{ℕ, zero, suc, ◌+◌, ◌-◌, ◌*◌, ◌/◌, ◌^◌, ◌≤◌, ◌<◌}
use mathlib.Core.Path.{◌≡◌, refl, sym, ap, ◌∙◌, ap₂}
use mathlib.Core.List.{List, [], ◌∷◌, ◌++◌}
use native.Mathlib.Nat.{mul-add, mul-suc, mul-le-mul_left, zero-mul, suc-mul}
use native.Mathlib.Numerals.{add-one}
use native.Mathlib.Omega.{arith}
use lib.IntN.{ℤ}
use lib.ListN.{length, get_or, take, drop, set, replicate, length-append, length-take, length-drop, length-replicate, get_or-replicate, replicate-append-replicate, drop_of_length-le}
use Rattle.std.proofs.lemmas.Bool.Decides.{nat_tests}
use borrow.Rule.Slice.PartMut.{put_mid}
use Rattle.std.proofs.lemmas.Slice.{take-put_mid}
use Rattle.std.proofs.lemmas.List.{drop-replicate, take-replicate, take_rest}
use Rattle.twcc_cursors.proofs.Steps.{bytes_by, word_by}
use Rattle.twcc.specs.Words.{bytes_of, width_of, word_of, entries, not_received, truncated, reserved}
use Rattle.twcc.proofs.Entries.{length-entries, entries-append}
use Rattle.twcc.proofs.Written.{bytes-symbol}
use Rattle.twcc_read.specs.Filled.{Filled}
use Rattle.twcc_read.proofs.Filling.{Listing, listing_part, listing_over}
use Rattle.twcc_read.proofs.Symbols.{listing_there}

-- ---- deltas whose bytes are there

-- one delta of a run of them
pub listing_delta : (symbol n : ℕ) {bytes : List ℕ} {j : ℕ} {list : List ℤ} {word : ℤ}
    → Listing bytes (replicate n symbol) (symbol * j) j list → 0 < symbol → symbol ≤ 2 → symbol * n ≤ length bytes → j < n → length list ≡ n
    → word ≡ word_of symbol (get_or bytes (symbol * j) 0 ∷ get_or bytes (symbol * j + symbol - 1) 0 ∷ [])
    → Listing bytes (replicate n symbol) (symbol * (j + 1)) (j + 1) (set list j word)
listing_delta symbol n {bytes} {j} {list} {word} l some few there more all a_word =
    let few_bytes : symbol * (j + 1) ≤ symbol * n = rw add-one (mul-le-mul_left symbol more) in
    let next : symbol * (j + 1) ≡ symbol * j + symbol = rw add-one (mul-suc symbol j) in
    listing_there symbol l some few (own symbol few) (omega (arith, few_bytes, next)) (omega (arith, length-replicate n symbol)) (omega arith)
    (sym (get_or-replicate n j symbol 0 more)) a_word (next ∙ ap (λ (b : ℕ). symbol * j + b) (sym (bytes-symbol symbol (omega arith))))
  where
    own : (symbol : ℕ) → symbol ≤ 2 → symbol < 2 ^ symbol
    own zero few = omega arith
    own (suc zero) few = omega arith
    own (suc (suc zero)) few = omega arith
    own (suc (suc (suc symbol))) few = absurd (omega arith)

-- several deltas of a run of them, written from a place on
pub listing_run : (delta n m width : ℕ) {bytes : List ℕ} {j k : ℕ} {list part : List ℤ} → Listing bytes (replicate n delta) (delta * j) j list
    → Filled (take (length bytes - delta * j) (drop (delta * j) bytes)) (replicate m delta) (delta * m) part
    → k ≡ j + m → k ≤ n → length list ≡ n → Listing bytes (replicate n delta) (delta * k) k (put_mid j width list part)
listing_run delta n m width {bytes} {j} {k} {list} {part} l filled on within full =
    let next : replicate m delta ≡ take m (drop j (replicate n delta)) = sym (ap (take m) (drop-replicate j n delta) ∙ take-replicate m (n - j) delta (omega arith)) in
    let eaten : delta * k ≡ delta * j + delta * m = rw on (mul-add delta j m) in
    let size : length part ≡ m = ap length filled.words ∙ length-entries (replicate m delta) _ ∙ length-replicate m delta in
    listing_part m l next (rw take_rest at filled) (take-put_mid j width list part k (omega arith) (omega arith)) eaten on

-- all of them
pub deltas_over : (delta n : ℕ) {bytes : List ℕ} {j : ℕ} {list : List ℤ} → Listing bytes (replicate n delta) (delta * j) j list → j ≡ n → length list ≡ n
    → Filled bytes (replicate n delta) (delta * n) list
deltas_over delta n l all full = listing_over (rw all at l) (length-replicate n delta) full

-- the rest of them
pub listing_rest : (delta n : ℕ) {bytes : List ℕ} {j : ℕ} {list part : List ℤ} → Listing bytes (replicate n delta) (delta * j) j list
    → Filled (take (length bytes - delta * j) (drop (delta * j) bytes)) (replicate (length (take (length list - j) (drop j list))) delta)
    (delta * length (take (length list - j) (drop j list))) part
    → j ≤ n → length list ≡ n → Filled bytes (replicate n delta) (delta * n) (put_mid j (length list - j) list part)
listing_rest delta n {bytes} {j} {list} {part} l filled within full =
    let m = length (take (length list - j) (drop j list)) in
    let left : m ≡ n - j = rw take_rest (omega (arith, length-drop j list)) in
    let size : length part ≡ m = ap length filled.words ∙ length-entries (replicate m delta) _ ∙ length-replicate m delta in
    let whole : length (put_mid j (length list - j) list part) ≡ n = simp (length-append, length-take, length-drop) (omega arith) in
    deltas_over delta n (listing_run delta n m (length list - j) l filled (omega arith) (omega arith) full) refl whole

-- ---- a run that is cut short, and one without deltas

-- too few bytes for one more delta
entries_cut : (delta : ℕ) → 0 < delta → delta ≤ 2 → (q : ℕ) (ds : List ℕ) → length ds < delta → entries (replicate q delta) ds ≡ replicate q truncated
unfolding entries word_of bytes_of
entries_cut zero some few q ds short = absurd (omega arith)
entries_cut (suc zero) some few zero ds short = refl
entries_cut (suc zero) some few (suc q) [] short = ap (λ (l : List ℤ). truncated ∷ l) (entries_cut 1 some few q [] short)
entries_cut (suc zero) some few (suc q) (d ∷ ds) short = absurd (omega arith)
entries_cut (suc (suc zero)) some few zero ds short = refl
entries_cut (suc (suc zero)) some few (suc q) [] short = ap (λ (l : List ℤ). truncated ∷ l) (entries_cut 2 some few q [] short)
entries_cut (suc (suc zero)) some few (suc q) (d ∷ []) short = ap (λ (l : List ℤ). truncated ∷ l) (entries_cut 2 some few q [] (omega arith))
entries_cut (suc (suc zero)) some few (suc q) (d ∷ e ∷ ds) short = absurd (omega arith)
entries_cut (suc (suc (suc delta))) some few q ds short = absurd (omega arith)

width-run : (x n : ℕ) → width_of (replicate n x) ≡ n * bytes_of x
unfolding width_of
width-run x zero = sym (zero-mul (bytes_of x))
width-run x (suc n) = rw (width-run x n) (omega (arith, suc-mul n (bytes_of x)))

-- how far whole deltas reach
pub reach : (delta n m size : ℕ) → 0 < delta → delta ≤ 2 → m ≡ size / delta → m < n → (size - delta * m < delta) × (size ≤ n * delta)
reach zero n m size some few whole more = absurd (omega arith)
reach (suc zero) n m size some few whole more = (omega arith, omega arith)
reach (suc (suc zero)) n m size some few whole more = (omega arith, omega arith)
reach (suc (suc (suc delta))) n m size some few whole more = absurd (omega arith)

-- m of the n deltas have their bytes, fewer than a delta's bytes follow, and the rest of the run is cut; in the end no byte is left
pub run_cut : (delta n m q : ℕ) {bytes : List ℕ} {eaten : ℕ} {front cut : List ℤ} → 0 < delta → delta ≤ 2 → m + q ≡ n → length bytes - eaten < delta → length bytes ≤ n * delta
    → Filled bytes (replicate m delta) eaten front → cut ≡ replicate q truncated → Filled bytes (replicate n delta) (length bytes) (front ++ cut)
run_cut delta n m q {bytes} {eaten} {front} {cut} some few sum short long filled stored =
    let parts : replicate m delta ++ replicate q delta ≡ replicate n delta = replicate-append-replicate m q delta ∙ ap (λ (i : ℕ). replicate i delta) sum in
    let width : width_of (replicate n delta) ≡ n * delta = width-run delta n ∙ ap (λ (b : ℕ). n * b) (bytes-symbol delta (omega arith)) in
    let left : length (drop (width_of (replicate m delta)) bytes) < delta = rw (← filled.rest, length-drop) short in
    record {
      words = rw (filled.words, stored, ← parts, entries-append) (ap (λ (l : List ℤ). entries (replicate m delta) bytes ++ l) (sym (entries_cut delta some few q _ left)));
      rest = drop_of_length-le bytes {i = length bytes} (omega arith) ∙ sym (rw width (drop_of_length-le bytes long));
      inside = omega arith;
    }

entries_still : (x : ℕ) (word : ℤ) → ((ds : List ℕ) → word_of x ds ≡ word) → (n : ℕ) (ds : List ℕ) → entries (replicate n x) ds ≡ replicate n word
unfolding entries
entries_still x word is zero ds = refl
entries_still x word is (suc n) ds =
    ap₂ (λ (w : ℤ) (l : List ℤ). w ∷ l) (is ds) (entries_still x word is n (drop (bytes_of x) ds))

-- no delta, and a word of its own
pub run_still : (x n : ℕ) (word : ℤ) {bytes : List ℕ} {list : List ℤ} → bytes_of x ≡ 0 → ((ds : List ℕ) → word_of x ds ≡ word)
    → list ≡ replicate n word → Filled bytes (replicate n x) 0 list
run_still x n word {bytes} {list} none is stored =
    let nothing : width_of (replicate n x) ≡ 0 = width-run x n ∙ rw none (omega arith) in
    record {
      words = stored ∙ sym (entries_still x word is n bytes);
      rest = sym (ap (λ (i : ℕ). drop i bytes) nothing);
      inside = omega arith;
    }

pub run_none : (x n : ℕ) {bytes : List ℕ} {list : List ℤ} → x ≡ 0 → list ≡ replicate n not_received → Filled bytes (replicate n x) 0 list
run_none x n none = run_still x n not_received (grind (arith, bytes_by, nat_tests)) (λ ds. grind (arith, word_by, nat_tests))

pub run_reserved : (x n : ℕ) {bytes : List ℕ} {list : List ℤ} → 2 < x → list ≡ replicate n reserved → Filled bytes (replicate n x) 0 list
run_reserved x n other = run_still x n reserved (grind (arith, bytes_by, nat_tests)) (λ ds. grind (arith, word_by, nat_tests))
