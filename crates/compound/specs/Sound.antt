-- What a compound is, said of its packets: laid end to end, these and no others are what the first pass accepts.
use Rattle.std.specs.Prelude.{ℕ, List, [], ◌∷◌, ◌≡◌, true, length}
use Rattle.utils.specs.Header.{version_of, padding_bit_of, length_of}
use Rattle.utils.specs.Check.{padding_fits}

-- a packet is as long as it says, and its version is 2
pub record Whole (p : List ℕ) : Type 0 where
  pub size : length p ≡ length_of p
  pub two : version_of p ≡ 2

-- one packet or more; none but the last is padded, and its padding count fits
pub data Sound : List (List ℕ) → Type 0 where
  plain : {p : List ℕ} → Whole p → padding_bit_of p ≡ 0 → Sound (p ∷ [])
  padded : {p : List ℕ} → Whole p → padding_bit_of p ≡ 1 → padding_fits p ≡ true → Sound (p ∷ [])
  before : {p : List ℕ} {ps : List (List ℕ)} → Whole p → padding_bit_of p ≡ 0 → Sound ps → Sound (p ∷ ps)
