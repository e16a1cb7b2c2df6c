-- No slack: two answers that meet a promise are equal.
use Prim.Native.Nat.{ℕ, ◌%◌, ◌≤◌}
use mathlib.Core.Path.{◌≡◌, sym, ◌∙◌}
use lib.IntN.{ℤ}
use lib.ListN.{length, get_or}
use Rattle.twcc.specs.Words.{symbol_of}
use Rattle.twcc.specs.Status.{status_of}
use Rattle.twcc.specs.Chunks.{stands_for}
use Rattle.twcc.specs.declared.Status.{Status}

pub status_unique : (word : ℤ) (a b : Status) → a ≡ status_of word → b ≡ status_of word → a ≡ b
status_unique word a b one two = one ∙ sym two

pub symbol_unique : (word : ℤ) (a b : ℕ) → (a ≡ symbol_of word) × (a ≤ 2) → (b ≡ symbol_of word) × (b ≤ 2) → a ≡ b
symbol_unique word a b one two = one.0 ∙ sym two.0

pub small_unique : (word : ℤ) (a b : ℕ) → a ≡ symbol_of word % 2 → b ≡ symbol_of word % 2 → a ≡ b
small_unique word a b one two = one ∙ sym two

pub size_unique : (chunk a b : ℕ) → a ≡ length (stands_for chunk) → b ≡ length (stands_for chunk) → a ≡ b
size_unique chunk a b one two = one ∙ sym two

pub symbol_at_unique : (chunk place a b : ℕ) → a ≡ get_or (stands_for chunk) place 0 → b ≡ get_or (stands_for chunk) place 0 → a ≡ b
symbol_at_unique chunk place a b one two = one ∙ sym two
