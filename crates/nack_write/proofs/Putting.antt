-- Writing: the entries that are left, stored one by one.
use Prim.Native.Nat.{ℕ, ◌+◌, ◌*◌, ◌≤◌}
use mathlib.Core.Path.{◌≡◌, refl, ap}
use mathlib.Core.List.{List, [], ◌∷◌}
use native.Mathlib.Omega.{arith}
use native.Mathlib.Numerals.{add-four}
use lib.ListN.{length}
use lib.Seq.{sets}
use Rattle.nack_store.specs.Bits.{numbers_of}
use Rattle.nack.specs.Entries.{Entry, entry, entries_of, entry_bytes, all_bytes, nack_bytes}

length-bytes : (es : List Entry) → length (all_bytes es) ≡ 4 * length es
unfolding all_bytes
length-bytes [] = refl
length-bytes (entry n mask ∷ es) = omega (arith, length-bytes es)

pub length_nack : (s : List ℕ) → length (nack_bytes s) ≡ 4 * length (entries_of (numbers_of s))
unfolding nack_bytes
length_nack s = length-bytes (entries_of (numbers_of s))

-- what is left, stored from a place on, makes the whole
pub record Putting (s out₀ out : List ℕ) (at : ℕ) (left : List Entry) : Type 0 where
  pub bytes : sets out at (all_bytes left) ≡ sets out₀ 0 (nack_bytes s)
  pub end : at + 4 * length left ≡ length (nack_bytes s)

pub putting_start : (s out : List ℕ) (left : List Entry) → left ≡ entries_of (numbers_of s) → Putting s out out 0 left
unfolding nack_bytes
putting_start s out left all = record { bytes = ap (λ (es : List Entry). sets out 0 (all_bytes es)) all; end = omega (arith, ap length all, length-bytes (entries_of (numbers_of s))) }

pub putting_over : {s out₀ out : List ℕ} {at : ℕ} {left : List Entry} → left ≡ [] → Putting s out₀ out at left → (at ≡ length (nack_bytes s)) × (out ≡ sets out₀ 0 (nack_bytes s))
unfolding all_bytes
putting_over {s} {out₀} {out} {at} {left} none p = (omega (arith, p.end, ap length none), rw none at p.bytes)

pub putting_room : {s out₀ out : List ℕ} {at n mask : ℕ} {left rest : List Entry} → left ≡ entry n mask ∷ rest → length (nack_bytes s) ≤ length out → Putting s out₀ out at left → at + 4 ≤ length out
putting_room front fits p = omega (arith, p.end, ap length front)

pub putting_turn : {s out₀ out new : List ℕ} {at n mask bits : ℕ} {left rest : List Entry} → left ≡ entry n mask ∷ rest → bits ≡ mask → new ≡ sets out at (entry_bytes n bits)
    → Putting s out₀ out at left → Putting s out₀ new (at + 4) rest
unfolding all_bytes
putting_turn front window stored p = record { bytes = rw (stored, window, add-four) (rw front at p.bytes); end = omega (arith, p.end, ap length front) }
