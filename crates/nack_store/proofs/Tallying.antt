-- Counting a store's numbers a byte at a time: the ones of the bytes from a place on are the numbers from there on.
use Prim.Native.Nat.{ℕ, zero, suc, ◌+◌, ◌*◌, ◌-◌, ◌≤◌}
use mathlib.Core.Path.{◌≡◌}
use mathlib.Core.List.{List}
use native.Mathlib.Omega.{arith}
use native.Mathlib.Nat.{zero-add, sub-zero}
use mir.Val.{Fits}
use mir.Syntax.{w8}
use lib.Count.{ones}
use lib.ListN.{length, get_or, drop, drop_of_length-le}
use Rattle.std.specs.List.{sum_by}
use Rattle.std.proofs.lemmas.List.Sums.{sum_by-drop_more}
use Rattle.nack_store.specs.Bits.{bit_of, members, numbers_of}
use Rattle.nack_store.proofs.Sets.{left_none, count-window}
use Rattle.nack_store.proofs.Bytes.{within, window-byte}

ones_left : (s : List ℕ) (k at : ℕ) → ((i : ℕ) → Fits w8 (get_or s i 0)) → at + k ≡ length s
    → sum_by ones (drop at s) ≡ length (members (bit_of s) (8 * at) (8 * length s - 8 * at))
ones_left s zero at bytes end =
    let past : length s ≤ at = omega arith in
    rw (drop_of_length-le s past, left_none (bit_of s) (8 * at) (8 * length s) (omega arith))
ones_left s (suc k) at bytes end =
    let place : 8 * at + 8 ≡ 8 * (at + 1) = omega arith in
    let next : length (members (bit_of s) (8 * at) (8 * length s - 8 * at)) ≡ ones (get_or s at 0) + length (members (bit_of s) (8 * (at + 1)) (8 * length s - 8 * (at + 1))) =
    rw (window-byte s at (bytes at).fits, place) at (count-window (bit_of s) (8 * length s) (8 * at) 8 (within s) (omega arith)) in
    omega (arith, sum_by-drop_more ones s at 0 (omega arith), ones_left s k (at + 1) bytes (omega arith), next)

pub sum_ones : (s : List ℕ) → ((i : ℕ) → Fits w8 (get_or s i 0)) → sum_by ones s ≡ length (numbers_of s)
unfolding numbers_of
sum_ones s bytes = rw sub-zero at (ones_left s (length s) 0 bytes (zero-add _))
