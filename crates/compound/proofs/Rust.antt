-- What ours accepts the first pass of rtcp-types accepts: whatever it refuses, ours refuses, at times with another number.
use Prim.Native.Nat.{ℕ, zero, suc}
use mathlib.Core.List.{List}
use mathlib.Core.Path.{◌≡◌}
use native.Mathlib.Omega.{arith}
use lib.IntN.{ℤ}
use lib.ListN.{length}
use Rattle.refusal.specs.Outcome.{gave, refused}
use Rattle.utils.specs.Header.{version_of}
use Rattle.compound.specs.Pass.{end_of, first_turn, turns_from, pass_by, first_pass}
use Rattle.compound.specs.Rust.{rust_turn, rust_pass}
use Rattle.compound.proofs.Packets.{from_start, first-version}

-- where the first version is 2, each turn of theirs goes on wherever ours does
turns_too : (turns : ℕ) (bytes : List ℕ) (at : ℕ) → version_of bytes ≡ 2 → turns_from first_turn turns bytes at ≡ gave tt → turns_from rust_turn turns bytes at ≡ gave tt
unfolding turns_from first_turn rust_turn
turns_too zero bytes at two passes = grind arith
turns_too (suc turns) bytes at two passes = grind (arith, turns_too turns bytes (end_of bytes at))

pub accepts_too : (bytes : List ℕ) → first_pass bytes ≡ gave tt → rust_pass bytes ≡ gave tt
unfolding pass_by first_pass rust_pass
accepts_too bytes passes = grind (arith, turns_too (length bytes) bytes 0, first-version bytes passes, from_start bytes passes)

pub refuses_too : (bytes : List ℕ) (number : ℕ) (values : List ℤ) → rust_pass bytes ≡ refused number values → first_pass bytes ≡ gave tt → ⊥
refuses_too bytes number values refuses passes = let accepts = accepts_too bytes passes in grind arith
