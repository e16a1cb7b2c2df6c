-- The first pass accepts exactly the packets that make a compound, laid end to end.
use Prim.Native.Nat.{ℕ, zero, suc, ◌+◌, ◌-◌, ◌≤◌, ◌<◌}
use mathlib.Core.List.{List, [], ◌∷◌, ◌++◌}
use mathlib.Core.Path.{◌≡◌, sym, ◌∙◌}
use mathlib.Core.Bool.{true}
use native.Mathlib.Omega.{arith}
use borrow.Author.Tests.{ltb-true, ltb-false}
use lib.Dec.{eqb, ltb}
use lib.ListN.{length, drop}
use lib.Seq.{drop-append_seam}
use Rattle.std.proofs.lemmas.Grind.{common_steps}
use Rattle.octets.proofs.Logic.{by_test}
use Rattle.refusal.specs.Outcome.{gave}
use Rattle.utils.specs.Header.{padding_bit_of}
use Rattle.utils.specs.Check.{padding_fits}
use Rattle.utils.proofs.Laws.{own_fits, take_fits}
use Rattle.compound.specs.Pass.{end_of, first_turn, turns_from, pass_by, first_pass}
use Rattle.compound.specs.Record.{packet_at}
use Rattle.compound.specs.Packets.{bytes_in, packets_from, packets_in, end_to_end}
use Rattle.compound.specs.Sound.{Whole, Sound, plain, padded, before}
use Rattle.compound.proofs.Laws.{Turned, turns_end, pass-start}
use Rattle.compound.proofs.Packets.{Accepted, ended, passed, accepted, packets_more, packets_none, from_start}

-- the packet at a turn that goes on says alone what it says there
module _ (bytes : List ℕ) (at : ℕ) (t : Turned bytes at (end_of bytes at)) where
  abbrev here : List ℕ
  here = bytes_in bytes (packet_at bytes at)

  whole : Whole here
  whole = let within = t.within in let two = t.two in grind (arith, common_steps)

  bit_here : padding_bit_of here ≡ padding_bit_of (drop at bytes)
  bit_here = let within = t.within in grind arith

  fits_here : padding_fits here ≡ padding_fits (drop at bytes)
  fits_here = let within = t.within in grind (arith, common_steps, take_fits)

sound_from : (most : ℕ) (bytes : List ℕ) (at : ℕ) → at < length bytes → length bytes - at ≤ most → turns_from first_turn most bytes at ≡ gave tt → Sound (packets_from most bytes at)
sound_from zero bytes at more enough passes = absurd (omega arith)
sound_from (suc most) bytes at more enough passes = go (accepted most bytes at passes) (λ further fewer goes. sound_from most bytes (end_of bytes at) further fewer goes)
  where
    go : Accepted most bytes at
        → (end_of bytes at < length bytes → length bytes - end_of bytes at ≤ most → turns_from first_turn most bytes (end_of bytes at) ≡ gave tt → Sound (packets_from most bytes (end_of bytes at)))
        → Sound (packets_from (suc most) bytes at)
    go (ended none) again = absurd (omega arith)
    go (passed m t goes) again =
        let w = whole bytes at t.turned in
        let bit = bit_here bytes at t.turned in
        let moves = t.turned.moves in
        rw (packets_more most bytes at m)
        (by_test (ltb (end_of bytes at) (length bytes))
        (λ further. before w (grind (arith, t.last)) (again (ltb-true _ _ further) (omega arith) goes))
        (λ none.
        rw (packets_none most bytes (end_of bytes at) (ltb-false _ _ none))
        (by_test (eqb (padding_bit_of (drop at bytes)) 0)
        (λ clear. plain w (grind arith))
        (λ set. padded w (grind arith) (grind (arith, fits_here bytes at t.turned, t.fits))))))

-- what is accepted is such packets
pub passes_sound : (bytes : List ℕ) → first_pass bytes ≡ gave tt → Sound (packets_in bytes)
unfolding pass_by first_pass
passes_sound [] passes = absurd (grind arith)
passes_sound (b ∷ bytes) passes = sound_from (length (b ∷ bytes)) (b ∷ bytes) 0 (omega arith) (omega arith) (from_start (b ∷ bytes) passes)

-- a turn at a whole packet, wherever it stands
module _ (pre p rest : List ℕ) (w : Whole p) where
  abbrev all : List ℕ
  all = pre ++ (p ++ rest)

  seam : drop (length pre) all ≡ p ++ rest
  seam = drop-append_seam pre (p ++ rest)

  full : 4 ≤ length p
  full = omega (arith, w.size)

  sizes : length all ≡ length pre + (length p + length rest)
  sizes = grind (arith, common_steps)

  clear-turn : padding_bit_of p ≡ 0 → first_turn all (length pre) ≡ gave (length pre + length p)
  unfolding first_turn
  clear-turn bit = let size = w.size in let two = w.two in rw seam (grind (arith, common_steps))

  fits-turn : length rest ≡ 0 → padding_bit_of p ≡ 1 → padding_fits p ≡ true → first_turn all (length pre) ≡ gave (length pre + length p)
  unfolding first_turn
  fits-turn none bit count = let size = w.size in let two = w.two in rw seam (grind (arith, common_steps, own_fits))

passes_behind : (most : ℕ) (pre : List ℕ) {ps : List (List ℕ)} → Sound ps → turns_from first_turn most (pre ++ end_to_end ps) (length pre) ≡ gave tt
unfolding end_to_end turns_from
passes_behind zero pre s = grind arith
passes_behind (suc most) pre (plain {p} w bit) = grind (arith, turns_end most, sizes pre p [] w, full pre p [] w, clear-turn pre p [] w bit)
passes_behind (suc most) pre (padded {p} w bit count) = grind (arith, turns_end most, sizes pre p [] w, full pre p [] w, fits-turn pre p [] w (omega arith) bit count)
passes_behind (suc most) pre (before {p} {ps} w bit more) =
    let rest = passes_behind most (pre ++ p) more in
    grind (arith, common_steps, rest, sizes pre p (end_to_end ps) w, full pre p (end_to_end ps) w, clear-turn pre p (end_to_end ps) w bit)

some_bytes : {ps : List (List ℕ)} → Sound ps → 0 < length (end_to_end ps)
unfolding end_to_end
some_bytes (plain {p} w bit) = let size = w.size in grind (arith, common_steps)
some_bytes (padded {p} w bit count) = let size = w.size in grind (arith, common_steps)
some_bytes (before {p} {ps} w bit more) = let size = w.size in grind (arith, common_steps)

-- and such packets, laid end to end, are accepted
pub sound_passes : {ps : List (List ℕ)} → Sound ps → first_pass (end_to_end ps) ≡ gave tt
sound_passes {ps} s = sym (pass-start (end_to_end ps) (some_bytes s)) ∙ passes_behind (length (end_to_end ps)) [] s
