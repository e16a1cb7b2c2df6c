use Prim.Native.Nat.{◌/◌, ◌^◌}
use mathlib.Core.Path.{refl}
use native.Mathlib.Omega.{arith}
use Rattle.twcc.proofs.Stands.{length-unpack}
use Rattle.twcc_read.proofs.Filling.{listing_start, listing_over, stored}
use Rattle.twcc_read.proofs.Symbols.{listing_symbol}
use Rattle.twcc_read.proofs.fill.fill_vector.Goals as goal

pub loop-j-init : goal.loop-j-init
loop-j-init g c = record { listing = listing_start _ _ _ _ refl; few = omega arith }

pub loop-j-preserved : goal.loop-j-preserved
loop-j-preserved g c =
    listing_symbol g.row.BITS c.args.chunk c.loop-j.invariant c.requires.bits.0 c.requires.bits.1 c.requires.there c.loop-j-test.true (omega arith)
    (stored (record { sfits = c.word.type_inv }) c.word.ensures) c.eaten-p.ensures.0

pub returns : goal.returns
returns g c =
    listing_over c.loop-j.invariant.listing (omega (arith, length-unpack (2 ^ g.row.BITS) (14 / g.row.BITS) c.args.chunk)) (omega arith)
