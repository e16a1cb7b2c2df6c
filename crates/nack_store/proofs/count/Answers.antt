-- A byte has eight bits at most, so that the sum fits; it is that of every byte's ones.
use Rattle.std.proofs.Common.{◌≡◌, length, rules, tests, arith}
use Rattle.std.specs.Int.Count.{ones}
use Rattle.std.specs.List.{sum_by}
use Rattle.std.proofs.lemmas.Iterator.{YieldsList-from_slice}
use Rattle.std.proofs.lemmas.Iterator.Adapters.{fits_from_length, at_most_from_yields_List}
use borrow.Author.Tests.{eq-eqb}
use Rattle.nack_store.specs.Bits.{store_size}
use Rattle.nack_store.proofs.Tallying.{sum_ones}
use Rattle.nack_store.proofs.count.Goals as goal

pub sum-requires-clause-fits : goal.sum-requires-clause-fits
sum-requires-clause-fits c = fits_from_length _ _ 8192 _ (at_most_from_yields_List (YieldsList-from_slice c.in_ok-store.store.now (cc)) (omega arith)) c.map.ensures.closure (omega arith) (λ x r q k. search (rules, tests))

pub returns : goal.returns
returns c =
    let s = c.args.store.now in
    let counted : c.sum.result ≡ sum_by ones s = search rules in
    rw (counted, sum_ones s c.type_inv.store, eq-eqb (length s) store_size c.in_ok-store.ensures.0)
