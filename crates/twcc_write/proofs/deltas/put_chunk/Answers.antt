-- A run's chunk says the symbol of all its words.
use Prim.Native.Nat.{◌/◌}
use mathlib.Core.Path.{◌≡◌, ap, ◌∙◌}
use native.Mathlib.Omega.{arith}
use lib.ListN.{length, replicate}
use Rattle.twcc.specs.Chunks.{run_weight}
use Rattle.twcc.proofs.Written.{symbols_lt}
use Rattle.twcc_write.proofs.Beginning.{stored_begins, lost_begins}
use Rattle.twcc_write.proofs.deltas.put_chunk.Goals as goal

pub returns-in-0-to-8191 : goal.returns-in-0-to-8191
returns-in-0-to-8191 c =
    let words = c.args.words.now in
    let lost : c.args.chunk / run_weight ≡ 0 = omega arith in
    lost_begins words _ ((c.requires.run (omega arith)).1 ∙ ap (replicate (length words)) lost)

pub returns-in-0-to-16383 : goal.returns-in-0-to-16383
returns-in-0-to-16383 c = stored_begins c.requires.storable.room c.put_run.ensures

pub returns-in-0-to-32767 : goal.returns-in-0-to-32767
returns-in-0-to-32767 c = stored_begins c.requires.storable.room c.put_run-in-0-to-32767.ensures

pub put_vector-requires-in_default : goal.put_vector-requires-in_default
put_vector-requires-in_default c = (omega arith, omega arith, c.requires.storable, symbols_lt c.args.words.now)
