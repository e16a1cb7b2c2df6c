-- What the exported calls promise that change lent memory: the answer, and the whole memory.
use Rattle.std.specs.Prelude.{ℕ, List, ◌≡◌, Bool, true, false, Option, Some, None, ℤ, length}
use Rattle.std.proofs.lemmas.List.Edits.{sets}
use Rattle.refusal.specs.Outcome.{Outcome}
use Rattle.lent.specs.Fills.{held}
use Rattle.unknown.specs.Packet.{packet_bytes}
use Rattle.unknown.specs.Write.{written}
use Rattle.nack_store.specs.Bits.{added}
use Rattle.nack_store.specs.Promise.{of_store, sized}
use Rattle.nack.specs.Entries.{read_nack, nack_bytes}
use Rattle.nack.specs.Promise.{into_room}
use Rattle.twcc.specs.Block.{listed}
use Rattle.twcc_read.specs.Promise.{read_answer}
use Rattle.twcc_plan.specs.Block.{block_bytes}
use Rattle.twcc_write.specs.Promise.{written as written_block}
use Rattle.exports.specs.Says.{said_of, nothing, number, listed_block, block}
use Rattle.exports.specs.declared.Said.{Said}

-- an outcome as the struct says it, and the memory after it: `new` after an answer, what it held after a refusal
pub record Wrote {A B : Type 0} (say : Outcome A → Outcome (List ℤ)) (outcome : Outcome A) (new old : List B) (answer : Said) (memory : List B) : Type 0 where
  pub said : answer ≡ said_of (say outcome)
  pub holds : memory ≡ held outcome new old

abbrev pub WroteUnknown : ℕ → ℕ → List ℕ → ℕ → List ℕ → Said → List ℕ → Type 0
WroteUnknown count type body padding old =
    Wrote number (written count (length body) padding (length old)) (sets old 0 (packet_bytes count type body padding)) old

abbrev pub AddedNack : List ℕ → ℕ → Said → List ℕ → Type 0
AddedNack store n = Wrote nothing (sized store) (added store n) store

abbrev pub ReadNack : List ℕ → List ℕ → Said → List ℕ → Type 0
ReadNack bytes list = Wrote number (into_room (length (read_nack bytes)) (length list)) (sets list 0 (read_nack bytes)) list

abbrev pub WroteNack : List ℕ → List ℕ → Said → List ℕ → Type 0
WroteNack store out = Wrote number (of_store store (into_room (length (nack_bytes store)) (length out))) (sets out 0 (nack_bytes store)) out

abbrev pub ReadTwcc : List ℕ → List ℤ → Said → List ℤ → Type 0
ReadTwcc block list = Wrote listed_block (read_answer block (length list)) (sets list 0 (listed block)) list

-- a limit that is looked at only where it is given
abbrev pub given : Bool → ℕ → Option ℕ
given true limit = Some limit
given false limit = None

abbrev pub WroteTwcc : ℕ → ℕ → ℕ → List ℤ → Option ℕ → List ℕ → Said → List ℕ → Type 0
WroteTwcc base time feedback list limit old =
    Wrote block (written_block time list limit (length old)) (sets old 0 (block_bytes base time feedback limit list)) old
