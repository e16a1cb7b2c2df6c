-- The fixed examples of docs/RULES.md that are marked P, in its order: one table, settled by one claim about the definitions.
use Rattle.std.specs.Prelude.{ℕ, ◌≡◌, List, [], ◌∷◌, ◌++◌, map, Option, Some, None, ℤ, pos, negsuc, replicate}
use Rattle.refusal.specs.Outcome.{Outcome, gave, refuse}
use Rattle.compound.specs.Pass.{first_pass}
use Rattle.compound.specs.Record.{check_record, own_record}
use Rattle.compound.specs.Walk.{Step, step, walk_step}
use Rattle.compound.specs.declared.Packet.{Packet}
use Rattle.nack_store.specs.Bits.{added_all, empty_store}
use Rattle.nack.specs.Entries.{nack_bytes, read_nack}
use Rattle.twcc.specs.Words.{not_received, truncated, reserved}
use Rattle.twcc.specs.Block.{base_of, listed}
use Rattle.arrival.specs.Arrivals.{ticks_of, at, arrivals}
use Rattle.arrival.specs.Overlay.{millisecond_bits}
use Rattle.kinds.specs.declared.Tick.{Tick}
use Rattle.arrival.specs.declared.Arrival.{Arrival}
use Rattle.arrival.specs.declared.Arrival.TheVariants.{Missing, Unreadable, Unplaced}
use Rattle.twcc_plan.specs.Block.{taken_of, block_bytes}

-- a question, and behind it its answer
pub data Row : Type 0 where
  -- a limit and a list, for base 1, time 0 and feedback count 0; the entries taken and the block's bytes
  write_block : Option ℕ → List ℤ → ℕ → List ℕ → Row
  -- a block's bytes; its base and its words
  read_block : List ℕ → ℕ → List ℤ → Row
  -- a reference time and a block's words; their arrivals
  times : ℕ → List ℤ → List (Arrival Tick) → Row
  -- a tick; the bits of its milliseconds
  milliseconds : ℤ → ℕ → Row
  -- the numbers added to an empty store of 8,192 bytes; the bytes that the store is written as
  write_nack : List ℕ → List ℕ → Row
  -- bytes; the numbers that they name
  read_numbers : List ℕ → List ℕ → Row
  -- bytes; the first pass's verdict
  pass : List ℕ → Outcome Unit → Row
  -- bytes and an offset; what the walk's step meets, and where it goes on
  walk : List ℕ → ℕ → Step → Row
  -- one packet's bytes; its record
  alone : List ℕ → Outcome Packet → Row
  -- one packet's bytes and a record; whether it is of them
  sums : List ℕ → Packet → Outcome Unit → Row

-- a row with its question kept and its answer as the definitions give it
unfoldable pub settled : Row → Row
settled (write_block limit list taken block) = write_block limit list (taken_of limit list) (block_bytes 1 0 0 limit list)
settled (read_block block base words) = read_block block (base_of block) (listed block)
settled (times time words answer) = times time words (arrivals (ticks_of time) words)
settled (milliseconds tick bits) = milliseconds tick (millisecond_bits tick)
settled (write_nack numbers bytes) = write_nack numbers (nack_bytes (added_all empty_store numbers))
settled (read_numbers bytes numbers) = read_numbers bytes (read_nack bytes)
settled (pass bytes verdict) = pass bytes (first_pass bytes)
settled (walk bytes at met) = walk bytes at (walk_step bytes at)
settled (alone bytes found) = alone bytes (own_record bytes)
settled (sums bytes p verdict) = sums bytes p (check_record bytes p)

unfoldable pub table : List Row
table =
    write_block None [] 0 (0x00 ∷ 0x01 ∷ 0x00 ∷ 0x00 ∷ 0x00 ∷ 0x00 ∷ 0x00 ∷ 0x00 ∷ [])
    ∷ write_block None (replicate 7 not_received) 7
    (0x00 ∷ 0x01 ∷ 0x00 ∷ 0x07 ∷ 0x00 ∷ 0x00 ∷ 0x00 ∷ 0x00 ∷ 0xC0 ∷ 0x00 ∷ 0x00 ∷ 0x00 ∷ [])
    ∷ write_block None (replicate 8 not_received) 8
    (0x00 ∷ 0x01 ∷ 0x00 ∷ 0x08 ∷ 0x00 ∷ 0x00 ∷ 0x00 ∷ 0x00 ∷ 0x00 ∷ 0x08 ∷ 0x00 ∷ 0x00 ∷ [])
    ∷ write_block None (replicate 8 not_received ++ pos 4 ∷ []) 9
    (0x00 ∷ 0x01 ∷ 0x00 ∷ 0x09 ∷ 0x00 ∷ 0x00 ∷ 0x00 ∷ 0x00 ∷ 0x80 ∷ 0x20 ∷ 0x04 ∷ 0x00 ∷ [])
    ∷ write_block None (replicate 8 not_received ++ pos 256 ∷ []) 9
    (0x00 ∷ 0x01 ∷ 0x00 ∷ 0x09 ∷ 0x00 ∷ 0x00 ∷ 0x00 ∷ 0x00 ∷ 0x00 ∷ 0x08 ∷ 0xE0 ∷ 0x00 ∷ 0x01 ∷ 0x00 ∷ 0x00 ∷ 0x00 ∷ [])
    ∷ write_block None (pos 255 ∷ []) 1 (0x00 ∷ 0x01 ∷ 0x00 ∷ 0x01 ∷ 0x00 ∷ 0x00 ∷ 0x00 ∷ 0x00 ∷ 0xD0 ∷ 0x00 ∷ 0xFF ∷ 0x00 ∷ [])
    ∷ write_block (Some 12) (replicate 9 (pos 0)) 1
    (0x00 ∷ 0x01 ∷ 0x00 ∷ 0x01 ∷ 0x00 ∷ 0x00 ∷ 0x00 ∷ 0x00 ∷ 0x20 ∷ 0x01 ∷ 0x00 ∷ 0x00 ∷ [])
    ∷ write_block (Some 8) (replicate 9 (pos 0)) 0 (0x00 ∷ 0x01 ∷ 0x00 ∷ 0x00 ∷ 0x00 ∷ 0x00 ∷ 0x00 ∷ 0x00 ∷ [])
    ∷ write_block (Some 23) (replicate 7 (pos 256)) 0 (0x00 ∷ 0x01 ∷ 0x00 ∷ 0x00 ∷ 0x00 ∷ 0x00 ∷ 0x00 ∷ 0x00 ∷ [])
    ∷ write_block (Some 24) (replicate 7 (pos 256)) 7
    (0x00 ∷ 0x01 ∷ 0x00 ∷ 0x07 ∷ 0x00 ∷ 0x00 ∷ 0x00 ∷ 0x00 ∷ 0xEA ∷ 0xAA
    ∷ 0x01 ∷ 0x00 ∷ 0x01 ∷ 0x00 ∷ 0x01 ∷ 0x00 ∷ 0x01 ∷ 0x00 ∷ 0x01 ∷ 0x00 ∷ 0x01 ∷ 0x00 ∷ 0x01 ∷ 0x00 ∷ [])
    ∷ read_block (0x00 ∷ 0x05 ∷ 0x00 ∷ 0x02 ∷ 0x00 ∷ 0x00 ∷ 0x00 ∷ 0x00 ∷ 0xE4 ∷ 0x00 ∷ 0x7F ∷ []) 5 (truncated ∷ truncated ∷ [])
    ∷ read_block (0x00 ∷ 0x05 ∷ 0x00 ∷ 0x02 ∷ 0x00 ∷ 0x00 ∷ 0x00 ∷ 0x00 ∷ 0xF4 ∷ 0x00 ∷ 0x09 ∷ []) 5 (reserved ∷ pos 9 ∷ [])
    ∷ times 1 (pos 4 ∷ not_received ∷ negsuc 0 ∷ pos 10 ∷ []) (at (pos 260) ∷ Missing ∷ at (pos 259) ∷ at (pos 269) ∷ [])
    ∷ times 0 (negsuc 1 ∷ negsuc 2 ∷ pos 5 ∷ []) (at (negsuc 1) ∷ at (negsuc 4) ∷ at (pos 0) ∷ [])
    ∷ times 16777215 (pos 32767 ∷ negsuc 32767 ∷ []) (at (pos 4294999807) ∷ at (pos 4294967039) ∷ [])
    ∷ times 1 (pos 4 ∷ truncated ∷ pos 4 ∷ not_received ∷ reserved ∷ []) (at (pos 260) ∷ Unreadable ∷ Unplaced ∷ Missing ∷ Unreadable ∷ [])
    ∷ times 1 (pos 32771 ∷ pos 4 ∷ negsuc 32768 ∷ []) (Unreadable ∷ Unplaced ∷ Unreadable ∷ [])
    ∷ milliseconds (pos 0) 0x0000000000000000
    ∷ milliseconds (pos 1) 0x3FD0000000000000
    ∷ milliseconds (pos 6) 0x3FF8000000000000
    ∷ milliseconds (negsuc 3) 0xBFF0000000000000
    ∷ milliseconds (pos 9007199254740991) 0x431FFFFFFFFFFFFF
    ∷ write_nack (0 ∷ 16 ∷ []) (0x00 ∷ 0x00 ∷ 0x80 ∷ 0x00 ∷ [])
    ∷ write_nack (0 ∷ 17 ∷ []) (0x00 ∷ 0x00 ∷ 0x00 ∷ 0x00 ∷ 0x00 ∷ 0x11 ∷ 0x00 ∷ 0x00 ∷ [])
    ∷ read_numbers (0xFF ∷ 0xFF ∷ 0x00 ∷ 0x01 ∷ []) (65535 ∷ 0 ∷ [])
    ∷ pass (0x80 ∷ 0xCB ∷ 0x00 ∷ 0x00 ∷ 0x40 ∷ 0xCB ∷ 0x00 ∷ 0x00 ∷ []) (refuse 2 (1 ∷ []))
    ∷ walk (0x80 ∷ 0xCB ∷ 0x00 ∷ 0x00 ∷ 0x40 ∷ 0xCB ∷ 0x00 ∷ 0x00 ∷ []) 0 (step (gave (Some (record { start = 0; length = 4; body = 0; padding = 0 }))) 4)
    ∷ walk (0x80 ∷ 0xCB ∷ 0x00 ∷ 0x00 ∷ 0x40 ∷ 0xCB ∷ 0x00 ∷ 0x00 ∷ []) 4 (step (refuse 2 (1 ∷ [])) 8)
    ∷ pass (0xA0 ∷ 0xCB ∷ 0x00 ∷ 0x00 ∷ 0x40 ∷ 0xCB ∷ 0x00 ∷ 0x00 ∷ []) (refuse 5 [])
    ∷ pass (0xA0 ∷ 0xCB ∷ 0x00 ∷ 0x00 ∷ []) (refuse 5 [])
    ∷ pass (0xA0 ∷ 0xCB ∷ 0x00 ∷ 0x01 ∷ 0x00 ∷ 0x00 ∷ 0x00 ∷ 0x02 ∷ []) (refuse 5 [])
    ∷ pass (0xA0 ∷ 0xCB ∷ 0x00 ∷ 0x01 ∷ 0x00 ∷ 0x00 ∷ 0x00 ∷ 0x04 ∷ []) (gave tt)
    ∷ pass (0xA0 ∷ 0xCB ∷ 0x00 ∷ 0x01 ∷ 0x00 ∷ 0x00 ∷ 0x00 ∷ 0x08 ∷ []) (refuse 5 [])
    ∷ walk (0xA0 ∷ 0xCB ∷ 0x00 ∷ 0x01 ∷ 0x00 ∷ 0x00 ∷ 0x00 ∷ 0x02 ∷ []) 0 (step (refuse 5 []) 8)
    ∷ walk (0xA0 ∷ 0xCB ∷ 0x00 ∷ 0x01 ∷ 0x00 ∷ 0x00 ∷ 0x00 ∷ 0x04 ∷ []) 0 (step (gave (Some (record { start = 0; length = 8; body = 0; padding = 4 }))) 8)
    ∷ walk (0xA0 ∷ 0xCB ∷ 0x00 ∷ 0x01 ∷ 0x00 ∷ 0x00 ∷ 0x00 ∷ 0x08 ∷ []) 0 (step (refuse 5 []) 8)
    ∷ walk (0x60 ∷ 0xCB ∷ 0x00 ∷ 0x01 ∷ 0x00 ∷ 0x00 ∷ 0x00 ∷ 0x02 ∷ []) 0 (step (refuse 2 (1 ∷ [])) 8)
    ∷ alone (0xA0 ∷ 0xCB ∷ 0x00 ∷ 0x01 ∷ 0x00 ∷ 0x00 ∷ 0x00 ∷ 0x02 ∷ []) (gave (record { start = 0; length = 8; body = 2; padding = 2 }))
    ∷ alone (0xA0 ∷ 0xCB ∷ 0x00 ∷ 0x01 ∷ 0x00 ∷ 0x00 ∷ 0x00 ∷ 0x05 ∷ []) (refuse 5 [])
    ∷ sums (0x80 ∷ 0xCB ∷ 0x00 ∷ 0x00 ∷ []) (record { start = 0; length = 4; body = 0; padding = 0 }) (gave tt)
    ∷ sums (0x80 ∷ 0xCB ∷ 0x00 ∷ 0x00 ∷ []) (record { start = 0; length = 4; body = 0; padding = 1 }) (refuse 5 [])
    ∷ []

-- the claim
abbrev pub Settled : Type 0
Settled = map settled table ≡ table
