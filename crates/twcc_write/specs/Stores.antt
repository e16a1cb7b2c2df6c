-- What the stores of deltas and of a whole block ask and promise.
use Rattle.std.specs.Prelude.{ℕ, ◌+◌, ◌*◌, ◌/◌, ◌≤◌, ◌<◌, ◌≡◌, List, map, ℤ, length, take, replicate, Option, None}
use Rattle.std.proofs.lemmas.List.Edits.{sets}
use Rattle.twcc.specs.Time.{latest}
use Rattle.twcc.specs.Words.{Valid, AllValid, symbol_of, deltas}
use Rattle.octets.specs.Bounds.{Below}
use Rattle.twcc.specs.Chunks.{runs_end, ones_end, run_weight, Chunk, chunk_word, chunk_bytes}
use Rattle.twcc_plan.specs.Plan.{taken_in}
use Rattle.twcc_plan.specs.Block.{most_entries, taken_of, size_of, block_bytes}
use Rattle.twcc_plan.specs.Limits.{Within}
use Rattle.twcc_plan.specs.Planned.{Planned}
use Rattle.twcc_write.specs.declared.Used.{Used}

-- ---- deltas

-- these bytes stand at the front of the memory, n of them; what stands behind them is left open
pub record Begins (bytes : List ℕ) (n : ℕ) (new : List ℕ) : Type 0 where
  pub size : n ≡ length bytes
  pub front : take n new ≡ bytes

-- these bytes, n of them, stand there, and the memory behind them is as it was
pub record Stored (bytes : List ℕ) (n : ℕ) (old new : List ℕ) : Type 0 where
  pub size : n ≡ length bytes
  pub memory : new ≡ sets old 0 bytes

-- a word with at most so many delta bytes, and room for as many
pub record WordStorable (word : ℤ) (most : ℕ) (out : List ℕ) : Type 0 where
  pub valid : Valid word
  pub light : symbol_of word ≤ most
  pub room : most ≤ length out

-- words that can be written, and room for their deltas
pub record Storable (words : List ℤ) (out : List ℕ) : Type 0 where
  pub valid : AllValid words
  pub room : length (deltas words) ≤ length out

-- they are those of a chunk: of a run, all have its symbol; of a one-bit vector, none is large
pub record ChunkStorable (chunk : ℕ) (words : List ℤ) (out : List ℕ) : Type 0 where
  pub storable : Storable words out
  pub run : chunk < runs_end → (chunk / run_weight ≤ 2) × (map symbol_of words ≡ replicate (length words) (chunk / run_weight))
  pub ones : runs_end ≤ chunk → chunk < ones_end → Below 2 (map symbol_of words)

-- the chunks of a plan that takes the whole list stand at the front, and there is just the room for its deltas
pub record Carriable (list : List ℤ) (chunks : ℕ) (body : List ℕ) : Type 0 where
  pub valid : AllValid list
  pub plan : List Chunk
  pub planned : Planned None 8 plan (map symbol_of list)
  pub takes : taken_in plan ≡ length list
  pub count : chunks ≡ length plan
  pub stands : take (2 * chunks) body ≡ chunk_bytes (map chunk_word plan)
  pub room : length body ≡ 2 * chunks + length (deltas list)

-- ---- a block

-- a list and a limit that the tests let through
pub record Plannable (list : List ℤ) (limit : Option ℕ) : Type 0 where
  pub short : length list ≤ most_entries
  pub eight : Within limit 8

pub record BlockStorable (time : ℕ) (list : List ℤ) (limit : Option ℕ) (present : ℕ) : Type 0 where
  pub fits : time ≤ latest
  pub plannable : Plannable list limit
  pub valid : AllValid list
  pub room : size_of limit list ≤ present

pub record BlockStored (base time feedback : ℕ) (list : List ℤ) (limit : Option ℕ) (old : List ℕ) (used : Used) (new : List ℕ) : Type 0 where
  pub size : used.bytes ≡ size_of limit list
  pub taken : used.taken ≡ taken_of limit list
  pub block : new ≡ sets old 0 (block_bytes base time feedback limit list)
