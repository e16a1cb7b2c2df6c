-- What planning promises of its answer and of the whole buffer.
use Rattle.std.specs.Prelude.{ℕ, ◌+◌, ◌*◌, ◌≤◌, ◌≡◌, List, map, ℤ, length, Option}
use Rattle.std.proofs.lemmas.List.Edits.{sets}
use Rattle.twcc.specs.Chunks.{chunk_word, chunk_bytes}
use Rattle.twcc_plan.specs.Limits.{up_four}
use Rattle.twcc_plan.specs.Plan.{used_by}
use Rattle.twcc_plan.specs.Block.{chunks_of, taken_of}
use Rattle.twcc_plan.specs.declared.Plan.{Plan}

pub record Plans (list : List ℤ) (limit : Option ℕ) (old : List ℕ) (p : Plan) (new : List ℕ) : Type 0 where
  pub taken : p.taken ≡ taken_of limit list
  pub used : p.used ≡ used_by 8 (chunks_of limit list)
  pub bytes : p.bytes ≡ up_four p.used
  pub chunks : p.chunks ≡ length (chunks_of limit list)
  pub stored : new ≡ sets old 8 (chunk_bytes (map chunk_word (chunks_of limit list)))
  pub inside : p.taken ≤ length list
  pub few : p.chunks ≤ p.taken
  pub small : p.used ≤ 8 + 4 * p.taken
