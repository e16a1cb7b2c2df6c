-- Four parts, one behind the other.
use mathlib.Core.Path.{ap, ◌∙◌}
use native.Mathlib.Omega.{arith}
use lib.ListN.{take, drop}
use Rattle.twcc_write.proofs.Joining.{header_stored}
use Rattle.twcc_write.proofs.Block.put_header.Goals as goal

pub returns : goal.returns
returns c =
    let block = c.args.self.now in
    header_stored c.args.out.now _ _ _ block.base.0 c.args.count block.time.0 block.feedback c.requires.0 (omega arith) c.requires.1 c.requires.2
    (c.copy_from_slice.ensures.after ∙ c.to_be_bytes.ensures) (c.copy_from_slice-2.ensures.after ∙ c.to_be_bytes-2.ensures) (c.copy_from_slice-3.ensures.after ∙ ap (λ (l : _). take 3 (drop 1 l)) c.to_be_bytes-3.ensures)
