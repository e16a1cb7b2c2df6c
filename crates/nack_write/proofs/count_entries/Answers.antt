-- Each number that comes opens an entry.
use mathlib.Core.Path.{refl, ap, ◌∙◌}
use lib.ListN.{length}
use Rattle.nack_write.proofs.Giving.{left_all, openers_counted}
use Rattle.nack_write.proofs.count_entries.Goals as goal

pub returns : goal.returns
returns c = openers_counted _ _ c.count.ensures.ran ∙ ap length (left_all _ refl)
