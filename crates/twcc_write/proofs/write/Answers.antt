-- A block that passes the tests is written.
use Rattle.twcc_write.proofs.Answers.{given}
use Rattle.twcc_write.proofs.write.Goals as goal

pub returns : goal.returns
returns c = given c.in_ok-check.ensures c.put.ensures
