-- A call's answer as the promises speak of it.
use Rattle.std.specs.Prelude.{Result, Ok, Err}
use Rattle.refusal.specs.Outcome.{Outcome, gave}
use Rattle.refusal.specs.Number.{no}
use Rattle.refusal.specs.declared.Refusal.{Refusal}

abbrev pub said : {A : Type 0} → Result A Refusal → Outcome A
said (Ok a) = gave a
said (Err r) = no r
