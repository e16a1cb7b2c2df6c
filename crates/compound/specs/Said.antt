-- A step of the walk as the promises speak of it.
use Rattle.refusal.specs.Said.{said}
use Rattle.compound.specs.Walk.{Step, step}
use Rattle.compound.specs.declared.Walked.{Walked}

abbrev pub said_walked : Walked → Step
said_walked walked = step (said walked.found) walked.next
