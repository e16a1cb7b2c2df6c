-- Each turn gathers one more symbol.
use mathlib.Core.List.{map}
use lib.ListN.{drop}
use Rattle.twcc.specs.Words.{symbol_of}
use Rattle.twcc_plan.proofs.Sevens.{Gathering}
use Rattle.twcc_plan.proofs.pick.Many.gather.Given as goal

abbrev pub invariant-loop-word : goal.invariant-loop-word
invariant-loop-word l = Gathering (drop l.at (map symbol_of l.self.rest.now)) l.two l.width l.twos l.word-index
