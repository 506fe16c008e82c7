use Rattle.std.proofs.Common.{◌≡◌, take}
use Rattle.scenario_reader.specs.Rules.{set_of_all}
use Rattle.scenario_reader.proofs.judge.set_of.Given as goal

abbrev pub invariant-loop-at : goal.invariant-loop-at
invariant-loop-at l = l.set ≡ set_of_all (take l.at-index l.locations)
