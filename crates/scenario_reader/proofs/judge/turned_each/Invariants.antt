use Rattle.std.proofs.Common.{◌≡◌, map, take}
use Rattle.scenario_reader.specs.Rules.{turned}
use Rattle.scenario_reader.proofs.judge.turned_each.Given as goal

abbrev pub invariant-loop-pair : goal.invariant-loop-pair
invariant-loop-pair l = l.all ≡ map (turned l.net) (take l.pair-index l.pairs)
