use Rattle.std.proofs.Common.{◌≡◌, ◌+◌, map, drop}
use Rattle.net_base.specs.Steps.{each_from}
use Rattle.scenario_reader.specs.Rules.{both_located}
use Rattle.scenario_reader.specs.Views.{raw_ends}
use Rattle.json_values.proofs.ItemsRead.{with_front}
use Rattle.scenario_reader.proofs.judge.locate_pairs.Given as goal

abbrev pub invariant-loop-ends : goal.invariant-loop-ends
invariant-loop-ends l =
    with_front l.all.items (each_from (λ _. both_located l.names l.field) (l.ends-index + 1) (map raw_ends (drop l.ends-index l.raw)))
    ≡ each_from (λ _. both_located l.names l.field) 1 (map raw_ends l.raw)
