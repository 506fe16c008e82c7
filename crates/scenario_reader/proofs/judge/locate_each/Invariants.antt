use Rattle.std.proofs.Common.{◌≡◌, ◌+◌, ◌<◌, drop}
use Rattle.std.specs.Prelude.{All}
use Rattle.net_base.specs.Steps.{each_from}
use Rattle.net_base.specs.declared.limits.TheConstants.{LOCATIONS}
use Rattle.scenario_reader.specs.Rules.{located}
use Rattle.location_names.specs.Names.{texts}
use Rattle.json_values.proofs.ItemsRead.{with_front}
use Rattle.scenario_reader.proofs.judge.locate_each.Given as goal

abbrev pub invariant-loop-name : goal.invariant-loop-name
invariant-loop-name l = record {
  within : All (λ at. at < LOCATIONS) l.all.items;
  read : with_front l.all.items (each_from (λ _. located l.names l.field) (l.name-index + 1) (texts (drop l.name-index l.raw))) ≡ each_from (λ _. located l.names l.field) 1 (texts l.raw);
}
