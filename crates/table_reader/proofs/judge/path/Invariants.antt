use Rattle.std.proofs.Common.{◌≡◌, ◌+◌, drop}
use Rattle.net_base.specs.Steps.{each_from}
use Rattle.location_names.specs.Names.{texts}
use Rattle.json_values.proofs.ItemsRead.{with_front}
use Rattle.table_reader.specs.Rules.{located}
use Rattle.table_reader.proofs.judge.path.Given as goal

abbrev pub invariant-loop-name : goal.invariant-loop-name
invariant-loop-name l = with_front l.all (each_from (λ _. located l.names l.place) (l.name-index + 1) (texts (drop l.name-index l.raw))) ≡ each_from (λ _. located l.names l.place) 1 (texts l.raw)
