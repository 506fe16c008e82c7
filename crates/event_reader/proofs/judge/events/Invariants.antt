use Rattle.std.proofs.Common.{◌≡◌, ◌+◌, length, map, drop}
use Rattle.net_base.specs.Steps.{each_from}
use Rattle.json_values.proofs.ItemsRead.{with_front}
use Rattle.event_reader.specs.Rules.{placed}
use Rattle.event_reader.specs.Views.{raw_event}
use Rattle.event_reader.proofs.judge.events.Given as goal

abbrev pub invariant-loop-said : goal.invariant-loop-said
invariant-loop-said l = record {
  count : length l.all.items ≡ l.said-index;
  read : with_front l.all.items (each_from (placed l.names) (l.said-index + 1) (map raw_event (drop l.said-index l.raw))) ≡ each_from (placed l.names) 1 (map raw_event l.raw);
}
