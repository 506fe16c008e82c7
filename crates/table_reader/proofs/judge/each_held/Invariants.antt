use Rattle.std.proofs.Common.{◌≡◌, ◌+◌, map, drop}
use Rattle.net_base.specs.Steps.{each_from}
use Rattle.json_values.proofs.ItemsRead.{with_front}
use Rattle.table_reader.specs.Rules.{held_by}
use Rattle.table_reader.specs.Views.{raw_entry}
use Rattle.table_reader.proofs.judge.each_held.Given as goal

abbrev pub invariant-loop-i : goal.invariant-loop-i
invariant-loop-i l = with_front l.all (each_from (held_by l.names) (l.i + 1) (map raw_entry (drop l.i l.raw))) ≡ each_from (held_by l.names) 1 (map raw_entry l.raw)
