use Rattle.std.proofs.Common.{◌≡◌, ◌++◌, take}
use Rattle.std.specs.List.{flat_map}
use Rattle.outcome_report.specs.Lines.{next_name}
use Rattle.waiting_report.proofs.lines.push_names.Given as goal

abbrev pub invariant-loop-at : goal.invariant-loop-at
invariant-loop-at l = l.text.items ≡ l.initial.text.items ++ flat_map (next_name l.net) (take l.at-index l.path)
