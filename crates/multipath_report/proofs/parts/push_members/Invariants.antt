use Rattle.std.proofs.Common.{◌≡◌, ◌++◌, filter}
use Rattle.std.specs.List.{flat_map}
use Rattle.net_base.specs.Locations.{numbers_below}
use Rattle.location_names.specs.Neighbours.{is_held}
use Rattle.outcome_report.specs.Lines.{next_name}
use Rattle.multipath_report.proofs.parts.push_members.Given as goal

abbrev pub invariant-loop-place : goal.invariant-loop-place
invariant-loop-place l = l.text.items ≡ l.initial.text.items ++ flat_map (next_name l.net) (filter (is_held l.sets l.at) (numbers_below l.place))
