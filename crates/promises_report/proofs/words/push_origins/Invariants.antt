use Rattle.std.proofs.Common.{◌≡◌, ◌++◌}
use Rattle.std.specs.List.{flat_map}
use Rattle.net_base.specs.Locations.{numbers_below}
use Rattle.promises_report.specs.Groups.{comma_origin}
use Rattle.promises_report.proofs.words.push_origins.Given as goal

abbrev pub invariant-loop-place : goal.invariant-loop-place
invariant-loop-place l = l.text.items ≡ l.initial.text.items ++ flat_map (comma_origin l.net l.case) (numbers_below l.place)
