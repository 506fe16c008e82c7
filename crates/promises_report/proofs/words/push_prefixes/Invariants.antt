use Rattle.std.proofs.Common.{◌≡◌, ◌++◌, map, take}
use Rattle.std.specs.List.{flat_map}
use Rattle.net_base.specs.Prefixes.{only}
use Rattle.promises_report.specs.Groups.{comma_pattern}
use Rattle.promises_report.proofs.words.push_prefixes.Given as goal

abbrev pub invariant-loop-prefix : goal.invariant-loop-prefix
invariant-loop-prefix l = l.text.items ≡ l.initial.text.items ++ flat_map comma_pattern (map only (take l.prefix-index l.prefixes))
