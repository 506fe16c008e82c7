use Rattle.std.proofs.Common.{◌≡◌, ◌++◌}
use Rattle.std.specs.List.{flat_map}
use Rattle.bit_rows.specs.Tables.{has_at}
use Rattle.net_base.specs.Locations.{numbers_below}
use Rattle.promises_report.specs.Apart.{apart_pair}
use Rattle.promises_report.proofs.apart.push_with.Given as goal

abbrev pub invariant-loop-b : goal.invariant-loop-b
invariant-loop-b l = l.pairs.items ≡ l.initial.pairs.items ++ flat_map (apart_pair (has_at l.met) l.number l.a) (numbers_below l.b)
