use Rattle.std.proofs.Common.{◌≡◌, ◌++◌}
use Rattle.std.specs.List.{flat_map}
use Rattle.bit_rows.specs.Tables.{has_at}
use Rattle.net_base.specs.Locations.{numbers_below}
use Rattle.promises_report.specs.Apart.{pairs_with}
use Rattle.promises_report.proofs.apart.push_pairs.Given as goal

abbrev pub invariant-loop-a : goal.invariant-loop-a
invariant-loop-a l = l.pairs.items ≡ l.initial.pairs.items ++ flat_map (pairs_with (has_at l.met) l.number l.ranks) (numbers_below l.a)
