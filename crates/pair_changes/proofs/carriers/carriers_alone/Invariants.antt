use Rattle.std.proofs.Common.{◌≡◌, filter}
use Rattle.net_base.specs.Locations.{numbers_below}
use Rattle.pair_changes.specs.Carriers.{in_one_alone}
use Rattle.pair_changes.proofs.carriers.carriers_alone.Given as goal

abbrev pub invariant-loop-number : goal.invariant-loop-number
invariant-loop-number l = l.routers ≡ filter (in_one_alone l.net l.cases l.one l.other) (numbers_below l.number)
