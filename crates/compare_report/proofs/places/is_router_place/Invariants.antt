use Rattle.std.proofs.Common.{◌≡◌, drop, None}
use Rattle.std.specs.List.{list_any}
use Rattle.compare_base.specs.Cases.{is_place}
use Rattle.comparison.specs.declared.values.ComparedPair.{ComparedPair}
use Rattle.compare_report.specs.Groups.{seen}
use Rattle.compare_report.proofs.places.is_router_place.Given as goal

abbrev pub invariant-loop-pair : goal.invariant-loop-pair
invariant-loop-pair l = list_any (λ (x : ComparedPair). is_place l.net x.pair.cases l.router None) (seen l.group) ≡ list_any (λ (x : ComparedPair). is_place l.net x.pair.cases l.router None) (seen (drop l.pair-index l.group))
