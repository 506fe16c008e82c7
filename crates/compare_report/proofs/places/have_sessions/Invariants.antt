use Rattle.std.proofs.Common.{◌≡◌, drop}
use Rattle.std.specs.List.{list_any}
use Rattle.compare_base.specs.Cases.{is_originated}
use Rattle.comparison.specs.declared.values.ComparedPair.{ComparedPair}
use Rattle.compare_report.specs.Groups.{seen}
use Rattle.compare_report.proofs.places.have_sessions.Given as goal

abbrev pub invariant-loop-pair : goal.invariant-loop-pair
invariant-loop-pair l = list_any (λ (x : ComparedPair). is_originated x.pair.cases) (seen l.group) ≡ list_any (λ (x : ComparedPair). is_originated x.pair.cases) (seen (drop l.pair-index l.group))
