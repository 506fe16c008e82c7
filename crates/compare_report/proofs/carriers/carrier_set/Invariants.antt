use Rattle.std.proofs.Common.{◌≡◌, ℕ, drop}
use Rattle.std.specs.Prelude.{◌||◌}
use Rattle.compare_base.specs.Same.{same_place}
use Rattle.indexmap.specs.IndexSet.{contains}
use Rattle.compare_report.specs.Groups.{seen}
use Rattle.compare_report.specs.Kinds.{is_carrier, router_place}
use Rattle.compare_report.proofs.carriers.carrier_set.Given as goal

abbrev pub invariant-loop-pair : goal.invariant-loop-pair
invariant-loop-pair l =
    (r : ℕ)
    → is_carrier l.which (seen l.group) r
    ≡ (contains same_place l.set (router_place r) || is_carrier l.which (seen (drop l.pair-index l.group)) r)
