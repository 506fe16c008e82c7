use Rattle.std.proofs.Common.{◌≡◌, drop}
use Rattle.std.specs.Prelude.{◌||◌}
use Rattle.indexmap.specs.IndexSet.{contains}
use Rattle.compare_base.specs.declared.rows.Place.{Place}
use Rattle.compare_base.specs.Same.{same_place}
use Rattle.compare_report.specs.Groups.{seen}
use Rattle.compare_report.specs.Kinds.{is_one}
use Rattle.compare_report.proofs.kinds.place_set.Given as goal

abbrev pub invariant-loop-pair : goal.invariant-loop-pair
invariant-loop-pair l =
    (q : Place) → is_one l.kind (seen l.group) q ≡ (contains same_place l.set q || is_one l.kind (seen (drop l.pair-index l.group)) q)
