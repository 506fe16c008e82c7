use Rattle.std.proofs.Common.{◌≡◌, drop}
use Rattle.std.specs.Prelude.{◌||◌}
use Rattle.std.specs.List.{list_any}
use Rattle.indexmap.specs.IndexSet.{contains}
use Rattle.compare_base.specs.declared.rows.Place.{Place}
use Rattle.compare_base.specs.Same.{same_place}
use Rattle.compare_report.specs.Kinds.{has_place}
use Rattle.compare_report.proofs.kinds.add_kinds.Given as goal

abbrev pub invariant-loop-other : goal.invariant-loop-other
invariant-loop-other l =
    (q : Place)
    → (contains same_place l.initial.set q || list_any (has_place l.kind q) l.kinds)
    ≡ (contains same_place l.set q || list_any (has_place l.kind q) (drop l.other-index l.kinds))
