use Rattle.std.proofs.Common.{◌≡◌, drop}
use Rattle.std.specs.Prelude.{◌||◌}
use Rattle.std.specs.List.{list_any}
use Rattle.indexmap.specs.IndexSet.{contains}
use Rattle.compare_base.specs.declared.rows.Place.{Place}
use Rattle.compare_base.specs.Same.{same_place}
use Rattle.compare_report.proofs.kinds.add_places.Given as goal

abbrev pub invariant-loop-place : goal.invariant-loop-place
invariant-loop-place l =
    (q : Place)
    → (contains same_place l.initial.set q || list_any (λ p. same_place p q) l.places)
    ≡ (contains same_place l.set q || list_any (λ p. same_place p q) (drop l.place-index l.places))
