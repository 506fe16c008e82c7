use Rattle.std.proofs.Common.{◌≡◌, ℕ, drop, ◌==◌}
use Rattle.std.specs.Prelude.{◌||◌}
use Rattle.std.specs.List.{list_any}
use Rattle.compare_base.specs.Same.{same_place}
use Rattle.indexmap.specs.IndexSet.{contains}
use Rattle.compare_report.specs.Kinds.{router_place}
use Rattle.compare_report.proofs.carriers.add_routers.Given as goal

abbrev pub invariant-loop-router : goal.invariant-loop-router
invariant-loop-router l =
    (r : ℕ)
    → (contains same_place l.initial.set (router_place r) || list_any (λ k. k == r) l.routers)
    ≡ (contains same_place l.set (router_place r) || list_any (λ k. k == r) (drop l.router-index l.routers))
