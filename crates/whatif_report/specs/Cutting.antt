-- Cuts of a network, and what goes over them.
use Rattle.std.specs.Prelude.{◌≡◌, ℕ, ◌<◌, Bool, false, List, length, Option, Some, None, if◌then◌else◌}
use Rattle.list_law.specs.Members.{IsIn}
use Rattle.net_base.specs.Network.{PlainNet}
use Rattle.config_base.specs.declared.route.Route.{Route}
use Rattle.outcome_base.specs.Outcomes.{Failures, Outcome, is_dead, is_dead_link, is_silent, route_at}
use Rattle.scenarios.specs.Scenarios.{failures_of}
use Rattle.scenarios.specs.declared.scenario.Scenario.{Scenario}
use Rattle.drain_report.specs.Uses.{goes_over}
use Rattle.impact_law.specs.Cuts.{is_cut, with_cut}
use Rattle.impact_law.specs.declared.impact.Cut.{Cut}
use Rattle.impact_law.specs.declared.impact.Cut.TheVariants.{Link, Router}
use Rattle.impact_law.specs.declared.impact.CutRow.{CutRow}

-- a router that is cut is one of the network's
abbrev pub IsCutOf : PlainNet → Cut → Type 0
IsCutOf net (Link a b) = Unit {0}
IsCutOf net (Router r) = r < length net.routers

abbrev pub AreCutsOf : PlainNet → List CutRow → Type 0
AreCutsOf net rows = (row : CutRow) → IsIn rows row → IsCutOf net row.cut

-- the same is dead and silent
pub record AreSameFailures (f h : Failures) : Type 0 where
  pub dead : (l : ℕ) → is_dead f l ≡ is_dead h l
  pub links : (a b : ℕ) → is_dead_link f a b ≡ is_dead_link h a b
  pub silent : (r p : ℕ) → is_silent f r p ≡ is_silent h r p

-- a route goes over a cut, where there is one
abbrev pub route_over : Cut → Option Route → Bool
route_over cut None = false
route_over cut (Some h) = goes_over cut h.path

-- a router that isn't cut holds a route that goes over the cut
abbrev pub passes_over : Cut → Outcome → ℕ → Bool
passes_over cut outcome r = if is_cut cut r then false else route_over cut (route_at outcome r)

-- the scenario is another one with a cut besides
pub record IsWithCut (before : Scenario) (cut : Cut) (after : Scenario) : Type 0 where
  pub prefix : after.prefix ≡ before.prefix
  pub failures : AreSameFailures (failures_of after) (with_cut cut (failures_of before))
