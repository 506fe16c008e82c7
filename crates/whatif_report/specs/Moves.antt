-- Whom a cut moves: the routers whose settled route, or whose multipath set, is another under it.
use Rattle.std.specs.Prelude.{◌≡◌, ◌↔◌, ℕ, Bool, true, false, not, ◌&&◌, IsTrue, List, length, map, Option, Some, None}
use Rattle.std.specs.List.{count_by}
use Rattle.net_base.specs.Locations.{numbers_below}
use Rattle.net_base.specs.Network.{PlainNet, IsNet}
use Rattle.net_base.specs.Prefixes.{PlainPrefix, IsPrefix}
use Rattle.policy_base.specs.Policies.{PlainPolicy, IsPolicyOf}
use Rattle.config_base.specs.Configs.{PlainConfig}
use Rattle.config_base.specs.declared.route.Route.{Route}
use Rattle.evidence_base.specs.Made.{PlainCaseEvidence}
use Rattle.evidence_law.specs.Passes.{Passes}
use Rattle.outcome_base.specs.Outcomes.{Failures, Outcome, route_at}
use Rattle.settled_law.specs.Settled.{IsFullyStable}
use Rattle.scenarios.specs.Tests.{same_route}
use Rattle.multipath_law.specs.Multipath.{IsMember}
use Rattle.impact_law.specs.declared.impact.Cut.{Cut}
use Rattle.impact_law.specs.declared.impact.Moves.{Moves}
use Rattle.impact_law.specs.declared.impact.WhatIf.{WhatIf}
use Rattle.impact_law.specs.Cuts.{is_cut, live_cuts, with_cut}
use Rattle.impact_law.specs.Impacts.{IsImpact}

-- the outcome to which a network settles under some failures: an entry for each router, stable, and ties are broken
pub record IsSettledOutcome (net : PlainNet) (policy : PlainPolicy) (config : PlainConfig) (f : Failures) (p : PlainPrefix) (outcome : Outcome) : Type 0 where
  pub size : length outcome ≡ length net.routers
  pub stable : IsFullyStable net policy config f p outcome

-- the same route, or none both times
abbrev pub same_held : Option Route → Option Route → Bool
same_held None None = true
same_held None (Some h) = false
same_held (Some g) None = false
same_held (Some g) (Some h) = same_route g h

-- a router that isn't cut holds another route after
abbrev pub is_moved : Cut → Outcome → Outcome → ℕ → Bool
is_moved cut before after r = not (is_cut cut r) && not (same_held (route_at before r) (route_at after r))

-- how many do
abbrev pub moved : PlainNet → Cut → Outcome → Outcome → ℕ
moved net cut before after = count_by (is_moved cut before after) (numbers_below (length net.routers))

-- a router has the same multipath set before and after
abbrev pub KeepsSet : PlainNet → PlainPolicy → PlainConfig → Failures → Failures → PlainPrefix → Outcome → Outcome → ℕ → Type 0
KeepsSet net policy config f h p before after r = (z : ℕ) → IsMember net policy config f p before r z ↔ IsMember net policy config h p after r z

-- how many routers that aren't cut don't keep theirs
abbrev pub shifted : PlainNet → Cut → (ℕ → Bool) → ℕ
shifted net cut kept = count_by (λ r. not (is_cut cut r) && not (kept r)) (numbers_below (length net.routers))

-- whom a cut moves, if these outcomes are before and after it, and these routers keep their sets
abbrev pub moves_by : PlainNet → Cut → Outcome → Outcome → (ℕ → Bool) → Moves
moves_by net cut before after kept = record { routes = moved net cut before after; sets = shifted net cut kept }

-- What each cut besides these failures changes for the prefix, and whom it moves.
pub record IsWhatIf (net : PlainNet) (policy : PlainPolicy) (config : PlainConfig) (f : Failures) (p : PlainPrefix) (w : WhatIf) : Type 0 where
  pub impact : IsImpact net policy f p w.impact
  pub before : Outcome
  pub settled : IsSettledOutcome net policy config f p before
  pub after : Cut → Outcome
  pub resettled : (cut : Cut) → IsSettledOutcome net policy config (with_cut cut f) p (after cut)
  pub kept : Cut → ℕ → Bool
  pub each : (cut : Cut) (r : ℕ) → IsTrue (kept cut r) ↔ KeepsSet net policy config f (with_cut cut f) p before (after cut) r
  pub moves : w.moves ≡ map (λ (cut : Cut). moves_by net cut before (after cut) (kept cut)) (live_cuts net f)

abbrev pub WhatIfsAreOne : Type 0
WhatIfsAreOne = (net : PlainNet) (policy : PlainPolicy) (config : PlainConfig) (cs : List PlainCaseEvidence) → IsNet net → IsPolicyOf net policy → Passes net policy config cs
    → (f : Failures) (p : PlainPrefix) → IsPrefix p → (a b : WhatIf) → IsWhatIf net policy config f p a → IsWhatIf net policy config f p b → a ≡ b
