-- Which links and routers carry nothing.
use Rattle.std.specs.Prelude.{◌≡◌, ◌↔◌, ℕ, Bool, IsTrue, length, filter}
use Rattle.list_law.specs.Members.{IsIn}
use Rattle.net_base.specs.Network.{PlainNet}
use Rattle.net_base.specs.Prefixes.{PlainPrefix}
use Rattle.policy_base.specs.Policies.{PlainPolicy}
use Rattle.config_base.specs.Configs.{PlainConfig}
use Rattle.outcome_base.specs.Outcomes.{Failures, Outcome, offered, route_at}
use Rattle.settled_law.specs.Settled.{IsFullyStable}
use Rattle.impact_law.specs.Cuts.{live_cuts, with_cut}
use Rattle.impact_law.specs.declared.impact.Cut.{Cut}
use Rattle.drain_report.specs.declared.drained.Drain.{Drain}
use Rattle.drain_report.specs.Uses.{is_other}

-- every other router holds the same route
abbrev pub KeepsRoutes : PlainNet → Cut → Outcome → Outcome → Type 0
KeepsRoutes net cut before after = (r : ℕ) → IsTrue (is_other net cut r) → route_at after r ≡ route_at before r

-- The link or router is free: what settles where it fails besides what has failed leaves every other router its route, and every peer what
-- it's offered over every session, those of the link or router itself too.
pub record IsFree (net : PlainNet) (policy : PlainPolicy) (config : PlainConfig) (f : Failures) (p : PlainPrefix) (outcome : Outcome) (cut : Cut) : Type 0 where
  pub after : Outcome
  pub size : length after ≡ length net.routers
  pub settled : IsFullyStable net policy config (with_cut cut f) p after
  pub routes : KeepsRoutes net cut outcome after
  pub offers : (r peer : ℕ) → offered net policy config (with_cut cut f) p after r peer ≡ offered net policy config f p outcome r peer

-- Of the links that live, in the network's order, and then of the routers that live, the free ones are listed, and all are counted.
pub record IsDrain (net : PlainNet) (policy : PlainPolicy) (config : PlainConfig) (f : Failures) (p : PlainPrefix) (outcome : Outcome) (drain : Drain) : Type 0 where
  pub is_listed : Cut → Bool
  pub each : (cut : Cut) → IsIn (live_cuts net f) cut → IsTrue (is_listed cut) ↔ IsFree net policy config f p outcome cut
  pub free : drain.free ≡ filter is_listed (live_cuts net f)
  pub live : drain.live ≡ length (live_cuts net f)
