-- What each router holds where a graph is settled.
use Rattle.std.specs.Prelude.{◌≡◌, ℕ, ◌<◌, List, [], ◌∷◌, length, Option, Some, None, option_map, option_and_then, unwrap_or, if◌then◌else◌}
use Rattle.net_base.specs.declared.loc.LocSet.{LocSet}
use Rattle.net_base.specs.declared.numbers.Tag.{Tag}
use Rattle.net_base.specs.Network.{PlainNet}
use Rattle.net_base.specs.Numbers.{no_tag}
use Rattle.net_base.specs.Prefixes.{PlainPrefix}
use Rattle.net_base.specs.Sets.{holds}
use Rattle.config_base.specs.Configs.{PlainConfig}
use Rattle.config_base.specs.Lines.{class_of}
use Rattle.config_base.specs.declared.route.Route.{Route}
use Rattle.evidence_base.specs.Made.{PlainCaseEvidence, case_at, number_at, tag_at}
use Rattle.graph_base.specs.Runs.{start_at}
use Rattle.settled_graph.specs.Best.{entry_at}
use Rattle.settled_graph.specs.Grounds.{IsGround, held_in}
use Rattle.settled_graph.specs.declared.settled.Settled.{Settled}
use Rattle.routing_law.specs.Outcome.{FullyStable, Setup}
use Rattle.scenarios.specs.declared.survivors.Survivors.{Survivors}
use Rattle.graph_base.specs.Graphs.{PlainGraph}
use Rattle.outcome_base.specs.Outcomes.{Failures}
use Rattle.settled_outcome.specs.Surviving.{chooses_by, left_by, left_under}

-- the case of a prefix's class
abbrev pub case_of : PlainConfig → List PlainCaseEvidence → PlainPrefix → Option PlainCaseEvidence
case_of config cs p = option_and_then (case_at cs) (class_of config p)

-- a path with the tag and the number of its node
abbrev pub tagged : PlainCaseEvidence → Settled → Route
tagged c x = record { path = x.path; tag = tag_at c x.node; pref = number_at c x.node }

-- the tag of the start at an origin in the case of a prefix, or none
abbrev pub own_tag : Option PlainCaseEvidence → ℕ → Tag
own_tag case l = unwrap_or (option_and_then (λ (c : PlainCaseEvidence). option_map (tag_at c) (start_at c.graph l)) case) no_tag

-- so an origin's own route: the path of itself alone, with that tag; nobody compares its preference
abbrev pub started_route : Option PlainCaseEvidence → ℕ → Route
started_route case l = record { path = l ∷ []; tag = own_tag case l; pref = 0 }

-- a live origin holds its own route, a dead one none, and every other router what it is said to
abbrev pub held_by : Survivors → LocSet → (ℕ → Route) → (ℕ → Option Route) → ℕ → Option Route
held_by s origins own others r =
    if holds origins r
    then (if holds s.dead r then None else Some (own r))
    else others r

-- These are the routes of a graph's part that is left, settled: whatever network it is the ground of, what the locations hold is the outcome
-- of the graph in which ties are broken.
pub record AreSettled (net : PlainNet) (s : Survivors) (origins : LocSet) (c : PlainCaseEvidence) (routes : List (Option Route)) : Type 0 where
  pub choosers : LocSet
  pub settled : List (Option Settled)
  pub choose : (l : ℕ) → holds choosers l ≡ chooses_by net s origins l
  pub stable : (w : Setup) → IsGround net (left_by net s c.graph) c.numbers choosers w → FullyStable w (held_in settled)
  pub each : (r : ℕ) → r < length net.routers → entry_at routes r ≡ option_map (tagged c) (entry_at settled r)

-- where the prefix has a case, the graph is what failures leave of the case's
abbrev pub IsOpen : PlainNet → PlainConfig → List PlainCaseEvidence → Failures → PlainPrefix → PlainGraph → Type 0
IsOpen net config cs f p left = (c : PlainCaseEvidence) → case_of config cs p ≡ Some c → left ≡ left_under net f c.graph
