-- What peers are offered in an outcome, by the graph of a prefix's case.
use Rattle.std.specs.Prelude.{ℕ, Bool, false, ◌&&◌, List, [], Option, Some, None, option_and_then, map, filter, if◌then◌else◌}
use Rattle.std.specs.List.{list_any}
use Rattle.net_base.specs.declared.numbers.Tag.{Tag}
use Rattle.net_base.specs.Network.{PlainNet, is_peer, is_router, joins}
use Rattle.graph_base.specs.Runs.{is_listener, place_of}
use Rattle.config_base.specs.declared.route.Route.{Route}
use Rattle.config_base.specs.Lines.{same_tag}
use Rattle.evidence_base.specs.Made.{PlainCaseEvidence, tag_at}
use Rattle.outcome_base.specs.Outcomes.{Failures, Outcome, is_live, route_at}
use Rattle.scenarios.specs.Tests.{unlooped}

-- there is a route, with this tag
abbrev pub has_tag : Option Route → Tag → Bool
has_tag None tag = false
has_tag (Some h) tag = same_tag h.tag tag

-- the step leads on from the node that ends a router's path, which its route's tag tells, to one that hears
abbrev pub is_told : PlainCaseEvidence → Outcome → ℕ × ℕ → Bool
is_told c outcome step = is_listener c.graph step.1 && has_tag (route_at outcome (place_of c.graph step.0)) (tag_at c step.0)

-- the ends of these steps, the router first
abbrev pub told_pairs : Outcome → Option PlainCaseEvidence → List (ℕ × ℕ)
told_pairs outcome None = []
told_pairs outcome (Some c) = map (λ (step : ℕ × ℕ). (place_of c.graph step.0, place_of c.graph step.1)) (filter (is_told c outcome) c.graph.steps)

-- The path that a peer is offered over the session of a router, where such a step is over their link.
abbrev pub offered_by : PlainNet → Failures → Outcome → Option PlainCaseEvidence → ℕ → ℕ → Option (List ℕ)
offered_by net f outcome case r peer =
    if is_live net f r peer && is_router net r && is_peer net peer && list_any (joins r peer) (told_pairs outcome case)
    then option_and_then (λ (h : Route). unlooped peer h.path) (route_at outcome r)
    else None
