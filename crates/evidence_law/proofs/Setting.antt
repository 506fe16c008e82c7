-- A network, failures, a graph, the lines of a class and an outcome, as the laws of routing see them.
use Rattle.std.specs.Prelude.{ℕ, ◌+◌, Bool, [], not, ◌&&◌, length, option_map, is_some}
use Rattle.net_base.specs.declared.numbers.Tag.{Tag}
use Rattle.net_base.specs.Network.{PlainNet, is_peer, is_router, id_of}
use Rattle.net_base.specs.Sets.{holds}
use Rattle.net_base.specs.Numbers.{no_tag}
use Rattle.net_base.specs.Prefixes.{PlainPrefix}
use Rattle.graph_base.specs.Graphs.{PlainGraph}
use Rattle.graph_base.specs.Runs.{place_of, start_at, step_at}
use Rattle.config_base.specs.declared.route.Route.{Route}
use Rattle.config_base.specs.Configs.{PlainConfig}
use Rattle.config_base.specs.Lines.{export_of, import_of, own_tag}
use Rattle.evidence_base.specs.Made.{PlainCaseEvidence, tag_at, number_at}
use Rattle.outcome_base.specs.Outcomes.{Failures, Outcome, is_dead, is_live, is_silent, route_at}
use Rattle.routing_law.specs.Network as law
use Rattle.routing_law.specs.Lines as line
use Rattle.routing_law.specs.Graph as graph
use Rattle.routing_law.specs.Outcome as outcomes

abbrev pub network_of : PlainNet → (ℕ → Bool) → law.Network
network_of net origin = record { size = length net.routers + length net.peers; router = is_router net; origin = origin; name = id_of net }

-- what a comes to hear from b goes over a live link, and a peer isn't silent
abbrev pub alive_of : PlainNet → Failures → law.Alive
alive_of net f = record { live = λ l. not (is_dead f l); carries = λ from to. is_live net f from to && not (is_peer net from && is_silent f to from) }

abbrev pub graph_of : PlainGraph → (ℕ → ℕ) → graph.Graph
graph_of g number = record { nodes = length g.nodes; place = place_of g; start = start_at g; next = step_at g; number = number }

abbrev pub pair_of : Tag → line.Tag
pair_of t = (t.asn, t.value)

abbrev pub tag_of : line.Tag → Tag
tag_of t = record { asn = t.0; value = t.1 }

-- what an import line gives
abbrev pub gift_of : Tag × ℕ → line.Tag × ℕ
gift_of q = (pair_of q.0, q.1)

-- the lines of a class; imports are asked of a path without locations, so that the loop rule stands apart
abbrev pub lines_of : PlainNet → PlainConfig → PlainPrefix → ℕ → line.Lines
lines_of net config p class = record {
  own = λ v. pair_of (own_tag net config p v);
  exported = λ from to t. is_some (export_of net config class from to (tag_of t));
  imported = λ at from t. option_map gift_of (import_of net config class at from [] (tag_of t));
  from_peer = λ at from. option_map gift_of (import_of net config class at from [] no_tag);
}

abbrev pub line_of : Route → line.LineRoute
line_of h = record { path = h.path; tag = pair_of h.tag; pref = h.pref }

abbrev pub lines_at : Outcome → line.LineRoutes
lines_at outcome v = option_map line_of (route_at outcome v)

-- what the laws speak of, for a case
abbrev pub setup_of : PlainNet → Failures → PlainCaseEvidence → outcomes.Setup
setup_of net f c = record { net = network_of net (holds c.case.origins); alive = alive_of net f; graph = graph_of c.graph (number_at c) }

abbrev pub pairs_of : PlainCaseEvidence → ℕ → line.Tag
pairs_of c n = pair_of (tag_at c n)
