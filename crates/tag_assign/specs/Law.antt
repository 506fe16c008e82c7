-- The law of these tags.
use Rattle.std.specs.Prelude.{◌≡◌, ℕ, ◌<◌, ◌^◌, IsTrue, List, length, map, Some, slice_get}
use Rattle.net_base.specs.Network.{PlainNet, IsNet, is_location}
use Rattle.graph_base.specs.Graphs.{PlainGraph}
use Rattle.graph_base.specs.Runs.{place_of}
use Rattle.evidence_base.specs.Made.{PlainCaseEvidence, AreTags}
use Rattle.tag_assign.specs.Tagging.{tags_of, all_nodes}

abbrev pub graphs_of : List PlainCaseEvidence → List PlainGraph
graphs_of cs = map (λ (c : PlainCaseEvidence). c.graph) cs

-- each node is at a location
abbrev pub AreAtLocations : PlainNet → List PlainCaseEvidence → Type 0
AreAtLocations net cs = (k n : ℕ) (c : PlainCaseEvidence) → slice_get cs k ≡ Some c → n < length c.graph.nodes → IsTrue (is_location net (place_of c.graph n))

-- Where the graphs of cases have fewer nodes than there are tags, their tags carry their router's number, those of one
-- router differ over all cases, and nodes at peers have none.
abbrev pub TagsKeepTheirRule : Type 0
TagsKeepTheirRule = (net : PlainNet) (cs : List PlainCaseEvidence) → IsNet net → AreAtLocations net cs → length (all_nodes (graphs_of cs)) < 2 ^ 32
    → map (λ (c : PlainCaseEvidence). c.tags) cs ≡ tags_of net (graphs_of cs) → AreTags net cs
