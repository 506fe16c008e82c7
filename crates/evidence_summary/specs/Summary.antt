-- The summary of a network and of the evidence that is compiled for it.
use Rattle.std.specs.Prelude.{ℕ, List, [], ◌∷◌, ◌++◌, codes, length, nat_eq, sum_by, if◌then◌else◌}
use Rattle.std.specs.Fmt.{decimal}
use Rattle.std.specs.List.{flat_map}
use Rattle.std.specs.Set.{distinct_count}
use Rattle.graph_base.specs.Runs.{place_of}
use Rattle.evidence_base.specs.Made.{PlainCaseEvidence, number_at}
use Rattle.net_base.specs.Locations.{numbers_below}
use Rattle.net_base.specs.Network.{PlainNet, is_router}

-- a line with a word and a number
abbrev pub count_line : List ℕ → ℕ → List ℕ
count_line word count = word ++ codes " " ++ decimal count ++ codes "\n"

-- the nodes and the steps of all cases
abbrev pub node_count : List PlainCaseEvidence → ℕ
node_count cases = sum_by (λ (c : PlainCaseEvidence). length c.graph.nodes) cases

abbrev pub step_count : List PlainCaseEvidence → ℕ
step_count cases = sum_by (λ (c : PlainCaseEvidence). length c.graph.steps) cases

-- the preference number of a node, if it stands at a router
abbrev pub number_at_router : PlainNet → PlainCaseEvidence → ℕ → List ℕ
number_at_router net c node = if is_router net (place_of c.graph node) then number_at c node ∷ [] else []

-- those of the nodes of a case, in order, and of all cases
abbrev pub router_numbers : PlainNet → PlainCaseEvidence → List ℕ
router_numbers net c = flat_map (number_at_router net c) (numbers_below (length c.graph.nodes))

abbrev pub all_numbers : PlainNet → List PlainCaseEvidence → List ℕ
all_numbers net cases = flat_map (router_numbers net) cases

-- how many different preference numbers the nodes at routers have
abbrev pub preference_count : PlainNet → List PlainCaseEvidence → ℕ
preference_count net cases = distinct_count nat_eq (all_numbers net cases)

-- The counts, each on a line behind its word, and a last line: that the evidence holds.
unfoldable pub summary_text : ℕ → PlainNet → List PlainCaseEvidence → List ℕ
summary_text leaves net cases =
    count_line (codes "sample") leaves
    ++ count_line (codes "routers") (length net.routers)
    ++ count_line (codes "peers") (length net.peers)
    ++ count_line (codes "links") (length net.links)
    ++ count_line (codes "cases") (length cases)
    ++ count_line (codes "nodes") (node_count cases)
    ++ count_line (codes "steps") (step_count cases)
    ++ count_line (codes "preferences") (preference_count net cases)
    ++ codes "holds\n"
