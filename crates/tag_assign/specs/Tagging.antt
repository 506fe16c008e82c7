-- The tags of nodes: a router's AS number, and a count of its nodes.
use Rattle.std.specs.Prelude.{ℕ, ◌+◌, ◌==◌, List, [], ◌∷◌, ◌++◌, if◌then◌else◌}
use Rattle.std.specs.List.{count_by, flat_map}
use Rattle.net_base.specs.declared.numbers.Tag.{Tag}
use Rattle.net_base.specs.Numbers.{no_tag}
use Rattle.net_base.specs.Network.{PlainNet, is_router, asn_of}
use Rattle.graph_base.specs.declared.graph.Node.{Node}
use Rattle.graph_base.specs.Graphs.{PlainGraph}

-- how many of the nodes stand at a location
abbrev pub count_at : ℕ → List Node → ℕ
count_at l nodes = count_by (λ (node : Node). node.loc == l) nodes

-- At a router the n-th node has the router's number with n; elsewhere a node has no tag.
abbrev pub tag_for : PlainNet → ℕ → ℕ → Tag
tag_for net l n = if is_router net l then record { asn = asn_of net l; value = n } else no_tag

-- the tags of nodes that come after others
abbrev pub tags_after : PlainNet → List Node → List Node → List Tag
tags_after net before [] = []
tags_after net before (node ∷ nodes) = tag_for net node.loc (count_at node.loc before + 1) ∷ tags_after net (before ++ node ∷ []) nodes

abbrev pub graph_tags_after : PlainNet → List Node → List PlainGraph → List (List Tag)
graph_tags_after net before [] = []
graph_tags_after net before (g ∷ gs) = tags_after net before g.nodes ∷ graph_tags_after net (before ++ g.nodes) gs

-- the tags of each graph's nodes, counted over all graphs in order
abbrev pub tags_of : PlainNet → List PlainGraph → List (List Tag)
tags_of net graphs = graph_tags_after net [] graphs

-- the nodes of all graphs
abbrev pub all_nodes : List PlainGraph → List Node
all_nodes graphs = flat_map (λ (g : PlainGraph). g.nodes) graphs
