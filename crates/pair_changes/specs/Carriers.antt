-- Who carries, by nodes.
use Rattle.std.specs.Prelude.{ℕ, Bool, not, ◌&&◌, ◌==◌, List, filter, length, None}
use Rattle.std.specs.List.{list_any}
use Rattle.net_base.specs.declared.loc.LocSet.{LocSet}
use Rattle.net_base.specs.Locations.{numbers_below}
use Rattle.net_base.specs.Network.{PlainNet, is_router}
use Rattle.net_base.specs.Sets.{holds}
use Rattle.graph_base.specs.declared.graph.Node.{Node}
use Rattle.compare_base.specs.declared.cases.CasePair.{CasePair}
use Rattle.compare_base.specs.Cases.{is_place}

-- some node is at the router
abbrev pub has_node_at : PlainNet → List Node → ℕ → Bool
has_node_at net nodes r = list_any (λ (node : Node). is_router net node.loc && r == node.loc) nodes

-- the router is a place and in the one set alone
abbrev pub in_one_alone : PlainNet → CasePair → LocSet → LocSet → ℕ → Bool
in_one_alone net cases one other r = is_place net cases r None && (holds one r && not (holds other r))

abbrev pub all_in_one_alone : PlainNet → CasePair → LocSet → LocSet → List ℕ
all_in_one_alone net cases one other = filter (in_one_alone net cases one other) (numbers_below (length net.routers))
