-- The graph of a case as it is built: every walk, read from its origin, as long as it can still be permitted.
use Rattle.std.specs.Prelude.{◌≡◌, ℕ, ◌+◌, not, ◌&&◌, suc, List, [], ◌∷◌, ◌++◌, length, map, Option, None, if◌then◌else◌}
use Rattle.net_base.specs.Locations.{numbers_below}
use Rattle.net_base.specs.Network.{PlainNet, is_peer}
use Rattle.policy_base.specs.Permitted.{from_holds}
use Rattle.path_exprs.specs.Runs.{first_with}
use Rattle.path_exprs.specs.Standings.{AreStandings, Plan, Standing, same_standing, starts, targets}
use Rattle.graph_base.specs.declared.graph.Node.{Node}
use Rattle.graph_base.specs.Graphs.{PlainGraph}

-- the place of a standing in a list, or the list's length
abbrev pub place_in : List Standing → Standing → ℕ
place_in [] x = 0
place_in (y ∷ ys) x = if same_standing y x then 0 else suc (place_in ys x)

-- each step of the standings `ys`, which are numbered from k; `all` is the whole list
abbrev pub steps_from : PlainNet → Plan → List Standing → ℕ → List Standing → List (ℕ × ℕ)
steps_from net plan all k [] = []
steps_from net plan all k (y ∷ ys) = map (λ t. (k, place_in all t)) (targets net plan y) ++ steps_from net plan all (k + 1) ys

-- a walk has its rank where it may start
abbrev pub rank_of_standing : Plan → Standing → Option ℕ
rank_of_standing plan x = if from_holds plan.from x.at && not (plan.origin x.at) then first_with [] x.left else None

abbrev pub node_of : PlainNet → Plan → Standing → Node
node_of net plan x = record { loc = x.at; listener = is_peer net x.at && not (plan.origin x.at); rank = rank_of_standing plan x }

-- The graph over these standings.
abbrev pub graph_over : PlainNet → Plan → List Standing → PlainGraph
graph_over net plan xs = record {
  nodes = map (node_of net plan) xs;
  starts = numbers_below (length (starts net plan));
  steps = steps_from net plan xs 0 xs;
}

-- The graph that is built.
abbrev pub IsBuilt : PlainNet → Plan → PlainGraph → Type 0
IsBuilt net plan g = (xs : List Standing) × AreStandings net plan xs × (g ≡ graph_over net plan xs)
