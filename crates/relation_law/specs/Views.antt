-- A graph as functions of the numbers of its nodes.
use Rattle.std.specs.Prelude.{ℕ, Bool, Option, length}
use Rattle.net_base.specs.declared.loc.LocSet.{LocSet}
use Rattle.net_base.specs.Sets.{holds}
use Rattle.graph_base.specs.Graphs.{PlainGraph}
use Rattle.graph_base.specs.Runs.{place_of, is_listener, rank_at, has_step, Reaches}

-- how many nodes there are; where a node stands, whether it is a listener, and its rank; which locations are
-- claimed; which node steps to which, and from which another can be reached
pub record View : Type 1 where
  pub size : ℕ
  pub place : ℕ → ℕ
  pub hears : ℕ → Bool
  pub rank : ℕ → Option ℕ
  pub claimed : ℕ → Bool
  pub step : ℕ → ℕ → Bool
  pub Leads : ℕ → ℕ → Type 0

-- the graph, where the locations that pass are claimed
abbrev pub view_with : PlainGraph → (ℕ → Bool) → View
view_with g claimed = record {
  size = length g.nodes;
  place = place_of g;
  hears = is_listener g;
  rank = rank_at g;
  claimed = claimed;
  step = has_step g;
  Leads = Reaches g;
}

abbrev pub view_of : PlainGraph → LocSet → View
view_of g claimed = view_with g (holds claimed)
