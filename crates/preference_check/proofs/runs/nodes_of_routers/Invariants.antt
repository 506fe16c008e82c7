use Rattle.std.proofs.Common.{◌≡◌, ◌&&◌, ◌<◌, ℕ, [], length, get_or, ltb, eqb}
use Rattle.graph_base.specs.Runs.{place_of}
use Rattle.graph_base.specs.Preferences.{number_in}
use Rattle.preference_check.specs.Runs.{has_node}
use Rattle.preference_check.proofs.runs.nodes_of_routers.Given as goal

abbrev pub invariant-loop-node : goal.invariant-loop-node
invariant-loop-node l = record {
  size : length l.all.items ≡ length l.net.routers;
  nodes : (at n number : ℕ) → at < length l.net.routers → has_node (get_or l.all.items at []) n number ≡ (ltb n l.node && (eqb (place_of l.graph n) at && eqb (number_in l.numbers n) number));
}
