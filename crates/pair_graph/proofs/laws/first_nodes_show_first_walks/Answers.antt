use Rattle.std.proofs.Common.{◌≤◌, ◌∙◌, inl, inr}
use Rattle.std.specs.Prelude.{slice_get}
use Rattle.std.proofs.lemmas.Bool.{both_ways, cases_lt}
use Rattle.list_law.proofs.Options.{option_and_then_parts}
use Rattle.graph_base.specs.Runs.{run}
use Rattle.pair_graph.proofs.Orders.{first_of_all}
use Rattle.pair_graph.proofs.laws.first_nodes_show_first_walks.Goals as goal

pub returns : goal.returns
returns c = λ g h p pairs is_so n y walk other rules made shown least leads so.
    let found = option_and_then_parts (slice_get pairs) (run p other) y (made.runs other ∙ leads) in
    let le : n ≤ found.0 = elim (cases_lt found.0 n) [
      | inl less ↦ absurd (both_ways _ (least found.0 y less found.2) so)
      | inr ge ↦ ge
    ] in
    first_of_all p made.order rules made.entered n found.0 walk other le shown found.1
