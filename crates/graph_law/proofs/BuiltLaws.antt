-- What the graph that is built says of walks.
use Rattle.std.proofs.Common.{◌≡◌, ℕ, ◌<◌, List, ◌∷◌, length, slice_get, Some, is_some, IsTrue, ap, arith}
use Rattle.std.proofs.lemmas.List.{length-map}
use Rattle.list_law.proofs.Options.{is_some_parts}
use Rattle.list_law.proofs.Truth.{same_tests}
use Rattle.net_base.specs.Network.{PlainNet, IsNet}
use Rattle.graph_base.specs.Runs.{run}
use Rattle.evidence_law.specs.Faithful.{is_run_path}
use Rattle.walk_states.specs.Built.{node_of, graph_over}
use Rattle.path_exprs.specs.Standings.{Plan, Standing, AreStandings}
use Rattle.policy_base.specs.CaseOrigins.{AreOrigins}
use Rattle.graph_law.specs.Ways.{standing_after, stays_alive}
use Rattle.graph_law.proofs.RunPaths.{goes_from_run_path, run_path_from_places}
use Rattle.graph_law.proofs.WellBuilt.{well_formed}
use Rattle.graph_law.proofs.Follow.{goes_from_runs}
use Rattle.graph_law.proofs.BuiltRuns.{inside, standing_of_run, run_stays_alive, ended, run_from_alive}
use Rattle.graph_base.proofs.RunSteps.{runs_from_run, run_from_runs}

module _ (net : PlainNet) (plan : Plan) (xs : List Standing) (are : AreStandings net plan xs) where
  pub runs_are_alive : IsNet net → AreOrigins net plan.origin plan.external → (path : List ℕ) → IsTrue (is_run_path net plan.origin path) →
      is_some (run (graph_over net plan xs) path) ≡ stays_alive net plan path
  runs_are_alive rules origins path h =
      same_tests (is_some (run (graph_over net plan xs) path)) (stays_alive net plan path)
      (λ s. let o = is_some_parts (run (graph_over net plan xs) path) s in
      run_stays_alive net plan xs are path o.0 (runs_from_run (graph_over net plan xs) path o.0 o.1))
      (λ alive. let r = run_from_alive net plan xs are rules origins path (goes_from_run_path net plan.origin path h) alive in
      ap is_some (run_from_runs net plan.origin plan.external (graph_over net plan xs) (well_formed net plan xs are) path r.0 r.1))

  pub runs_lead : (l : ℕ) (ls : List ℕ) (n : ℕ) → run (graph_over net plan xs) (l ∷ ls) ≡ Some n → slice_get xs n ≡ Some (standing_after net plan l ls)
  runs_lead l ls n h = standing_of_run net plan xs are l ls n (runs_from_run (graph_over net plan xs) (l ∷ ls) n h)

  pub runs_have_paths : (path : List ℕ) (n : ℕ) → run (graph_over net plan xs) path ≡ Some n → IsTrue (is_run_path net plan.origin path)
  runs_have_paths path n h =
      run_path_from_places net plan.origin path
      (goes_from_runs net plan.origin plan.external (graph_over net plan xs) (well_formed net plan xs are) (inside net plan xs are) path n
      (runs_from_run (graph_over net plan xs) path n h))

  pub nodes_are_ended : (n : ℕ) → n < length xs → (path : List ℕ) × (run (graph_over net plan xs) path ≡ Some n)
  nodes_are_ended n lt =
      let r = ended net plan xs are n (omega (arith, length-map xs (node_of net plan), lt)) in
      (r.0 ∷ r.1, run_from_runs net plan.origin plan.external (graph_over net plan xs) (well_formed net plan xs are) (r.0 ∷ r.1) n r.2)
