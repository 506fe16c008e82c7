-- Where a node has at most one step to a location, the step there is the one that is found.
use Rattle.std.proofs.Common.{◌≡◌, ℕ, true, ◌&&◌, ◌==◌, option_map, Some, refl, ap, ◌∙◌}
use Rattle.std.proofs.lemmas.Bool.{and_from, eq-eqb}
use Rattle.list_law.proofs.Tests.{find_from}
use Rattle.graph_base.specs.Graphs.{PlainGraph}
use Rattle.graph_base.specs.Refuting.{HasSingleSteps}
use Rattle.graph_base.specs.Runs.{place_of, has_step, step_at}
use Rattle.graph_base.proofs.StartsAndSteps.{step_at-is, step_in}

pub step_at-alone : (g : PlainGraph) → HasSingleSteps g → (m n : ℕ) → has_step g m n ≡ true → step_at g m (place_of g n) ≡ Some n
step_at-alone g single m n h =
    let at = step_in g m n h in
    let test = and_from (m == m) (place_of g n == place_of g n) (eq-eqb m m refl) (eq-eqb (place_of g n) (place_of g n) refl) in
    let found = find_from {A = ℕ × ℕ} (λ s. s.0 == m && place_of g s.1 == place_of g n) g.steps at.0 (m, n) at.1 test in
    let there : step_at g m (place_of g n) ≡ Some (found.0).1 = ap (option_map (λ (s : ℕ × ℕ). s.1)) found.1 in
    let is = step_at-is g m (place_of g n) (found.0).1 there in
    there ∙ ap Some (single m (found.0).1 n is.0 h is.1)
