use Rattle.std.proofs.Common.{◌≡◌, ℕ, map, take}
use Rattle.graph_base.specs.Runs.{place_of}
use Rattle.walk_check.proofs.distinct.step_keys.Given as goal

abbrev pub invariant-loop-step : goal.invariant-loop-step
invariant-loop-step l = l.keys.items ≡ map (λ (s : ℕ × ℕ). (s.0, place_of l.graph s.1)) (take l.step-index l.step-items)
