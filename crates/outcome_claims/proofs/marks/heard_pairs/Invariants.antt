use Rattle.std.proofs.Common.{◌≡◌, ℕ, map, take}
use Rattle.std.specs.Prelude.{filter}
use Rattle.graph_base.specs.Runs.{is_listener, place_of}
use Rattle.outcome_claims.proofs.marks.heard_pairs.Given as goal

abbrev pub invariant-loop-step : goal.invariant-loop-step
invariant-loop-step l = l.pairs.items ≡ map (λ (s : ℕ × ℕ). (place_of l.graph s.0, place_of l.graph s.1)) (filter (λ (s : ℕ × ℕ). is_listener l.graph s.1) (take l.step-index l.step-items))
