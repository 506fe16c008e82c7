use Rattle.std.proofs.Common.{◌≡◌, ℕ, filter, take}
use Rattle.std.specs.Prelude.{not}
use Rattle.graph_base.specs.Runs.{place_of}
use Rattle.whatif_report.specs.Shifting.{over_link}
use Rattle.whatif_report.proofs.opened.steps_without.Given as goal

abbrev pub invariant-loop-step : goal.invariant-loop-step
invariant-loop-step l = l.steps ≡ filter (λ (e : ℕ × ℕ). not (over_link l.cut (place_of l.graph e.0) (place_of l.graph e.1))) (take l.step-index l.step-items)
