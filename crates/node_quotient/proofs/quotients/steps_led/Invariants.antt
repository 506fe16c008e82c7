use Rattle.std.proofs.Common.{◌≡◌, ℕ, map, take}
use Rattle.node_quotient.specs.Alike.{class_in}
use Rattle.node_quotient.proofs.quotients.steps_led.Given as goal

abbrev pub invariant-loop-step : goal.invariant-loop-step
invariant-loop-step l = l.led ≡ map (λ (s : ℕ × ℕ). (s.0, class_in l.least s.1)) (take l.step-index l.steps)
