use Rattle.std.proofs.Common.{◌≡◌, ◌&&◌, ◌==◌, drop}
use Rattle.std.specs.List.{find}
use Rattle.graph_base.specs.Runs.{place_of}
use Rattle.graph_base.proofs.follow.step_of.Given as goal

abbrev pub invariant-loop-from : goal.invariant-loop-from
invariant-loop-from l = find (λ s. s.0 == l.node && place_of l.graph s.1 == l.at) l.graph.steps ≡ find (λ s. s.0 == l.node && place_of l.graph s.1 == l.at) (drop l.from-index l.graph.steps)
