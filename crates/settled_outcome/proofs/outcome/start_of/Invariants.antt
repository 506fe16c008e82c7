use Rattle.std.proofs.Common.{◌≡◌, drop}
use Rattle.std.specs.Prelude.{◌==◌}
use Rattle.std.specs.List.{find}
use Rattle.graph_base.specs.Runs.{place_of}
use Rattle.settled_outcome.proofs.outcome.start_of.Given as goal

abbrev pub invariant-loop-start : goal.invariant-loop-start
invariant-loop-start l = find (λ n. place_of l.graph n == l.at) l.graph.starts ≡ find (λ n. place_of l.graph n == l.at) (drop l.start-index l.graph.starts)
