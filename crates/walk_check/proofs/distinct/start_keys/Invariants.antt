use Rattle.std.proofs.Common.{◌≡◌, ℕ, map, take}
use Rattle.graph_base.specs.Runs.{place_of}
use Rattle.walk_check.proofs.distinct.start_keys.Given as goal

abbrev pub invariant-loop-start : goal.invariant-loop-start
invariant-loop-start l = l.keys.items ≡ map (λ (s : ℕ). (0, place_of l.graph s)) (take l.start-index l.start-items)
