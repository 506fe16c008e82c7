use Rattle.std.proofs.Common.{◌<◌, ℕ}
use Rattle.state_simulation.specs.Held.{HasEachOf}
use Rattle.state_simulation.proofs.table.Relation.is_total.Given as goal

abbrev pub invariant-loop-m : goal.invariant-loop-m
invariant-loop-m l = (m : ℕ) → m < l.m → HasEachOf l.self m
