use Rattle.std.proofs.Common.{ℕ, ◌<◌}
use Rattle.graph_base.specs.Rules.{KeepsLoop}
use Rattle.graph_base.specs.Preferences.{number_in}
use Rattle.preference_check.proofs.loops.loop_fault.Given as goal

abbrev pub invariant-loop-first : goal.invariant-loop-first
invariant-loop-first l = (p q : ℕ) → p < l.first → KeepsLoop l.net l.graph (number_in l.numbers) p q
