use Rattle.std.proofs.Common.{ℕ, ◌<◌}
use Rattle.graph_base.specs.Rules.{KeepsLoop}
use Rattle.graph_base.specs.Preferences.{number_in}
use Rattle.preference_check.proofs.loops.first_looped.Given as goal

abbrev pub invariant-loop-other : goal.invariant-loop-other
invariant-loop-other l = (q : ℕ) → q < l.other → KeepsLoop l.net l.graph (number_in l.numbers) l.node q
