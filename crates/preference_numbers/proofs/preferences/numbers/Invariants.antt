use Rattle.std.proofs.Common.{◌≡◌, ◌<◌, ℕ, length}
use Rattle.graph_base.specs.Preferences.{number_in}
use Rattle.preference_numbers.specs.Inferred.{inferred}
use Rattle.preference_numbers.proofs.preferences.numbers.Given as goal

abbrev pub invariant-loop-node : goal.invariant-loop-node
invariant-loop-node l = record {
  size : length l.of ≡ l.node;
  each : (n : ℕ) → n < l.node → number_in l.of n ≡ inferred l.net l.graph l.relation n;
}
