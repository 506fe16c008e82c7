use Rattle.std.proofs.Common.{◌≡◌, ◌<◌, ℕ, length}
use Rattle.graph_base.specs.Preferences.{number_in}
use Rattle.relation_law.specs.Evidence.{at_routers}
use Rattle.preference_numbers.proofs.preferences.numbers_apart.Given as goal

abbrev pub invariant-loop-node : goal.invariant-loop-node
invariant-loop-node l = record {
  size : length l.of ≡ l.node;
  each : (n : ℕ) → n < l.node → number_in l.of n ≡ at_routers l.net l.graph (λ _. 100) n;
}
