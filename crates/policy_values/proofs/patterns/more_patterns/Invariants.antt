use Rattle.std.proofs.Common.{◌≤◌, ◌+◌, length}
use Rattle.policy_grammar.specs.declared.symbol.Symbol.TheVariants.{Or}
use Rattle.policy_grammar.specs.Left.{left, StandsIn}
use Rattle.policy_values.specs.PatternValues.{plain_patterns, value_link}
use Rattle.policy_values.proofs.Chains.{LeadsFrom}
use Rattle.policy_values.proofs.patterns.more_patterns.Given as goal

abbrev pub invariant-loop-at : goal.invariant-loop-at
invariant-loop-at l = record {
  so_far : LeadsFrom Or (value_link l.text) (plain_patterns l.fn.found) (left l.text l.fn.at) (plain_patterns l.found) (left l.text l.at);
  few : l.found.count + length (left l.text l.at) ≤ 18446744073709551615;
  stands : StandsIn l.text l.at;
  fewer : length (left l.text l.at) ≤ length (left l.text l.fn.at);
}

abbrev pub decreases-loop-at : goal.decreases-loop-at
decreases-loop-at l = length (left l.text l.at)
