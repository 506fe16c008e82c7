use Rattle.std.proofs.Common.{◌≤◌, length}
use Rattle.policy_grammar.specs.declared.symbol.Symbol.TheVariants.{Above}
use Rattle.policy_grammar.specs.Left.{left, StandsIn}
use Rattle.policy_rules.specs.KnownView.{plain_names}
use Rattle.policy_values.specs.CallReaders.{plain_sets, set_link}
use Rattle.policy_values.proofs.Chains.{LeadsFrom}
use Rattle.policy_values.proofs.reader.Reader.more_sets.Given as goal

abbrev pub invariant-loop-at : goal.invariant-loop-at
invariant-loop-at l = record {
  so_far : LeadsFrom Above (set_link l.self.text.now l.self.whole.now.net.now (plain_names l.self.known.now))
      (plain_sets l.fn.sets) (left l.self.text.now l.fn.at) (plain_sets l.sets) (left l.self.text.now l.at);
  stands : StandsIn l.self.text.now l.at;
  fewer : length (left l.self.text.now l.at) ≤ length (left l.self.text.now l.fn.at);
}

abbrev pub decreases-loop-at : goal.decreases-loop-at
decreases-loop-at l = length (left l.self.text.now l.at)
