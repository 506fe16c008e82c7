use Rattle.std.proofs.Common.{◌≤◌, length}
use Rattle.policy_grammar.specs.declared.symbol.Symbol.TheVariants.{Comma}
use Rattle.policy_grammar.specs.Left.{left, StandsIn}
use Rattle.policy_rules.specs.KnownView.{plain_names}
use Rattle.policy_values.specs.NameSets.{link_by}
use Rattle.policy_values.specs.OriginNames.{with_origin}
use Rattle.policy_values.proofs.Chains.{LeadsFrom}
use Rattle.policy_values.proofs.reader.Reader.more_origins.Given as goal

abbrev pub invariant-loop-at : goal.invariant-loop-at
invariant-loop-at l = record {
  so_far : LeadsFrom Comma (link_by (with_origin l.self.text.now l.self.whole.now.net.now (plain_names l.self.known.now)))
      l.fn.found (left l.self.text.now l.fn.at) l.found (left l.self.text.now l.at);
  stands : StandsIn l.self.text.now l.at;
  fewer : length (left l.self.text.now l.at) ≤ length (left l.self.text.now l.fn.at);
}

abbrev pub decreases-loop-at : goal.decreases-loop-at
decreases-loop-at l = length (left l.self.text.now l.at)
