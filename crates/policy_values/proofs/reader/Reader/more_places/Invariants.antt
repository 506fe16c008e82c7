use Rattle.std.proofs.Common.{◌≤◌, ◌+◌, length}
use Rattle.policy_grammar.specs.declared.symbol.Symbol.TheVariants.{Comma}
use Rattle.policy_grammar.specs.Left.{left, StandsIn}
use Rattle.policy_rules.specs.KnownView.{plain_names}
use Rattle.policy_values.specs.CallReaders.{plain_places, place_link}
use Rattle.policy_values.proofs.Chains.{LeadsFrom}
use Rattle.policy_values.proofs.reader.Reader.more_places.Given as goal

abbrev pub invariant-loop-at : goal.invariant-loop-at
invariant-loop-at l = record {
  so_far : LeadsFrom Comma (place_link l.self.text.now l.self.whole.now.net.now (plain_names l.self.known.now))
      (plain_places l.fn.places) (left l.self.text.now l.fn.at) (plain_places l.places) (left l.self.text.now l.at);
  stands : StandsIn l.self.text.now l.at;
  fewer : length (left l.self.text.now l.at) ≤ length (left l.self.text.now l.fn.at);
  room : l.places.count + length (left l.self.text.now l.at) ≤ 18446744073709551615;
}

abbrev pub decreases-loop-at : goal.decreases-loop-at
decreases-loop-at l = length (left l.self.text.now l.at)
