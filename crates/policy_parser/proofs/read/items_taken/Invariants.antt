use Rattle.std.proofs.Common.{◌≡◌, length}
use Rattle.policy_tokens.specs.Ahead.{ahead_of}
use Rattle.policy_tokens.specs.Places.{first_place}
use Rattle.policy_grammar.specs.Left.{lexemes_ahead, left, StandsIn}
use Rattle.policy_grammar.specs.Items.{items_of}
use Rattle.policy_parser.proofs.TakenTexts.{TakesTo}
use Rattle.policy_parser.proofs.read.items_taken.Given as goal

abbrev pub invariant-items : goal.invariant-items
invariant-items l = record {
  so_far : TakesTo l.bytes l.net l.verdicts (left l.bytes l.at) (items_of (lexemes_ahead l.bytes (ahead_of l.bytes 0 first_place)));
  whole : l.whole.net.now ≡ l.net;
  stands : StandsIn l.bytes l.at;
}

abbrev pub decreases-items : goal.decreases-items
decreases-items l = length (left l.bytes l.at)
