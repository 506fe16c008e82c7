use Rattle.policy_grammar.proofs.Counting.{uncounted}
use Rattle.policy_grammar.proofs.deep.with_token.Goals as goal

pub returns-in_default : goal.returns-in_default
returns-in_default c = record {
  brackets = λ bytes l ls is at. uncounted c.args.kind c.args.brackets.deep c.args.brackets.open bytes l ls c.in_default.not-RoundOpen c.in_default.not-RoundClose is;
  fits = c.requires;
}
