use Rattle.policy_grammar.proofs.Counting.{uncounted_symbol}
use Rattle.policy_grammar.proofs.deep.open_behind.Goals as goal

pub returns-in_default : goal.returns-in_default
returns-in_default c = record {
  fits = c.requires;
  counted = λ bytes. uncounted_symbol c.args.kind bytes c.args.before c.in_default.not-RoundOpen c.in_default.not-RoundClose;
}
