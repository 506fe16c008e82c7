use Rattle.std.proofs.Common.{refl}
use Rattle.policy_values.specs.Parts.{parts_value}
use Rattle.policy_values.specs.PatternValues.{plain_patterns}
use Rattle.policy_parser.proofs.StatementValues.{judged}
use Rattle.policy_parser.proofs.item_values.judged.Goals as goal

pub returns : goal.returns
returns c =
    λ bytes net known s governs ranked claims.
    judged bytes net known s (plain_patterns c.args.patterns) (parts_value c.args.parts) c.args.from _ governs ranked claims (record {
      names = c.names_and.ensures;
      figures = refl;
      patterns = refl;
      ranks = c.ranks.ensures;
      calls = c.within.ensures;
      places = refl;
      value = λ f is. rw (c.from_vec.ensures, c.ranked.ensures, c.unwrap_or.ensures, is) refl;
    })
