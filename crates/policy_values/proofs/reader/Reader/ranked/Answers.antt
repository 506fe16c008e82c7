use Rattle.list_law.proofs.Exits.{passed_on}
use Rattle.policy_tokens.specs.declared.limits.TheConstants.{BRACKETS}
use Rattle.policy_grammar.specs.Left.{left}
use Rattle.policy_rules.specs.KnownView.{plain_names}
use Rattle.policy_values.specs.Parts.{parts_value}
use Rattle.policy_values.proofs.PartLaws.{parts_read}
use Rattle.policy_values.proofs.reader.Reader.ranked.Goals as goal

pub returns-in_err-joined-clause-read : goal.returns-in_err-joined-clause-read
returns-in_err-joined-clause-read c =
    rw (passed_on c.from_residual.result c.from_residual.ensures.1)
    (λ memory. parts_read c.args.self.now.text.now c.args.self.now.whole.now.net.now (plain_names c.args.self.now.known.now) BRACKETS
    (parts_value c.of-parts.result) (left c.args.self.now.text.now c.args.at.now) _ c.of-parts.ensures
    (c.in_err-joined.ensures.read memory))

pub returns-clause-read : goal.returns-clause-read
returns-clause-read c =
    parts_read c.args.self.now.text.now c.args.self.now.whole.now.net.now (plain_names c.args.self.now.known.now) BRACKETS
    (parts_value c.of-parts.result) (left c.args.self.now.text.now c.args.at.now) _ c.of-parts.ensures c.in_ok-joined.ensures.read
