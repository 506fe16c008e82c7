use Rattle.list_law.proofs.Exits.{passed_on}
use Rattle.policy_rules.specs.KnownView.{plain_names}
use Rattle.policy_values.specs.Parts.{parts_value}
use Rattle.policy_values.specs.PatternValues.{plain_patterns}
use Rattle.policy_parser.proofs.ReadItemValues.{statement_read, statement_unread, statement_unclaimed}
use Rattle.policy_parser.proofs.item_values.statement.Goals as goal

pub returns-in_err-parts-clause-read : goal.returns-in_err-parts-clause-read
returns-in_err-parts-clause-read c =
    let bytes = c.args.reader.now.text.now in
    let net = c.args.reader.now.whole.now.net.now in
    let known = plain_names c.args.reader.now.known.now in
    rw (passed_on c.from_residual-in_err-parts.result c.from_residual-in_err-parts.ensures.1)
    (λ memory. statement_unread bytes net known _ _ _ (plain_patterns c.in_ok-patterns.patterns) _ c.in_ok-patterns.ensures.read c.in_ok-passed.ensures.read (c.in_err-parts.ensures.read memory))

pub returns-in_err-from-clause-read : goal.returns-in_err-from-clause-read
returns-in_err-from-clause-read c =
    let bytes = c.args.reader.now.text.now in
    let net = c.args.reader.now.whole.now.net.now in
    let known = plain_names c.args.reader.now.known.now in
    rw (passed_on c.from_residual-in_err-from.result c.from_residual-in_err-from.ensures.1)
    (λ memory. statement_unclaimed bytes net known _ _ _ _ (plain_patterns c.in_ok-patterns.patterns)
    (parts_value c.in_ok-parts.parts) _ c.in_ok-patterns.ensures.read c.in_ok-passed.ensures.read c.in_ok-parts.ensures.read
    (c.in_err-from.ensures.read memory))

pub returns-clause-read : goal.returns-clause-read
returns-clause-read c =
    let bytes = c.args.reader.now.text.now in
    let net = c.args.reader.now.whole.now.net.now in
    let known = plain_names c.args.reader.now.known.now in
    statement_read bytes net known _ _ _ _ _ _ (plain_patterns c.in_ok-patterns.patterns)
    (parts_value c.in_ok-parts.parts) c.in_ok-from.from c.judged.result c.in_ok-patterns.ensures.read c.in_ok-passed.ensures.read
    c.in_ok-parts.ensures.read c.in_ok-from.ensures.read c.in_ok-passed-2.ensures.read
    (λ s governs ranked claims. c.judged.ensures bytes net known s governs ranked claims)
