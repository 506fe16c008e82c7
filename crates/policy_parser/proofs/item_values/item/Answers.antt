use Rattle.std.proofs.Common.{refl, ◌∙◌}
use Rattle.list_law.proofs.Exits.{passed_on}
use Rattle.policy_rules.specs.KnownView.{plain_names}
use Rattle.policy_parser.proofs.ItemKinds.{defined, group_item, origin_item, statement_item}
use Rattle.policy_parser.proofs.item_values.item.Goals as goal

pub returns-in_err-define-clause-read : goal.returns-in_err-define-clause-read
returns-in_err-define-clause-read c =
    rw (passed_on c.from_residual.result c.from_residual.ensures.1) (λ memory. defined _ _ _ (c.if-past.ensures.here refl) ∙ c.in_err-define.ensures.read c.args.reader.now.whole.now.net.now memory)

pub returns-then-past-clause-read : goal.returns-then-past-clause-read
returns-then-past-clause-read c =
    let net = c.args.reader.now.whole.now.net.now in
    group_item c.args.reader.now.text.now net (plain_names c.args.reader.now.known.now) _ _ _ _ c.in_ok-define.field-0 (c.if-past.ensures.here refl) (c.in_ok-define.ensures.read net)

pub returns-then-past-2-clause-read : goal.returns-then-past-2-clause-read
returns-then-past-2-clause-read c =
    let away = c.if-past.ensures.away refl in
    let here = rw away.1 at c.if-past-2.ensures.here refl in
    origin_item c.args.reader.now.text.now c.args.reader.now.whole.now.net.now (plain_names c.args.reader.now.known.now) _ _ _ _ c.in_ok-originate.field-0 away.0 here c.in_ok-originate.ensures.read

pub returns-clause-read : goal.returns-clause-read
returns-clause-read c =
    let away = c.if-past.ensures.away refl in
    let nor = c.if-past-2.ensures.away refl in
    let absent = rw away.1 at nor.0 in
    let read = rw (nor.1, away.1) at c.in_ok-statement.ensures.read in
    statement_item c.args.reader.now.text.now c.args.reader.now.whole.now.net.now (plain_names c.args.reader.now.known.now) _ _ c.in_ok-statement.field-0 away.0 absent read
