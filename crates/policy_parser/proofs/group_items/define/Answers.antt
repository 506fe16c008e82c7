use Rattle.policy_rules.specs.KnownView.{plain_names}
use Rattle.policy_parser.proofs.ReadItemValues.{group_read}
use Rattle.policy_parser.proofs.group_items.define.Goals as goal

pub returns-clause-read : goal.returns-clause-read
returns-clause-read c =
    λ net. group_read c.args.reader.now.text.now net
    (plain_names c.args.reader.now.known.now) _ c.in_ok-name.name _ _ _ _ c.in_ok-set.set c.in_ok-name.ensures.read c.in_ok-passed.ensures.read
    c.in_ok-set.ensures.read c.in_ok-passed-2.ensures.read
