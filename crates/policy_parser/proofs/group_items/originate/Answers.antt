use Rattle.policy_rules.specs.KnownView.{plain_names}
use Rattle.policy_parser.proofs.ReadItemValues.{origin_read}
use Rattle.policy_parser.proofs.group_items.originate.Goals as goal

pub returns-clause-read : goal.returns-clause-read
returns-clause-read c =
    origin_read c.args.reader.now.text.now c.args.reader.now.whole.now.net.now
    (plain_names c.args.reader.now.known.now) _ c.in_ok-figure.figure _ _ _ _ c.in_ok-names.names c.prefix_at.result c.in_ok-figure.ensures.read
    c.in_ok-passed.ensures.read c.in_ok-names.ensures.read c.in_ok-passed-2.ensures.read c.prefix_at.ensures
