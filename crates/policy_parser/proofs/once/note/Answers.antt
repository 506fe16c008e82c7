use Rattle.std.proofs.Common.{◌∙◌, ap, not, sym}
use Rattle.net_base.specs.Prefixes.{same_prefix}
use Rattle.policy_rules.specs.PrefixKeys.{prefix_of}
use Rattle.list_law.proofs.Tests.{list_any-map}
use Rattle.policy_parser.proofs.once.note.Goals as goal

pub returns-clause-fresh : goal.returns-clause-fresh
returns-clause-fresh c =
    let added = rw (c.bits.ensures.bits, c.len.ensures.len) at c.in_ok-insert.ensures.added in
    added ∙ ap not (sym (list_any-map (same_prefix c.args.prefix) prefix_of c.args.before.now.keys))
