use Rattle.std.specs.Prelude.{◌==◌}
use Rattle.policy_lint.specs.declared.finding.Finding.TheVariants.{UnusedGroup}
use Rattle.policy_lint.specs.Groups.{count_of}
use Rattle.policy_lint.proofs.Telling.{kept_next}
use Rattle.policy_lint.proofs.groups.push_once.Goals as goal

pub loop-name-preserved : goal.loop-name-preserved
loop-name-preserved c =
    kept_next UnusedGroup
    (λ name. count_of c.args.counts.now name == 1) c.args.names.now c.loop-name.name-index c.name-item.result c.args.findings.now.items c.loop-name.findings.items c.push_if.new.findings.items
    c.stands_once.result c.loop-name-test.true c.name-item.is c.loop-name.invariant c.stands_once.ensures c.in_ok-push_if.ensures
