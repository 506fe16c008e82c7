use Rattle.std.proofs.Common.{rules}
use Rattle.policy_base.specs.Policies.{policy_of}
use Rattle.scenarios.specs.Scenarios.{failures_of}
use Rattle.table_audit.proofs.Telling.{stable_is_told}
use Rattle.table_audit.specs.Verdicts.{IsVerdict}
use Rattle.table_audit.proofs.judge.audit.Goals as goal

pub returns-clause-stable : goal.returns-clause-stable
returns-clause-stable c =
    let told : IsVerdict c.args.net.now (policy_of c.args.policy.now) c.args.config.now (failures_of c.args.scenario.now) c.args.scenario.now.prefix
    c.args.outcome.now.routes c.first_fault.result =
    search rules in
    stable_is_told c.args.net.now (policy_of c.args.policy.now) c.args.config.now (failures_of c.args.scenario.now) c.args.scenario.now.prefix
    c.args.outcome.now.routes c.first_fault.result c.requires told
