use Rattle.std.proofs.Common.{◌≡◌, rules}
use Rattle.policy_base.specs.Policies.{policy_of}
use Rattle.scenarios.specs.Scenarios.{failures_of}
use Rattle.scenarios.proofs.Settled.{settled_more}
use Rattle.table_audit.proofs.judge.first_fault.Goals as goal

pub loop-at-preserved : goal.loop-at-preserved
loop-at-preserved c =
    let s = c.args.situation.now in
    let at : c.new.result ≡ c.loop-at.at = search rules in
    record {
      few = c.loop-at.invariant.few;
      before =
          settled_more s.net.now (policy_of s.policy.now) s.config.now (failures_of s.scenario.now) s.scenario.now.prefix s.outcome.now.routes
          c.loop-at.at c.new.result at c.loop-at.invariant.before c.in_default.ensures;
    }
