use Rattle.std.proofs.Common.{◌≡◌, refl, rules}
use Rattle.policy_base.specs.Policies.{policy_of}
use Rattle.scenarios.specs.Scenarios.{failures_of}
use Rattle.scenarios.proofs.Settled.{settled_more, stable-from_settled}
use Rattle.scenarios.proofs.situation.Situation.are_settled.Goals as goal

pub loop-at-preserved : goal.loop-at-preserved
loop-at-preserved c =
    let s = c.args.self.now in
    let at : c.new.result ≡ c.loop-at.at = search rules in
    record {
      few = c.loop-at.invariant.few;
      before =
          settled_more s.net.now (policy_of s.policy.now) s.config.now (failures_of s.scenario.now) s.scenario.now.prefix s.outcome.now.routes
          c.loop-at.at c.new.result at c.loop-at.invariant.before (c.is_settled.ensures.0 (search rules));
    }

pub returns : goal.returns
returns c =
    let s = c.args.self.now in (
      λ t.
          stable-from_settled s.net.now (policy_of s.policy.now) s.config.now (failures_of s.scenario.now) s.scenario.now.prefix s.outcome.now.routes
          c.requires.size (λ r low. c.loop-at.invariant.before r (search rules)),
      λ both. refl,
    )
