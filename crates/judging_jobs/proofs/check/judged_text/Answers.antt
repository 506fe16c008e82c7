use Rattle.std.proofs.Common.{ap, inr, refl}
use Rattle.policy_base.specs.Policies.{policy_of}
use Rattle.evidence_verdicts.specs.declared.verdict.Verdict.TheVariants.{Fails, Holds}
use Rattle.run_base.specs.Said.{failing, text}
use Rattle.judging_jobs.proofs.Judging.{held, judged}
use Rattle.judging_jobs.proofs.check.judged_text.Goals as goal

pub returns-in_ok-holds_line-in-Holds : goal.returns-in_ok-holds_line-in-Holds
returns-in_ok-holds_line-in-Holds c =
    let verdict = rw c.in-Holds.is at c.in_ok-check_text.ensures.verdict in
    let spelled = (rw c.in-Holds.is at c.in_ok-check_text.ensures.spells) refl in
    held c.args.net.now (policy_of c.args.policy.now) c.args.config.now c.args.evidence.now Holds verdict _ spelled (inr (ap text c.in_ok-holds_line-in-Holds.ensures))

pub returns-in_ok-fails_line-in-Fails : goal.returns-in_ok-fails_line-in-Fails
returns-in_ok-fails_line-in-Fails c =
    let verdict = rw c.in-Fails.is at c.in_ok-check_text.ensures.verdict in
    judged c.args.net.now (policy_of c.args.policy.now) c.args.config.now c.args.evidence.now
    (Fails c.in-Fails.rule c.in-Fails.shown) verdict _ c.in_ok-_config-in-Fails._config c.requires.short c.in_ok-_config-in-Fails.ensures
    (inr (ap failing c.in_ok-fails_line-in-Fails.ensures))
