use Rattle.std.proofs.Common.{List, subst}
use Rattle.policy_base.specs.Policies.{policy_of}
use Rattle.evidence_base.specs.Made.{PlainCaseEvidence}
use Rattle.run_base.specs.Said.{IsGiven, said}
use Rattle.judging_jobs.specs.Checked.{OfConfigText, SaysOfPair}
use Rattle.judging_jobs.proofs.Judging.{of_both}
use Rattle.judging_jobs.proofs.check.pair_text.Goals as goal

pub returns-in-Ok : goal.returns-in-Ok
returns-in-Ok c =
    let says = SaysOfPair c.args.net.now (policy_of c.args.policy.now) in
    of_both says c.args.config.now c.args.evidence.now c.in-Ok.evidence.cases (said c.judged_text.result) c.in-Ok.ensures
    (subst (λ (cs : List PlainCaseEvidence). IsGiven (OfConfigText says c.args.config.now cs) (said c.judged_text.result)) c.as_slice.ensures c.judged_text.ensures)
