use Rattle.std.proofs.Common.{rules}
use Rattle.policy_base.specs.Policies.{policy_of}
use Rattle.compile_jobs.specs.Compiling.{SaysOfCompiled}
use Rattle.run_base.specs.Said.{IsGiven, said}
use Rattle.compile_jobs.specs.Sampled.{WritesSummary}
use Rattle.compile_jobs.proofs.SampleLaws.{given_for}
use Rattle.compile_jobs.proofs.sample.summary_text.Goals as goal

pub returns-in_err-evidence : goal.returns-in_err-evidence
returns-in_err-evidence c =
    let given : IsGiven (SaysOfCompiled (WritesSummary c.args.leaves) c.args.net.now (policy_of c.args.policy.now)) (said c.from_residual.result) = search rules in
    given_for c.args.leaves c.args.net.now (policy_of c.args.policy.now) c.requires.net c.requires.policy (said c.from_residual.result) given
