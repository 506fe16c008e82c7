-- What is compiled keeps the policy.
use Rattle.std.specs.Prelude.{List}
use Rattle.net_base.specs.Network.{PlainNet, IsNet}
use Rattle.policy_base.specs.Policies.{PlainPolicy, IsPolicyOf}
use Rattle.config_base.specs.Configs.{PlainConfig}
use Rattle.evidence_base.specs.Made.{PlainCaseEvidence}
use Rattle.claim_law.proofs.Claim.{passing_evidence_keeps_policy, passing_evidence_keeps_it_at_work}
use Rattle.compile_jobs.specs.Compiled.{IsCompiled}
use Rattle.propane_run.specs.Compilation.{Compilation}

abbrev pub compilation : (net : PlainNet) (policy : PlainPolicy) (config : PlainConfig) (evidence : List PlainCaseEvidence) → IsNet net
    → IsPolicyOf net policy → IsCompiled net policy config evidence → Compilation net policy
compilation net policy config evidence rules fits compiled = record {
  config = config;
  evidence = evidence;
  compiled = compiled;
  keeps = passing_evidence_keeps_policy net policy config evidence rules fits compiled.1;
  at_work = passing_evidence_keeps_it_at_work net policy config evidence rules fits compiled.1;
}
