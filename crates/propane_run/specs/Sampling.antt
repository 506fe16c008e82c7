-- What a run of `sample` that ends with Done has written.
use Rattle.std.specs.Prelude.{ℕ, List, Option}
use Rattle.config_base.specs.Configs.{PlainConfig}
use Rattle.evidence_base.specs.Made.{PlainCaseEvidence}
use Rattle.evidence_summary.specs.Summary.{summary_text}
use Rattle.sample_network.specs.Network.{sample_net}
use Rattle.sample_network.specs.SamplePolicy.{sample_policy}
use Rattle.compile_jobs.specs.Compiled.{IsCompiled}
use Rattle.run_base.specs.Said.{Whole}

-- `out` grew by exactly the summary of the sample's network and of evidence that passes with the configuration which is compiled
-- from its policy.
pub record Samples {O : Type 0} (taken : O → Option (List ℕ)) (n : ℕ) (out out' : O) : Type 0 where
  pub config : PlainConfig
  pub evidence : List PlainCaseEvidence
  pub compiled : IsCompiled (sample_net n) (sample_policy n) config evidence
  pub written : Whole taken (summary_text n (sample_net n) evidence) out out'
