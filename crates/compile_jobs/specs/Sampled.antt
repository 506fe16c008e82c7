-- What `sample` says of a number.
use Rattle.std.specs.Prelude.{◌≡◌, ℕ, List}
use Rattle.config_base.specs.Configs.{PlainConfig}
use Rattle.evidence_base.specs.Made.{PlainCaseEvidence}
use Rattle.evidence_summary.specs.Summary.{summary_text}
use Rattle.sample_network.specs.Network.{sample_net}
use Rattle.sample_network.specs.SamplePolicy.{sample_policy}
use Rattle.compile_jobs.specs.Compiling.{SaysOfCompiled}
use Rattle.run_base.specs.Said.{Said}

-- the summary of the network and of the evidence
abbrev pub WritesSummary : ℕ → PlainConfig → List PlainCaseEvidence → List ℕ → Type 0
WritesSummary n config evidence bytes = bytes ≡ summary_text n (sample_net n) evidence

-- the summary of what is compiled from the sample's policy, or the line of a refusal that applies to it
abbrev pub SaysOfNumber : ℕ → Said → Type 0
SaysOfNumber n = SaysOfCompiled (WritesSummary n) (sample_net n) (sample_policy n)
