-- What `impact` says of a network, a policy and a prefix.
use Rattle.std.specs.Prelude.{◌≡◌, ℕ, List}
use Rattle.net_base.specs.Network.{PlainNet}
use Rattle.net_base.specs.Prefixes.{PlainPrefix}
use Rattle.policy_base.specs.Policies.{PlainPolicy}
use Rattle.config_base.specs.Configs.{PlainConfig}
use Rattle.evidence_base.specs.Made.{PlainCaseEvidence}
use Rattle.compile_jobs.specs.Compiling.{SaysOfCompiled}
use Rattle.impact_law.specs.Impacts.{IsImpact}
use Rattle.outcome_base.specs.Outcomes.{no_failures}
use Rattle.impact_law.specs.declared.impact.Impact.{Impact}
use Rattle.impact_report.specs.Texts.{impact_text}
use Rattle.input_texts.specs.Texts.{OfTwoTexts}
use Rattle.run_base.specs.Said.{Said}

-- The text is that of the impact of single cuts, while nothing else fails, on the sources that the policy claims for the prefix.
pub record IsImpactText (net : PlainNet) (policy : PlainPolicy) (config : PlainConfig) (p : PlainPrefix) (bytes : List ℕ) : Type 0 where
  pub impact : Impact
  pub is : IsImpact net policy no_failures p impact
  pub spelled : bytes ≡ impact_text net config p impact

-- that text for the configuration
abbrev pub WritesImpact : PlainNet → PlainPolicy → PlainPrefix → PlainConfig → List PlainCaseEvidence → List ℕ → Type 0
WritesImpact net policy p config evidence bytes = IsImpactText net policy config p bytes

-- the text of the impact, or the line of a refusal that applies to the policy
abbrev pub SaysOfPolicy : PlainPrefix → PlainNet → PlainPolicy → Said → Type 0
SaysOfPolicy p net policy = SaysOfCompiled (WritesImpact net policy p) net policy

-- and of two texts
abbrev pub SaysOfTexts : PlainPrefix → List (List ℕ) → Said → Type 0
SaysOfTexts p = OfTwoTexts (SaysOfPolicy p)
