-- What is said of a network and a policy, where a part of what is compiled is written.
use Rattle.std.specs.Prelude.{◌≡◌, ℕ, List}
use Rattle.net_base.specs.Network.{PlainNet}
use Rattle.policy_base.specs.Policies.{PlainPolicy}
use Rattle.config_base.specs.Configs.{PlainConfig}
use Rattle.config_text.specs.Spelled.{Spells}
use Rattle.evidence_base.specs.Made.{PlainCaseEvidence}
use Rattle.evidence_text.specs.Text.{evidence_text}
use Rattle.run_base.specs.Said.{Said}
use Rattle.compile_jobs.specs.declared.written.Part.{Part}
use Rattle.compile_jobs.specs.declared.written.Part.TheVariants.{Config, Evidence}
use Rattle.compile_jobs.specs.Compiling.{SaysOfCompiled}

-- a text that spells the configuration; or the text of the evidence
abbrev pub WritesPart : Part → PlainConfig → List PlainCaseEvidence → List ℕ → Type 0
WritesPart Config config evidence bytes = Spells bytes config
WritesPart Evidence config evidence bytes = bytes ≡ evidence_text evidence

-- such a text of what is compiled from the policy, or the line of a refusal that applies to it
abbrev pub SaysOfPart : Part → PlainNet → PlainPolicy → Said → Type 0
SaysOfPart part = SaysOfCompiled (WritesPart part)
