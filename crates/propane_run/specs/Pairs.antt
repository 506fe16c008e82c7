-- What `compile` and `evidence` write of the same texts.
use Rattle.std.specs.Prelude.{◌≡◌, ℕ, List, Ok}
use Rattle.net_base.specs.Network.{PlainNet}
use Rattle.policy_base.specs.Policies.{PlainPolicy}
use Rattle.config_base.specs.Configs.{PlainConfig}
use Rattle.config_text.specs.Spelled.{Spells}
use Rattle.evidence_base.specs.Made.{PlainCaseEvidence}
use Rattle.evidence_text.specs.Text.{evidence_text}
use Rattle.evidence_law.specs.Passes.{Passes}
use Rattle.topology.specs.Topology.{spelled as net_spelled_by}
use Rattle.policy_parser.specs.Spelled.{spelled as policy_spelled_by}

-- The first two texts spell a network and a policy for it, the third a configuration, and the fourth is the text of evidence that
-- passes for this configuration.
pub record ArePair (topology policy_text config_written evidence_written : List ℕ) : Type 0 where
  pub net : PlainNet
  pub policy : PlainPolicy
  pub net_spelled : net_spelled_by topology ≡ Ok net
  pub policy_spelled : policy_spelled_by net policy_text ≡ Ok policy
  pub config : PlainConfig
  pub config_spelled : Spells config_written config
  pub evidence : List PlainCaseEvidence
  pub evidence_is : evidence_written ≡ evidence_text evidence
  pub passes : Passes net policy config evidence
