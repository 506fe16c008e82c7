-- Of which configuration, evidence, scenario and routes the texts under names ask.
use Rattle.std.specs.Prelude.{◌≡◌, ℕ, List, [], ◌∷◌, Ok}
use Rattle.net_base.specs.Network.{PlainNet}
use Rattle.policy_base.specs.Policies.{PlainPolicy}
use Rattle.config_base.specs.Configs.{PlainConfig}
use Rattle.config_reader.specs.Text.{spelled as config_spelled_by}
use Rattle.evidence_base.specs.Made.{PlainCaseEvidence}
use Rattle.evidence_text.specs.Spelled.{spelled as evidence_spelled_by}
use Rattle.outcome_base.specs.Outcomes.{Outcome}
use Rattle.scenario_reader.specs.Spelled.{spelled as scenario_spelled_by}
use Rattle.scenarios.specs.declared.scenario.Scenario.{Scenario}
use Rattle.table_reader.specs.Spelled.{spelled as tables_spelled_by}
use Rattle.run_base.specs.Reading.{Holds}
use Rattle.input_texts.specs.Asked.{SpellFor}

-- what is audited
pub record Audited : Type 0 where
  pub config : PlainConfig
  pub evidence : List PlainCaseEvidence
  pub scenario : Scenario
  pub routes : Outcome

-- The first two spell a network and a policy for it, and the bytes of the other four names a configuration, evidence, and a scenario
-- and tables for the network.
pub record SpellAudit (holds : Holds) (names : List (List ℕ)) (net : PlainNet) (policy : PlainPolicy) (a : Audited) : Type 0 where
  pub spell : SpellFor holds names net policy
  pub config_text : List ℕ
  pub evidence_text : List ℕ
  pub scenario_text : List ℕ
  pub tables_text : List ℕ
  pub more : spell.more ≡ config_text ∷ evidence_text ∷ scenario_text ∷ tables_text ∷ []
  pub config_spelled : config_spelled_by config_text ≡ Ok a.config
  pub evidence_spelled : evidence_spelled_by evidence_text ≡ Ok a.evidence
  pub scenario_spelled : scenario_spelled_by net scenario_text ≡ Ok a.scenario
  pub tables_spelled : tables_spelled_by net tables_text ≡ Ok a.routes
