-- What a run of `audit` has written, and for what.
use Rattle.std.specs.Prelude.{◌≡◌, ℕ, List, [], ◌∷◌, Ok, Option}
use Rattle.net_base.specs.Network.{PlainNet}
use Rattle.policy_base.specs.Policies.{PlainPolicy}
use Rattle.claim_law.specs.Claim.{KeepsPolicy, IsKeptAtWork}
use Rattle.config_reader.specs.Text.{spelled as config_spelled_by}
use Rattle.evidence_text.specs.Spelled.{spelled as evidence_spelled_by}
use Rattle.scenario_reader.specs.Spelled.{spelled as scenario_spelled_by}
use Rattle.table_reader.specs.Spelled.{spelled as tables_spelled_by}
use Rattle.run_base.specs.Reading.{Holds}
use Rattle.run_base.specs.Said.{Whole}
use Rattle.judging_jobs.specs.Asked.{Audited}
use Rattle.judging_jobs.specs.Audits.{IsAudited, IsAuditFault}
use Rattle.propane_run.specs.declared.command.Command.TheVariants.{Audit}
use Rattle.propane_run.specs.Asked.{AsksFor}

-- The words are `audit`, and the bytes of the six names that it reads spell this network, this policy for it, and this
-- configuration, evidence, scenario and tables.
pub record AsksAudit (holds : Holds) (words : List (List ℕ)) (net : PlainNet) (policy : PlainPolicy) (audited : Audited) : Type 0 where
  pub asked : AsksFor holds words Audit net policy
  pub config_text : List ℕ
  pub evidence_text : List ℕ
  pub scenario_text : List ℕ
  pub tables_text : List ℕ
  pub more : asked.more ≡ config_text ∷ evidence_text ∷ scenario_text ∷ tables_text ∷ []
  pub config_spelled : config_spelled_by config_text ≡ Ok audited.config
  pub evidence_spelled : evidence_spelled_by evidence_text ≡ Ok audited.evidence
  pub scenario_spelled : scenario_spelled_by net scenario_text ≡ Ok audited.scenario
  pub tables_spelled : tables_spelled_by net tables_text ≡ Ok audited.routes

-- `out` grew by exactly a text that says that the tables are stable, with their report. The evidence passes, and the tables are stable
-- and right for the network, the policy and the configuration, under the failures of the scenario. The configuration keeps the policy, also
-- at work.
pub record AuditsRight {O : Type 0} (holds : Holds) (taken : O → Option (List ℕ)) (words : List (List ℕ)) (out out' : O) : Type 0 where
  pub net : PlainNet
  pub policy : PlainPolicy
  pub audited : Audited
  pub asked : AsksAudit holds words net policy audited
  pub bytes : List ℕ
  pub written : Whole taken bytes out out'
  pub shown : IsAudited net policy audited bytes
  pub keeps : KeepsPolicy net policy audited.config
  pub at_work : IsKeptAtWork net policy audited.config

-- `out` grew by exactly the line of why the audit fails: the first rule that fails of the evidence, or where it passes the first router
-- that isn't stable.
pub record TellsAuditFault {O : Type 0} (holds : Holds) (taken : O → Option (List ℕ)) (words : List (List ℕ)) (out out' : O) : Type 0 where
  pub net : PlainNet
  pub policy : PlainPolicy
  pub audited : Audited
  pub asked : AsksAudit holds words net policy audited
  pub line : List ℕ
  pub written : Whole taken line out out'
  pub shown : IsAuditFault net policy audited line
