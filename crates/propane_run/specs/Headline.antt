-- What a run of `compile`, or of `evidence`, that ends with Done has written, and for what.
use Rattle.std.specs.Prelude.{◌≡◌, ℕ, List, [], ◌∷◌, Option, codes}
use Rattle.net_base.specs.Network.{PlainNet}
use Rattle.policy_base.specs.Policies.{PlainPolicy}
use Rattle.config_base.specs.Configs.{PlainConfig}
use Rattle.claim_law.specs.Claim.{KeepsPolicy}
use Rattle.text_law.specs.ConfigText.{IsTextOf}
use Rattle.text_law.specs.PolicyText.{MeansPolicy}
use Rattle.evidence_text.specs.Text.{evidence_text}
use Rattle.topology_law.specs.TopologyText.{MeansNet}
use Rattle.propane_run.specs.declared.command.Command.TheVariants.{Evidence}
use Rattle.propane_run.specs.Asked.{AsksFor}
use Rattle.propane_run.specs.Compilation.{Compilation}
use Rattle.run_base.specs.Reading.{Holds, AllHeld}
use Rattle.run_base.specs.Said.{Whole}

-- The words are this word and some names, under which lie the text of this network, that of this policy for it, and these texts.
pub record NamesTexts (holds : Holds) (word : List ℕ) (words : List (List ℕ)) (net : PlainNet) (policy : PlainPolicy) (more : List (List ℕ)) : Type 0 where
  pub names : List (List ℕ)
  pub said : words ≡ word ∷ names
  pub topology : List ℕ
  pub policy_text : List ℕ
  pub held : AllHeld holds names (topology ∷ policy_text ∷ more)
  pub net_meant : MeansNet topology net
  pub policy_meant : MeansPolicy net policy_text policy

-- The words are `compile` and the names of a topology and of a policy. `out` grew by exactly the text of a configuration, which keeps
-- the policy in the network.
pub record CompilesRight {O : Type 0} (holds : Holds) (taken : O → Option (List ℕ)) (words : List (List ℕ)) (out out' : O) : Type 0 where
  pub net : PlainNet
  pub policy : PlainPolicy
  pub asked : NamesTexts holds (codes "compile") words net policy []
  pub bytes : List ℕ
  pub written : Whole taken bytes out out'
  pub config : PlainConfig
  pub text : IsTextOf bytes config
  pub keeps : KeepsPolicy net policy config

-- `out` grew by exactly the text of the evidence of what is compiled from the policy that was asked for. It passes for the
-- configuration, which keeps the policy in the network.
pub record GivesEvidence {O : Type 0} (holds : Holds) (taken : O → Option (List ℕ)) (words : List (List ℕ)) (out out' : O) : Type 0 where
  pub net : PlainNet
  pub policy : PlainPolicy
  pub asked : AsksFor holds words Evidence net policy
  pub made : Compilation net policy
  pub written : Whole taken (evidence_text made.evidence) out out'
