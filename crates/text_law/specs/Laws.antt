-- That what is read and written meets these definitions.
use Rattle.std.specs.Prelude.{◌≡◌, ℕ, List, Ok}
use Rattle.net_base.specs.Network.{PlainNet}
use Rattle.policy_base.specs.Policies.{PlainPolicy}
use Rattle.config_base.specs.Configs.{PlainConfig}
use Rattle.config_text.specs.Spelled.{Spells}
use Rattle.policy_parser.specs.Spelled.{spelled}
use Rattle.text_law.specs.PolicyText.{MeansPolicy}
use Rattle.text_law.specs.ConfigText.{IsTextOf}

-- a text that is read as a policy means it
abbrev pub ReadPoliciesAreMeant : Type 0
ReadPoliciesAreMeant = (net : PlainNet) (bytes : List ℕ) (policy : PlainPolicy) → spelled net bytes ≡ Ok policy → MeansPolicy net bytes policy

-- a text means one policy at most
abbrev pub TextsMeanOne : Type 0
TextsMeanOne = (net : PlainNet) (bytes : List ℕ) (p q : PlainPolicy) → MeansPolicy net bytes p → MeansPolicy net bytes q → p ≡ q

-- a text that spells a configuration is its text
abbrev pub SpellingsAreTexts : Type 0
SpellingsAreTexts = (bytes : List ℕ) (c : PlainConfig) → Spells bytes c → IsTextOf bytes c

-- no bytes are the text of two configurations
abbrev pub TextsAreOfOne : Type 0
TextsAreOfOne = (bytes : List ℕ) (c d : PlainConfig) → IsTextOf bytes c → IsTextOf bytes d → c ≡ d
