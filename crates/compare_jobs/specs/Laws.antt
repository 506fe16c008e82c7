-- What the text of a comparison tells a reader.
use Rattle.std.specs.Prelude.{◌≡◌, ◌↔◌, ℕ, ◌<◌, ◌^◌, IsTrue, List}
use Rattle.list_law.specs.Members.{IsIn}
use Rattle.net_base.specs.Network.{PlainNet, IsNet}
use Rattle.net_base.specs.Prefixes.{PlainPrefix, IsPrefix}
use Rattle.policy_base.specs.Policies.{IsPolicyOf, PlainPolicy}
use Rattle.config_base.specs.Configs.{PlainConfig}
use Rattle.outcome_base.specs.Right.{IsRight}
use Rattle.compare_base.specs.Ranks.{IsAlike, IsSame}
use Rattle.comparison.specs.Changed.{is_changed}
use Rattle.comparison.specs.declared.values.ComparedPair.{ComparedPair}
use Rattle.comparison_law.specs.Laws.{IsUnlike, HaveSets, IsUntold}
use Rattle.compare_report.specs.Changes.{last_line}
use Rattle.compare_jobs.specs.Compared.{IsCompared}

-- Two policies have one text.
abbrev pub ComparedTextsAreOne : Type 0
ComparedTextsAreOne =
    (net : PlainNet) (old new : PlainPolicy) (one other : List ℕ) → IsPolicyOf net old → IsPolicyOf net new → IsCompared net old new one → IsCompared net old new other
    → one ≡ other

-- one configuration serves both policies or neither
abbrev pub AreServedAlike : PlainNet → PlainPolicy → PlainPolicy → Type 0
AreServedAlike net old new = (config : PlainConfig) → IsRight net old config ↔ IsRight net new config

-- Where the text is `cases N changed 0` the policies say the same of every prefix, and a configuration is right for the one exactly where it
-- is right for the other.
abbrev pub UnchangedTextsTellSamePolicies : Type 0
UnchangedTextsTellSamePolicies =
    (net : PlainNet) (old new : PlainPolicy) (bytes : List ℕ) (n : ℕ) → IsNet net → IsCompared net old new bytes → n < 2 ^ 64 → bytes ≡ last_line n 0
    → IsSame net old new × AreServedAlike net old new

-- Where they say the same of every prefix that is the text, with some count of cases. The origins of both are sets, as those of every policy that is read.
abbrev pub SamePoliciesAreTold : Type 0
SamePoliciesAreTold =
    (net : PlainNet) (old new : PlainPolicy) (bytes : List ℕ) → IsNet net → HaveSets old → HaveSets new → IsCompared net old new bytes → IsSame net old new
    → (n : ℕ) × (n < 2 ^ 64) × (bytes ≡ last_line n 0)

-- Of a prefix whose pair isn't told both say the same.
abbrev pub UntoldPrefixesAreAlike : Type 0
UntoldPrefixesAreAlike =
    (net : PlainNet) (old new : PlainPolicy) (bytes : List ℕ) (p : PlainPrefix) → IsNet net → (compared : IsCompared net old new bytes) → IsPrefix p
    → IsUntold net old new compared.pairs p → IsAlike net old new p

-- And each pair that is told differs: it has a prefix, of which they don't say the same.
abbrev pub ToldPairsDiffer : Type 0
ToldPairsDiffer =
    (net : PlainNet) (old new : PlainPolicy) (bytes : List ℕ) (x : ComparedPair) → IsNet net → HaveSets old → HaveSets new → (compared : IsCompared net old new bytes)
    → IsIn compared.pairs x → IsTrue (is_changed net x) → IsUnlike net old new x
