-- What `compare` says of a network and of two policies for it.
use Rattle.std.specs.Prelude.{◌≡◌, ◌⊎◌, ℕ, ◌<◌, ◌^◌, List, [], ◌∷◌, codes, length}
use Rattle.net_base.specs.Network.{PlainNet}
use Rattle.policy_base.specs.Policies.{PlainPolicy}
use Rattle.policy_tokens.specs.declared.fault.PolicyFault.{PolicyFault}
use Rattle.policy_parser.specs.Spelled.{spelled as policy_spelled}
use Rattle.topology.specs.Topology.{spelled}
use Rattle.run_base.specs.declared.outcome.Status.TheVariants.{Refused}
use Rattle.run_base.specs.Said.{Said, text, line}
use Rattle.input_texts.specs.FaultLines.{named_policy_line, topology_line}
use Rattle.input_texts.specs.Texts.{OfRead}
use Rattle.comparison.specs.declared.values.ComparedPair.{ComparedPair}
use Rattle.comparison_law.specs.Comparisons.{IsComparison}
use Rattle.comparison_maker.specs.declared.refusal.ComparisonRefusal.{ComparisonRefusal}
use Rattle.comparison_maker.specs.Refusals.{AreComparable, IsRefusedFor}
use Rattle.compare_report.specs.Changes.{compare_text}
use Rattle.compare_jobs.specs.Refused.{IsLimit, refusal_line}

-- ---- lines

-- the fault of the old policy's text, and of the new one's
abbrev pub old_line : PolicyFault → List ℕ
old_line = named_policy_line (codes "old policy")

abbrev pub new_line : PolicyFault → List ℕ
new_line = named_policy_line (codes "new policy")

-- ---- what is said

-- No limit is passed, and the text tells all that the new policy changes beside the old one.
pub record IsCompared (net : PlainNet) (old new : PlainPolicy) (bytes : List ℕ) : Type 0 where
  pub within : AreComparable net old new
  pub pairs : List ComparedPair
  pub few : length pairs < 2 ^ 64
  pub are : IsComparison net old new pairs
  pub told : bytes ≡ compare_text net old new pairs

-- this is the limit that is passed first
abbrev pub IsPastLimit : PlainNet → PlainPolicy → PlainPolicy → ComparisonRefusal → Type 0
IsPastLimit net old new e = IsRefusedFor net old new e × IsLimit e

-- its line is said
abbrev pub SaysRefusal : PlainNet → PlainPolicy → PlainPolicy → Said → Type 0
SaysRefusal net old new what = (e : ComparisonRefusal) × IsPastLimit net old new e × (what ≡ line Refused (refusal_line net e))

-- the text of the comparison, or that
abbrev pub SaysOfPolicies : PlainNet → PlainPolicy → PlainPolicy → Said → Type 0
SaysOfPolicies net old new what = ((bytes : List ℕ) × IsCompared net old new bytes × (what ≡ text bytes)) ⊎ SaysRefusal net old new what

-- The old policy is read for the network, and then the new one. What is wrong first is said, or what follows from both.
abbrev pub SaysOfPair : List ℕ → List ℕ → PlainNet → Said → Type 0
SaysOfPair old_text new_text net what =
    OfRead old_line (policy_spelled net old_text) (λ old. OfRead new_line (policy_spelled net new_text) (SaysOfPolicies net old)) what

-- The topology is read before them.
abbrev pub SaysOfThree : List ℕ → List ℕ → List ℕ → Said → Type 0
SaysOfThree topology old_text new_text what = OfRead topology_line (spelled topology) (SaysOfPair old_text new_text) what

-- where these are the three texts that were read
abbrev pub SaysOfTexts : List (List ℕ) → Said → Type 0
SaysOfTexts (topology ∷ old_text ∷ new_text ∷ []) what = SaysOfThree topology old_text new_text what
SaysOfTexts _ what = ⊥
