-- The ten rules, each said of a case and of nodes of it.
use Rattle.std.specs.Prelude.{◌≡◌, ◌⊎◌, ℕ, zero, suc, ◌<◌, IsTrue, false, List, length, take, Option, Some, None, option_map, slice_get, IsSome, codes}
use Rattle.net_base.specs.Network.{PlainNet, is_peer, asn_of}
use Rattle.net_base.specs.Numbers.{is_tag, no_tag}
use Rattle.net_base.specs.Sets.{holds}
use Rattle.policy_base.specs.declared.case.Case.{Case}
use Rattle.policy_base.specs.Cases.{case_list}
use Rattle.policy_base.specs.Policies.{PlainPolicy, PlainStatement, statement_at}
use Rattle.graph_base.specs.Graphs.{IsGraph}
use Rattle.graph_base.specs.Runs.{place_of, rank_at}
use Rattle.graph_base.specs.Rules.{KeepsRank, KeepsStep, KeepsLoop, KeepsListener}
use Rattle.evidence_base.specs.Made.{PlainCaseEvidence, case_at, number_at, tag_at}
use Rattle.evidence_law.specs.Faithful.{HasWalks, HasRank}
use Rattle.evidence_law.specs.Passes.{IsClaimed, AreWithin, all_steps}
use Rattle.evidence_verdicts.specs.declared.rule.CheckRule.{CheckRule}
use Rattle.evidence_verdicts.specs.declared.rule.CheckRule.TheVariants.{Cases, Walks, Ranks, Mixed, PrefRank, PrefStep, PrefLoop, PrefListener, Tags, ConfigDiffers}

abbrev pub rule_number : CheckRule → ℕ
rule_number Cases = 1
rule_number Walks = 2
rule_number Ranks = 3
rule_number Mixed = 4
rule_number PrefRank = 5
rule_number PrefStep = 6
rule_number PrefLoop = 7
rule_number PrefListener = 8
rule_number Tags = 9
rule_number ConfigDiffers = 10

abbrev pub rule_word : CheckRule → List ℕ
rule_word Cases = codes "cases"
rule_word Walks = codes "walks"
rule_word Ranks = codes "ranks"
rule_word Mixed = codes "mixed"
rule_word PrefRank = codes "pref-rank"
rule_word PrefStep = codes "pref-step"
rule_word PrefLoop = codes "pref-loop"
rule_word PrefListener = codes "pref-listener"
rule_word Tags = codes "tags"
rule_word ConfigDiffers = codes "config-differs"

-- what is said of a case of the evidence and of its statement; cases are counted from 1
abbrev pub AtCase : PlainPolicy → List PlainCaseEvidence → ℕ → (PlainStatement → PlainCaseEvidence → Type 0) → Type 0
AtCase policy cs k Says = (c : PlainCaseEvidence) (s : PlainStatement) → case_at cs k ≡ Some c → statement_at policy c.case.statement ≡ Some s → Says s c

-- and of one of its nodes
abbrev pub AtNode : PlainPolicy → List PlainCaseEvidence → ℕ → ℕ → (PlainStatement → PlainCaseEvidence → Type 0) → Type 0
AtNode policy cs k n Says = AtCase policy cs k (λ s c. n < length c.graph.nodes → Says s c)

-- the case of a list, which is counted from 1
abbrev pub listed_at : List Case → ℕ → Option Case
listed_at list zero = None
listed_at list (suc k) = slice_get list k

-- the cases with this number are the same, or there is none on either side; and the policy's cases up to it are within the limits
pub record IsListed (net : PlainNet) (policy : PlainPolicy) (cs : List PlainCaseEvidence) (k : ℕ) : Type 0 where
  pub same : option_map (λ (c : PlainCaseEvidence). c.case) (case_at cs k) ≡ listed_at (case_list net policy) k
  pub within : AreWithin net policy all_steps (take k (case_list net policy))

abbrev pub IsNodeOf : List PlainCaseEvidence → ℕ → ℕ → PlainCaseEvidence → Type 0
IsNodeOf cs k n c = (case_at cs k ≡ Some c) × (n < length c.graph.nodes)

-- a tag is right by itself, and no earlier node at its router has it
pub record KeepsTag (net : PlainNet) (cs : List PlainCaseEvidence) (k n : ℕ) : Type 0 where
  pub at_router : (c : PlainCaseEvidence) → IsNodeOf cs k n c → is_peer net (place_of c.graph n) ≡ false
      → IsTrue (is_tag (tag_at c n)) × ((tag_at c n).asn ≡ asn_of net (place_of c.graph n))
  pub at_peer : (c : PlainCaseEvidence) → IsNodeOf cs k n c → IsTrue (is_peer net (place_of c.graph n)) → tag_at c n ≡ no_tag
  pub new : (j m : ℕ) (d c : PlainCaseEvidence) → IsNodeOf cs j m d → IsNodeOf cs k n c → (j < k) ⊎ ((j ≡ k) × (m < n))
      → is_peer net (place_of d.graph m) ≡ false → place_of d.graph m ≡ place_of c.graph n → tag_at d m ≡ tag_at c n → ⊥

-- the rule holds at this case and at these nodes of it; a rule that doesn't speak of nodes holds at all alike
abbrev pub KeepsAt : CheckRule → PlainNet → PlainPolicy → List PlainCaseEvidence → ℕ → ℕ → ℕ → Type 0
KeepsAt Cases net policy cs k m n = IsListed net policy cs k
KeepsAt Walks net policy cs k m n = AtCase policy cs k (λ s c. IsGraph c.graph × HasWalks net s (holds c.case.origins) c.case.external c.graph)
KeepsAt Ranks net policy cs k m n = AtNode policy cs k m (λ s c. HasRank net s (holds c.case.origins) c.graph m)
KeepsAt Mixed net policy cs k m n = AtNode policy cs k m (λ s c. IsClaimed net s c.case (place_of c.graph m) → IsSome (rank_at c.graph m))
KeepsAt PrefRank net policy cs k m n = AtCase policy cs k (λ s c. KeepsRank net (IsClaimed net s c.case) c.graph (number_at c) m n)
KeepsAt PrefStep net policy cs k m n = AtCase policy cs k (λ s c. KeepsStep net c.graph (number_at c) m n)
KeepsAt PrefLoop net policy cs k m n = AtCase policy cs k (λ s c. KeepsLoop net c.graph (number_at c) m n)
KeepsAt PrefListener net policy cs k m n = AtCase policy cs k (λ s c. KeepsListener net c.case.external c.graph (number_at c) m n)
KeepsAt Tags net policy cs k m n = KeepsTag net cs k m
KeepsAt ConfigDiffers net policy cs k m n = Unit {0}

abbrev pub Keeps : CheckRule → PlainNet → PlainPolicy → List PlainCaseEvidence → Type 0
Keeps rule net policy cs = (k m n : ℕ) → KeepsAt rule net policy cs k m n
