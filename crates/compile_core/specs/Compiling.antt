-- What the compiler makes of a policy, and why it refuses one.
use Rattle.std.specs.Prelude.{◌≡◌, ℕ, ◌+◌, ◌-◌, ◌<◌, List, [], ◌∷◌, length, map, sum_by}
use Rattle.net_base.specs.declared.numbers.Tag.{Tag}
use Rattle.net_base.specs.Network.{PlainNet}
use Rattle.policy_base.specs.declared.case.Case.{Case}
use Rattle.policy_base.specs.Cases.{case_list}
use Rattle.policy_base.specs.Policies.{PlainPolicy}
use Rattle.graph_base.specs.Graphs.{PlainGraph}
use Rattle.graph_base.specs.declared.graph.Prefs.{Prefs}
use Rattle.config_base.specs.Configs.{PlainConfig}
use Rattle.evidence_base.specs.Made.{PlainCaseEvidence, IsConfigOf}
use Rattle.evidence_law.specs.Passes.{Passes, all_steps}
use Rattle.tag_assign.specs.Tagging.{tags_of}
use Rattle.policy_base.specs.CaseNumbers.{OfCase}
use Rattle.case_core.specs.declared.refusal.CompileRefusal.{CompileRefusal}
use Rattle.case_core.specs.declared.refusal.CompileRefusal.TheVariants.{NoMemory}
use Rattle.case_evidence.specs.declared.accepted.AcceptedCase.{AcceptedCase}
use Rattle.case_evidence.specs.Accepted.{IsAccepted, IsCaseCause}

-- each case with its own graph, numbers and tags
abbrev pub evidence_of : List Case → List PlainGraph → List Prefs → List (List Tag) → List PlainCaseEvidence
evidence_of (c ∷ cs) (g ∷ gs) (p ∷ ps) (t ∷ ts) = record { case = c; graph = g; numbers = p.of; tags = t } ∷ evidence_of cs gs ps ts
evidence_of _ _ _ _ = []

abbrev pub graphs_of : List AcceptedCase → List PlainGraph
graphs_of accepted = map (λ (a : AcceptedCase). a.graph) accepted

abbrev pub prefs_of : List AcceptedCase → List Prefs
prefs_of accepted = map (λ (a : AcceptedCase). a.prefs) accepted

-- how many steps are left after these cases
abbrev pub room_after : List AcceptedCase → ℕ
room_after accepted = all_steps - sum_by (λ (a : AcceptedCase). a.used) accepted

-- The cases from the one numbered k on are accepted one after the other, with room for so many steps.
abbrev pub AreAcceptedFrom : PlainNet → PlainPolicy → ℕ → ℕ → List AcceptedCase → Type 0
AreAcceptedFrom net policy k room [] = Unit {0}
AreAcceptedFrom net policy k room (a ∷ later) = OfCase net policy k (λ s c. IsAccepted net room s c a) × AreAcceptedFrom net policy (k + 1) (room - a.used) later

-- the first cases of the policy are accepted
abbrev pub AreAccepted : PlainNet → PlainPolicy → List AcceptedCase → Type 0
AreAccepted net policy accepted = AreAcceptedFrom net policy 1 all_steps accepted

-- What is made of a policy: each case is accepted, with the compiler's own graph and numbers; and the configuration is made
-- of the cases with these graphs, numbers and tags.
pub record IsMade (net : PlainNet) (policy : PlainPolicy) (config : PlainConfig) (cs : List PlainCaseEvidence) : Type 0 where
  pub accepted : List AcceptedCase
  pub all : length accepted ≡ length (case_list net policy)
  pub each : AreAccepted net policy accepted
  pub evidence : cs ≡ evidence_of (case_list net policy) (graphs_of accepted) (prefs_of accepted) (tags_of net (graphs_of accepted))
  pub lines : IsConfigOf net policy cs config

-- The evidence of what is made of a policy: it passes for the configuration that is made of it, whether that is written down or not.
abbrev pub IsEvidenceOfMade : PlainNet → PlainPolicy → List PlainCaseEvidence → Type 0
IsEvidenceOfMade net policy cs = (config : PlainConfig) × IsMade net policy config cs × Passes net policy config cs

-- what a refusal says of the policy, where these cases are accepted before
abbrev pub IsRefusalAfter : PlainNet → PlainPolicy → List AcceptedCase → CompileRefusal → Type 0
IsRefusalAfter net policy accepted e =
    (length accepted < length (case_list net policy))
    × OfCase net policy (length accepted + 1) (λ s c. IsCaseCause net (length accepted + 1) (room_after accepted) s c e)

-- Why a policy is refused: the cases before are accepted, and the next one isn't, for its first cause. Want of memory says
-- nothing.
abbrev pub IsRefusal : PlainNet → PlainPolicy → CompileRefusal → Type 0
IsRefusal net policy NoMemory = Unit {0}
IsRefusal net policy e = (accepted : List AcceptedCase) × AreAccepted net policy accepted × IsRefusalAfter net policy accepted e
