-- What is said of texts, each of which spells something or has a fault.
use Rattle.std.proofs.Common.{◌≡◌, ◌≢◌, ℕ, List, Result, Ok, inl, inr, sym, ap, subst, ◌∙◌}
use Rattle.net_base.specs.Network.{PlainNet}
use Rattle.policy_base.specs.Policies.{PlainPolicy}
use Rattle.policy_parser.specs.Spelled.{spelled as policy_spelled}
use Rattle.topology.specs.Topology.{spelled}
use Rattle.config_base.specs.Configs.{PlainConfig}
use Rattle.config_reader.specs.Text.{spelled as config_spelled}
use Rattle.evidence_base.specs.Made.{PlainCaseEvidence}
use Rattle.evidence_text.specs.Spelled.{spelled as evidence_spelled}
use Rattle.run_base.specs.declared.outcome.Status.TheVariants.{BadInput}
use Rattle.input_texts.specs.FaultLines.{topology_line, policy_line, config_line, evidence_line}
use Rattle.run_base.specs.Said.{Said, line}
use Rattle.input_texts.specs.Texts.{OfRead, OfPolicyText, OfTexts, OfEvidenceText, OfPairTexts}
use Rattle.run_base.proofs.Jobs.{IsJobSaid, in_line, status_is}

-- ---- one text

module _ {Y F : Type 0} (line_of : F → List ℕ) (read : Result Y F) (Next : Y → Said → Type 0) where
  -- its form, where what follows has one
  pub read_form : (Refuses Checks : Type 0) → ((y : Y) (what : Said) → Next y what → IsJobSaid Refuses Checks what) → (what : Said) → OfRead line_of read Next what → IsJobSaid Refuses Checks what
  read_form Refuses Checks each what (inl h) = in_line _ h.2
  read_form Refuses Checks each what (inr h) = each h.0 what h.2

  -- where it is known what the text spells, what follows is said
  pub at_read : (y : Y) (what : Said) → read ≡ Ok y → OfRead line_of read Next what → Next y what
  at_read y what is (inl h) = absurd (let e = h.1 in cc)
  at_read y what is (inr h) =
      let e = h.1 in
      let same : h.0 ≡ y = cc in
      let P : Y → Type 0 = λ x. Next x what in
      subst P same h.2

  -- a thing that is said, and isn't about the text, follows from what it spells
  pub of_read : (what : Said) → what.status ≢ BadInput → OfRead line_of read Next what → (y : Y) × (read ≡ Ok y) × Next y what
  of_read what lawful (inl h) = absurd (lawful (status_is _ _ h.2))
  of_read what lawful (inr h) = h

  -- one thing is said, where one thing follows
  pub one_of_read : ((y : Y) → read ≡ Ok y → (one other : Said) → Next y one → Next y other → one ≡ other) → (one other : Said)
      → OfRead line_of read Next one → OfRead line_of read Next other → one ≡ other
  one_of_read each one other (inl a) (inl b) =
      let e = a.1 in
      let f = b.1 in
      let same : a.0 ≡ b.0 = cc in
      a.2 ∙ ap (λ (f : F). line BadInput (line_of f)) same ∙ sym b.2
  one_of_read each one other (inl a) (inr b) = absurd (let e = a.1 in let f = b.1 in cc)
  one_of_read each one other (inr a) b = each a.0 a.1 one other a.2 (at_read a.0 other a.1 b)

-- ---- a topology and a policy

module _ (Next : PlainNet → PlainPolicy → Said → Type 0) where
  pub form_of : (Refuses Checks : Type 0) → ((net : PlainNet) (policy : PlainPolicy) (what : Said) → Next net policy what → IsJobSaid Refuses Checks what)
      → (topology policy_text : List ℕ) (what : Said) → OfTexts Next topology policy_text what → IsJobSaid Refuses Checks what
  unfolding OfTexts
  form_of Refuses Checks each topology policy_text what h =
      read_form topology_line (spelled topology) (λ net. OfPolicyText Next net policy_text) Refuses Checks
      (λ net. read_form policy_line (policy_spelled net policy_text) (Next net) Refuses Checks (each net)) what h

  pub at_spelled : (topology policy_text : List ℕ) (net : PlainNet) (policy : PlainPolicy) (what : Said) → spelled topology ≡ Ok net → policy_spelled net policy_text ≡ Ok policy
      → OfTexts Next topology policy_text what → Next net policy what
  unfolding OfTexts
  at_spelled topology policy_text net policy what net_is policy_is h =
      at_read policy_line (policy_spelled net policy_text) (Next net) policy what policy_is
      (at_read topology_line (spelled topology) (λ n. OfPolicyText Next n policy_text) net what net_is h)

  -- the network and the policy of which a thing is said that isn't about the texts
  pub record OfSpelled (topology policy_text : List ℕ) (what : Said) : Type 0 where
    pub net : PlainNet
    pub policy : PlainPolicy
    pub net_spelled : spelled topology ≡ Ok net
    pub policy_spelled : policy_spelled net policy_text ≡ Ok policy
    pub says : Next net policy what

  pub of_spelled : (topology policy_text : List ℕ) (what : Said) → what.status ≢ BadInput → OfTexts Next topology policy_text what → OfSpelled topology policy_text what
  unfolding OfTexts
  of_spelled topology policy_text what lawful h =
      let n = of_read topology_line (spelled topology) (λ net. OfPolicyText Next net policy_text) what lawful h in
      let p = of_read policy_line (policy_spelled n.0 policy_text) (Next n.0) what lawful n.2 in
      record { net = n.0; policy = p.0; net_spelled = n.1; policy_spelled = p.1; says = p.2 }

  -- where what follows is one thing for the network and the policy that the texts spell, so is what is said of the texts
  pub one_of_spelled : (topology policy_text : List ℕ)
      → ((net : PlainNet) (policy : PlainPolicy) → spelled topology ≡ Ok net → policy_spelled net policy_text ≡ Ok policy → (one other : Said)
      → Next net policy one → Next net policy other → one ≡ other)
      → (one other : Said) → OfTexts Next topology policy_text one → OfTexts Next topology policy_text other → one ≡ other
  unfolding OfTexts
  one_of_spelled topology policy_text each one other a b =
      one_of_read topology_line (spelled topology) (λ net. OfPolicyText Next net policy_text)
      (λ net net_is. one_of_read policy_line (policy_spelled net policy_text) (Next net) (λ policy policy_is. each net policy net_is policy_is)) one other a b

-- ---- a configuration and its evidence

module _ (Next : PlainConfig → List PlainCaseEvidence → Said → Type 0) where
  pub pair_form : (Refuses Checks : Type 0) → ((config : PlainConfig) (evidence : List PlainCaseEvidence) (what : Said) → Next config evidence what → IsJobSaid Refuses Checks what)
      → (config_text evidence_text : List ℕ) (what : Said) → OfPairTexts Next config_text evidence_text what → IsJobSaid Refuses Checks what
  unfolding OfPairTexts
  pair_form Refuses Checks each config_text evidence_text what h =
      read_form config_line (config_spelled config_text) (λ config. OfEvidenceText Next config evidence_text) Refuses Checks
      (λ config. read_form evidence_line (evidence_spelled evidence_text) (Next config) Refuses Checks (each config)) what h

  pub at_pair : (config_text evidence_text : List ℕ) (config : PlainConfig) (evidence : List PlainCaseEvidence) (what : Said) → config_spelled config_text ≡ Ok config
      → evidence_spelled evidence_text ≡ Ok evidence → OfPairTexts Next config_text evidence_text what → Next config evidence what
  unfolding OfPairTexts
  at_pair config_text evidence_text config evidence what config_is evidence_is h =
      at_read evidence_line (evidence_spelled evidence_text) (Next config) evidence what evidence_is
      (at_read config_line (config_spelled config_text) (λ c. OfEvidenceText Next c evidence_text) config what config_is h)

  -- the configuration and the evidence of which a thing is said that isn't about the texts
  pub record OfPair (config_text evidence_text : List ℕ) (what : Said) : Type 0 where
    pub config : PlainConfig
    pub evidence : List PlainCaseEvidence
    pub config_spelled : config_spelled config_text ≡ Ok config
    pub evidence_spelled : evidence_spelled evidence_text ≡ Ok evidence
    pub says : Next config evidence what

  pub of_pair : (config_text evidence_text : List ℕ) (what : Said) → what.status ≢ BadInput → OfPairTexts Next config_text evidence_text what → OfPair config_text evidence_text what
  unfolding OfPairTexts
  of_pair config_text evidence_text what lawful h =
      let c = of_read config_line (config_spelled config_text) (λ config. OfEvidenceText Next config evidence_text) what lawful h in
      let e = of_read evidence_line (evidence_spelled evidence_text) (Next c.0) what lawful c.2 in
      record { config = c.0; evidence = e.0; config_spelled = c.1; evidence_spelled = e.1; says = e.2 }

  pub one_of_pair : ((config : PlainConfig) (evidence : List PlainCaseEvidence) (one other : Said) → Next config evidence one → Next config evidence other → one ≡ other)
      → (config_text evidence_text : List ℕ) (one other : Said) → OfPairTexts Next config_text evidence_text one → OfPairTexts Next config_text evidence_text other → one ≡ other
  unfolding OfPairTexts
  one_of_pair each config_text evidence_text one other a b =
      one_of_read config_line (config_spelled config_text) (λ config. OfEvidenceText Next config evidence_text)
      (λ config config_is. one_of_read evidence_line (evidence_spelled evidence_text) (Next config) (λ evidence evidence_is. each config evidence)) one other a b
