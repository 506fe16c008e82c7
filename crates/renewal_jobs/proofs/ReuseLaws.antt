-- The job that renews with the evidence of the old configuration.
use Rattle.std.proofs.Common.{◌≡◌, ◌≢◌, ℕ, List, [], ◌∷◌, Ok, refl, subst}
use Rattle.net_base.specs.Network.{PlainNet, IsNet}
use Rattle.policy_base.specs.Policies.{IsPolicyOf, PlainPolicy}
use Rattle.config_base.specs.Configs.{PlainConfig}
use Rattle.config_reader.specs.Text.{spelled as config_spelled_by}
use Rattle.evidence_base.specs.Made.{PlainCaseEvidence}
use Rattle.evidence_text.specs.Spelled.{spelled as evidence_spelled_by}
use Rattle.compile_jobs.specs.declared.written.Part.{Part}
use Rattle.run_base.specs.declared.outcome.Status.TheVariants.{BadInput}
use Rattle.run_base.specs.Reading.{Holds, AllHeld, SaidOfTold}
use Rattle.run_base.specs.Said.{Said}
use Rattle.run_base.proofs.Jobs.{IsJob, IsJobSaid}
use Rattle.input_texts.specs.Asked.{SpellFor}
use Rattle.input_texts.proofs.Asking.{job_of, said_for as texts_said_for, told_says as texts_told}
use Rattle.input_texts.proofs.Spelling.{at_pair, of_pair, one_of_pair as one_of_texts, pair_form as texts_form}
use Rattle.renewal_jobs.specs.Reusing.{SaysOfMore, SaysOfPair, SaysOfTexts}
use Rattle.renewal_jobs.proofs.Reuses.{one_of_pair, pair_form}

module _ (part : Part) where
  -- ---- the form of what is said, and that it is one thing

  more_form : (Refuses Checks : Type 0) → Refuses → (more : List (List ℕ)) (net : PlainNet) (policy : PlainPolicy) (what : Said) → SaysOfMore part more net policy what → IsJobSaid Refuses Checks what
  more_form Refuses Checks refuses [] net policy what h = absurd h
  more_form Refuses Checks refuses (z ∷ []) net policy what h = absurd h
  more_form Refuses Checks refuses (z ∷ w ∷ []) net policy what h =
      texts_form (SaysOfPair part net policy) Refuses Checks (λ old olds. pair_form net policy old olds part Refuses Checks refuses) z w what h
  more_form Refuses Checks refuses (z ∷ w ∷ v ∷ more) net policy what h = absurd h

  one_of_more : (more : List (List ℕ)) (net : PlainNet) (policy : PlainPolicy) → IsNet net → IsPolicyOf net policy → (one other : Said)
      → SaysOfMore part more net policy one → SaysOfMore part more net policy other → one ≡ other
  one_of_more [] net policy rules fits one other a b = absurd a
  one_of_more (z ∷ []) net policy rules fits one other a b = absurd a
  one_of_more (z ∷ w ∷ []) net policy rules fits one other a b = one_of_texts (SaysOfPair part net policy) (λ old olds. one_of_pair net policy old olds part) z w one other a b
  one_of_more (z ∷ w ∷ v ∷ more) net policy rules fits one other a b = absurd a

  pub reuse_job : (Refuses Checks : Type 0) → Refuses → IsJob Refuses Checks (SaysOfTexts part)
  reuse_job Refuses Checks refuses = job_of (SaysOfMore part) Refuses Checks (more_form Refuses Checks refuses) one_of_more

  -- ---- of which network, policy and old configuration a thing is said

  module _ (holds : Holds) (names : List (List ℕ)) where
    -- The first two names hold texts of a network and a policy for it, and the other two those of an old configuration and of evidence.
    pub record SpellPair (net : PlainNet) (policy : PlainPolicy) (old : PlainConfig) (evidence : List PlainCaseEvidence) : Type 0 where
      pub spell : SpellFor holds names net policy
      pub config_text : List ℕ
      pub evidence_text : List ℕ
      pub more : spell.more ≡ config_text ∷ evidence_text ∷ []
      pub config_spelled : config_spelled_by config_text ≡ Ok old
      pub evidence_spelled : evidence_spelled_by evidence_text ≡ Ok evidence

    pub record SaidFor (what : Said) : Type 0 where
      pub net : PlainNet
      pub policy : PlainPolicy
      pub old : PlainConfig
      pub evidence : List PlainCaseEvidence
      pub asked : SpellPair net policy old evidence
      pub says : SaysOfPair part net policy old evidence what

    said_of : (what : Said) → what.status ≢ BadInput → (net : PlainNet) (policy : PlainPolicy) (spell : SpellFor holds names net policy) (more : List (List ℕ)) → spell.more ≡ more
        → SaysOfMore part more net policy what → SaidFor what
    said_of what lawful net policy spell [] is says = absurd says
    said_of what lawful net policy spell (z ∷ []) is says = absurd says
    said_of what lawful net policy spell (z ∷ w ∷ []) is says =
        let f = of_pair (SaysOfPair part net policy) z w what lawful says in
        record {
          net = net;
          policy = policy;
          old = f.config;
          evidence = f.evidence;
          asked = record { spell = spell; config_text = z; evidence_text = w; more = is; config_spelled = f.config_spelled; evidence_spelled = f.evidence_spelled };
          says = f.says;
        }
    said_of what lawful net policy spell (z ∷ w ∷ v ∷ more) is says = absurd says

    pub said_for : (what : Said) → what.status ≢ BadInput → (bs : List (List ℕ)) → AllHeld holds names bs → SaysOfTexts part bs what → SaidFor what
    said_for what lawful bs held says =
        let f = texts_said_for (SaysOfMore part) holds names what lawful bs held says in
        said_of what lawful f.net f.policy f.spell f.spell.more refl f.says

    -- and where the names are told
    pub told_of : (net : PlainNet) (policy : PlainPolicy) (old : PlainConfig) (evidence : List PlainCaseEvidence) (what : Said) → SpellPair net policy old evidence
        → SaidOfTold holds names (SaysOfTexts part) what → SaysOfPair part net policy old evidence what
    told_of net policy old evidence what asked said =
        let P : List (List ℕ) → Type 0 = λ more. SaysOfMore part more net policy what in
        at_pair (SaysOfPair part net policy) asked.config_text asked.evidence_text old evidence what asked.config_spelled asked.evidence_spelled
        (subst P asked.more (texts_told (SaysOfMore part) holds names net policy what asked.spell said))
