-- The job that renews.
use Rattle.std.proofs.Common.{◌≡◌, ◌≢◌, ℕ, List, [], ◌∷◌, refl, subst}
use Rattle.net_base.specs.Network.{PlainNet, IsNet}
use Rattle.policy_base.specs.Policies.{IsPolicyOf, PlainPolicy}
use Rattle.config_base.specs.Configs.{PlainConfig}
use Rattle.config_reader.specs.Text.{spelled as config_spelled}
use Rattle.compile_jobs.specs.declared.written.Part.{Part}
use Rattle.run_base.specs.declared.outcome.Status.TheVariants.{BadInput}
use Rattle.run_base.specs.Reading.{Holds, AllHeld, SaidOfTold}
use Rattle.run_base.specs.Said.{Said}
use Rattle.run_base.proofs.Jobs.{IsJob, IsJobSaid}
use Rattle.input_texts.specs.Asked.{SpellAlso, SpellFor}
use Rattle.input_texts.specs.FaultLines.{config_line}
use Rattle.input_texts.proofs.Asking.{job_of, said_for as texts_said_for, told_says as texts_told}
use Rattle.input_texts.proofs.Spelling.{at_read, of_read, one_of_read, read_form}
use Rattle.renewal_jobs.specs.Renewing.{SaysOfMore, SaysOfOld, SaysOfTexts}
use Rattle.renewal_jobs.proofs.Renewals.{old_form, one_of_old}

module _ (part : Part) where
  -- ---- the form of what is said, and that it is one thing

  more_form : (Refuses Checks : Type 0) → Refuses → (more : List (List ℕ)) (net : PlainNet) (policy : PlainPolicy) (what : Said) → SaysOfMore part more net policy what → IsJobSaid Refuses Checks what
  more_form Refuses Checks refuses [] net policy what h = absurd h
  more_form Refuses Checks refuses (z ∷ []) net policy what h =
      read_form config_line (config_spelled z) (SaysOfOld part net policy) Refuses Checks (λ old. old_form net policy part old Refuses Checks refuses) what h
  more_form Refuses Checks refuses (z ∷ w ∷ more) net policy what h = absurd h

  one_of_more : (more : List (List ℕ)) (net : PlainNet) (policy : PlainPolicy) → IsNet net → IsPolicyOf net policy → (one other : Said)
      → SaysOfMore part more net policy one → SaysOfMore part more net policy other → one ≡ other
  one_of_more [] net policy rules fits one other a b = absurd a
  one_of_more (z ∷ []) net policy rules fits one other a b = one_of_read config_line (config_spelled z) (SaysOfOld part net policy) (λ old is. one_of_old net policy part old) one other a b
  one_of_more (z ∷ w ∷ more) net policy rules fits one other a b = absurd a

  pub renewal_job : (Refuses Checks : Type 0) → Refuses → IsJob Refuses Checks (SaysOfTexts part)
  renewal_job Refuses Checks refuses = job_of (SaysOfMore part) Refuses Checks (more_form Refuses Checks refuses) one_of_more

  -- ---- of which network, policy and old configuration a thing is said

  module _ (holds : Holds) (names : List (List ℕ)) where
    -- the names hold texts of these
    abbrev pub SpellOld : PlainNet → PlainPolicy → PlainConfig → Type 0
    SpellOld = SpellAlso (λ (net : PlainNet). config_spelled) holds names

    pub record SaidFor (what : Said) : Type 0 where
      pub net : PlainNet
      pub policy : PlainPolicy
      pub old : PlainConfig
      pub asked : SpellOld net policy old
      pub says : SaysOfOld part net policy old what

    said_of : (what : Said) → what.status ≢ BadInput → (net : PlainNet) (policy : PlainPolicy) (spell : SpellFor holds names net policy) (more : List (List ℕ)) → spell.more ≡ more
        → SaysOfMore part more net policy what → SaidFor what
    said_of what lawful net policy spell [] is says = absurd says
    said_of what lawful net policy spell (z ∷ []) is says =
        let f = of_read config_line (config_spelled z) (SaysOfOld part net policy) what lawful says in
        record { net = net; policy = policy; old = f.0; asked = record { spell = spell; third = z; more = is; spelled = f.1 }; says = f.2 }
    said_of what lawful net policy spell (z ∷ w ∷ more) is says = absurd says

    pub said_for : (what : Said) → what.status ≢ BadInput → (bs : List (List ℕ)) → AllHeld holds names bs → SaysOfTexts part bs what → SaidFor what
    said_for what lawful bs held says =
        let f = texts_said_for (SaysOfMore part) holds names what lawful bs held says in
        said_of what lawful f.net f.policy f.spell f.spell.more refl f.says

    -- and where the names are told
    pub told_of : (net : PlainNet) (policy : PlainPolicy) (old : PlainConfig) (what : Said) → SpellOld net policy old → SaidOfTold holds names (SaysOfTexts part) what → SaysOfOld part net policy old what
    told_of net policy old what asked said =
        let P : List (List ℕ) → Type 0 = λ more. SaysOfMore part more net policy what in
        at_read config_line (config_spelled asked.third) (SaysOfOld part net policy) old what asked.spelled
        (subst P asked.more (texts_told (SaysOfMore part) holds names net policy what asked.spell said))
