-- A job that compiles a policy and writes what comes of it for the value that a third text spells.
use Rattle.std.proofs.Common.{◌≡◌, ◌≢◌, ℕ, List, [], ◌∷◌, Result, Ok, refl, subst}
use Rattle.net_base.specs.Network.{PlainNet, IsNet}
use Rattle.policy_base.specs.Policies.{IsPolicyOf, PlainPolicy}
use Rattle.config_base.specs.Configs.{PlainConfig}
use Rattle.evidence_base.specs.Made.{PlainCaseEvidence}
use Rattle.refusal_lines.specs.RefusalLines.{refusal_line}
use Rattle.run_base.specs.declared.outcome.Status.TheVariants.{BadInput, Refused}
use Rattle.run_base.specs.Reading.{Holds, AllHeld, SaidOfTold}
use Rattle.run_base.specs.Said.{Said, line}
use Rattle.run_base.proofs.Jobs.{IsJob, IsJobSaid, err_is}
use Rattle.input_texts.specs.Asked.{SpellAlso, SpellFor}
use Rattle.input_texts.proofs.Asking.{job_of, said_for as texts_said_for, told_says as texts_told}
use Rattle.input_texts.proofs.Spelling.{at_read, of_read, one_of_read, read_form}
use Rattle.compile_jobs.specs.Compiled.{IsCompiled}
use Rattle.compile_jobs.specs.Compiling.{SaysOfMore, SaysOfThree, SaysOfValue}
use Rattle.compile_jobs.proofs.Compiling.{IsCompiler, RefusalFor, any_text, compiled_form, one_of_compiled, refusal_said}

module _ {V F : Type 0} (told_by : F → List ℕ) (spelled_by : PlainNet → List ℕ → Result V F) (Writes : PlainNet → PlainPolicy → V → PlainConfig → List PlainCaseEvidence → List ℕ → Type 0) where
  -- ---- the form of what is said

  module _ (Refuses Checks : Type 0) (refuses : Refuses) where
    more_form : (more : List (List ℕ)) (net : PlainNet) (policy : PlainPolicy) (what : Said) → SaysOfMore told_by spelled_by Writes more net policy what → IsJobSaid Refuses Checks what
    more_form [] net policy what h = absurd h
    more_form (z ∷ []) net policy what h =
        read_form told_by (spelled_by net z) (SaysOfValue told_by spelled_by Writes net policy) Refuses Checks
        (λ value. compiled_form (Writes net policy value) Refuses Checks refuses net policy) what h
    more_form (z ∷ w ∷ more) net policy what h = absurd h

  -- ---- one thing is said, where one text is written for a value

  -- of what is compiled one text is written for each value that a text spells
  abbrev pub IsOneText : Type 0
  IsOneText = (net : PlainNet) (policy : PlainPolicy) → IsNet net → IsPolicyOf net policy → (third : List ℕ) (value : V) → spelled_by net third ≡ Ok value
      → (config : PlainConfig) (evidence : List PlainCaseEvidence) → IsCompiled net policy config evidence → (one other : List ℕ)
      → Writes net policy value config evidence one → Writes net policy value config evidence other
      → one ≡ other

  one_of_more : IsOneText → (more : List (List ℕ)) (net : PlainNet) (policy : PlainPolicy) → IsNet net → IsPolicyOf net policy → (one other : Said)
      → SaysOfMore told_by spelled_by Writes more net policy one → SaysOfMore told_by spelled_by Writes more net policy other → one ≡ other
  one_of_more each [] net policy rules fits one other a b = absurd a
  one_of_more each (z ∷ []) net policy rules fits one other a b =
      one_of_read told_by (spelled_by net z) (SaysOfValue told_by spelled_by Writes net policy)
      (λ value is. one_of_compiled (Writes net policy value) net policy (each net policy rules fits z value is)) one other a b
  one_of_more each (z ∷ w ∷ more) net policy rules fits one other a b = absurd a

  pub job_of_three : (Refuses Checks : Type 0) → Refuses → IsOneText → IsJob Refuses Checks (SaysOfThree told_by spelled_by Writes)
  job_of_three Refuses Checks refuses each = job_of (SaysOfMore told_by spelled_by Writes) Refuses Checks (more_form Refuses Checks refuses) (one_of_more each)

  -- ---- of which network, policy and value a thing is said

  module _ (holds : Holds) (names : List (List ℕ)) where
    pub record SaidFor (what : Said) : Type 0 where
      pub net : PlainNet
      pub policy : PlainPolicy
      pub value : V
      pub asked : SpellAlso spelled_by holds names net policy value
      pub says : SaysOfValue told_by spelled_by Writes net policy value what

    said_of : (what : Said) → what.status ≢ BadInput → (net : PlainNet) (policy : PlainPolicy) (spell : SpellFor holds names net policy) (more : List (List ℕ)) → spell.more ≡ more
        → SaysOfMore told_by spelled_by Writes more net policy what → SaidFor what
    said_of what lawful net policy spell [] is says = absurd says
    said_of what lawful net policy spell (z ∷ []) is says =
        let f = of_read told_by (spelled_by net z) (SaysOfValue told_by spelled_by Writes net policy) what lawful says in
        record { net = net; policy = policy; value = f.0; asked = record { spell = spell; third = z; more = is; spelled = f.1 }; says = f.2 }
    said_of what lawful net policy spell (z ∷ w ∷ more) is says = absurd says

    pub said_for : (what : Said) → what.status ≢ BadInput → (bs : List (List ℕ)) → AllHeld holds names bs → SaysOfThree told_by spelled_by Writes bs what → SaidFor what
    said_for what lawful bs held says =
        let f = texts_said_for (SaysOfMore told_by spelled_by Writes) holds names what lawful bs held says in
        said_of what lawful f.net f.policy f.spell f.spell.more refl f.says

    told_of : (net : PlainNet) (policy : PlainPolicy) (value : V) (what : Said) → SpellAlso spelled_by holds names net policy value
        → SaidOfTold holds names (SaysOfThree told_by spelled_by Writes) what → SaysOfValue told_by spelled_by Writes net policy value what
    told_of net policy value what asked said =
        let P : List (List ℕ) → Type 0 = λ more. SaysOfMore told_by spelled_by Writes more net policy what in
        at_read told_by (spelled_by net asked.third) (SaysOfValue told_by spelled_by Writes net policy) value what asked.spelled
        (subst P asked.more (texts_told (SaysOfMore told_by spelled_by Writes) holds names net policy what asked.spell said))

    -- the texts spell some value
    abbrev pub SpellSome : PlainNet → PlainPolicy → Type 0
    SpellSome net policy = (value : V) × SpellAlso spelled_by holds names net policy value

    refusal_of : (bs : List (List ℕ)) (l : List ℕ) → AllHeld holds names bs → SaysOfThree told_by spelled_by Writes bs (line Refused l) → RefusalFor SpellSome l
    refusal_of bs l held says =
        let f = said_for (line Refused l) (λ x. cc) bs held says in
        let r = refusal_said (Writes f.net f.policy f.value) f.net f.policy l f.says in
        record { net = f.net; policy = f.policy; asked = (f.value, f.asked); refusal = r.0; refused = r.1; told = err_is (line Refused l) (line Refused (refusal_line f.net r.0)) r.2 }

    pub compiler_of_three : IsCompiler holds names (SaysOfThree told_by spelled_by Writes) SpellSome
    compiler_of_three = record {
      refusal = refusal_of;
      told = λ net policy asked what said. any_text (Writes net policy asked.0) net policy what (told_of net policy asked.0 what asked.1 said);
    }
