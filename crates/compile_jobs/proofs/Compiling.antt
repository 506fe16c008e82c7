-- What a job says that compiles a policy: a text of what is compiled, or the line of a refusal that applies.
use Rattle.std.proofs.Common.{◌≡◌, ℕ, List, inl, inr, sym, ap, ◌∙◌, subst}
use Rattle.net_base.specs.Network.{PlainNet}
use Rattle.policy_base.specs.Policies.{PlainPolicy}
use Rattle.config_base.specs.Configs.{PlainConfig}
use Rattle.evidence_base.specs.Made.{PlainCaseEvidence}
use Rattle.case_core.specs.declared.refusal.CompileRefusal.{CompileRefusal}
use Rattle.compile_core.proofs.OneRefusal.{not_refused, one_pair, one_refusal}
use Rattle.refusal_lines.specs.RefusalLines.{refusal_line}
use Rattle.run_base.specs.declared.outcome.Status.TheVariants.{Refused}
use Rattle.run_base.specs.Reading.{Holds, AllHeld, SaidOfTold}
use Rattle.run_base.specs.Said.{Said, text, line}
use Rattle.run_base.proofs.Jobs.{IsJob, IsJobSaid, in_text, in_refusal, status_is, err_is}
use Rattle.input_texts.specs.Asked.{SpellFor}
use Rattle.input_texts.specs.Texts.{Alone, OfTwoTexts}
use Rattle.input_texts.proofs.Asking.{alone, job_of_two, said_for, told_says}
use Rattle.compile_jobs.specs.Compiled.{IsCompiled, IsRefusedFor}
use Rattle.compile_jobs.specs.Compiling.{SaysOfCompiled, SaysRefusal}

-- a policy is refused for one cause
pub only : (net : PlainNet) (policy : PlainPolicy) (e f : CompileRefusal) → IsRefusedFor net policy e → IsRefusedFor net policy f → e ≡ f
only net policy e f left right = elim (one_refusal net policy e f left.0 right.0) [ inl m ↦ absurd (left.1 m) | inr rest ↦ elim rest [ inl m ↦ absurd (right.1 m) | inr same ↦ same ] ]

-- what is compiled is refused for nothing
pub never_refused : (net : PlainNet) (policy : PlainPolicy) (config : PlainConfig) (evidence : List PlainCaseEvidence)
    → IsCompiled net policy config evidence → (e : CompileRefusal) → IsRefusedFor net policy e → ⊥
never_refused net policy config evidence compiled e applies = applies.1 (not_refused net policy config evidence e compiled.0 applies.0)

-- a text of some kind
abbrev pub AnyText : PlainConfig → List PlainCaseEvidence → List ℕ → Type 0
AnyText config evidence bytes = Unit {0}

-- A refusal that applies to such a network and policy, and this is its line.
pub record RefusalFor (For : PlainNet → PlainPolicy → Type 0) (l : List ℕ) : Type 0 where
  pub net : PlainNet
  pub policy : PlainPolicy
  pub asked : For net policy
  pub refusal : CompileRefusal
  pub refused : IsRefusedFor net policy refusal
  pub told : l ≡ refusal_line net refusal

-- What a job says of names, which compiles the policy for which they ask: the line of a refusal that applies; and where the names
-- are told, a text of what is compiled, or that line.
pub record IsCompiler (holds : Holds) (names : List (List ℕ)) (Says : List (List ℕ) → Said → Type 0) (For : PlainNet → PlainPolicy → Type 0) : Type 0 where
  pub refusal : (bs : List (List ℕ)) (l : List ℕ) → AllHeld holds names bs → Says bs (line Refused l) → RefusalFor For l
  pub told : (net : PlainNet) (policy : PlainPolicy) → For net policy → (what : Said) → SaidOfTold holds names Says what → SaysOfCompiled AnyText net policy what

-- where names ask for the same in other words, so do they still
pub in_words : {holds : Holds} {names : List (List ℕ)} {Says : List (List ℕ) → Said → Type 0} {For Also : PlainNet → PlainPolicy → Type 0}
    → IsCompiler holds names Says For → ((net : PlainNet) (policy : PlainPolicy) → For net policy → Also net policy) → ((net : PlainNet) (policy : PlainPolicy) → Also net policy → For net policy)
    → IsCompiler holds names Says Also
in_words compiler to from = record {
  refusal = λ bs l held says.
      let r = compiler.refusal bs l held says in
      record { net = r.net; policy = r.policy; asked = to r.net r.policy r.asked; refusal = r.refusal; refused = r.refused; told = r.told };
  told = λ net policy asked what said. compiler.told net policy (from net policy asked) what said;
}

module _ (Writes : PlainConfig → List PlainCaseEvidence → List ℕ → Type 0) where
  -- ---- the form of what is said

  pub compiled_form : (Refuses Checks : Type 0) → Refuses → (net : PlainNet) (policy : PlainPolicy) (what : Said) → SaysOfCompiled Writes net policy what → IsJobSaid Refuses Checks what
  compiled_form Refuses Checks refuses net policy what (inl h) = in_text _ h.5
  compiled_form Refuses Checks refuses net policy what (inr h) = in_refusal refuses _ h.2

  -- of whatever kind the text is
  pub any_text : (net : PlainNet) (policy : PlainPolicy) (what : Said) → SaysOfCompiled Writes net policy what → SaysOfCompiled AnyText net policy what
  any_text net policy what (inl h) = inl (h.0, h.1, h.2, h.3, tt, h.5)
  any_text net policy what (inr h) = inr h

  -- where a refusal is said it is that of a refusal which applies
  pub refusal_said : (net : PlainNet) (policy : PlainPolicy) (l : List ℕ) → SaysOfCompiled Writes net policy (line Refused l) → SaysRefusal net policy (line Refused l)
  refusal_said net policy l (inl h) = absurd (let s = status_is _ _ h.5 in cc)
  refusal_said net policy l (inr h) = h

  -- ---- one thing is said, where one text is written of what is compiled

  module _ (net : PlainNet) (policy : PlainPolicy)
      (each : (config : PlainConfig) (evidence : List PlainCaseEvidence) → IsCompiled net policy config evidence → (one other : List ℕ)
      → Writes config evidence one → Writes config evidence other → one ≡ other)
    where
      pub one_of_compiled : (one other : Said) → SaysOfCompiled Writes net policy one → SaysOfCompiled Writes net policy other → one ≡ other
      one_of_compiled one other (inl a) (inl b) =
          let pair = one_pair net policy a.0 b.0 a.1 b.1 a.3.0 b.3.0 in
          let P : PlainConfig → Type 0 = λ x. Writes x b.1 b.2 in
          let Q : List PlainCaseEvidence → Type 0 = λ x. Writes a.0 x b.2 in
          a.5 ∙ ap text (each a.0 a.1 a.3 a.2 b.2 a.4 (subst Q (sym pair.0) (subst P (sym pair.1) b.4))) ∙ sym b.5
      one_of_compiled one other (inl a) (inr b) = absurd (never_refused net policy a.0 a.1 a.3 b.0 b.1)
      one_of_compiled one other (inr a) (inl b) = absurd (never_refused net policy b.0 b.1 b.3 a.0 a.1)
      one_of_compiled one other (inr a) (inr b) = a.2 ∙ ap (λ f. line Refused (refusal_line net f)) (only net policy a.0 b.0 a.1 b.1) ∙ sym b.2

-- ---- of two texts

module _ (Writes : PlainNet → PlainPolicy → PlainConfig → List PlainCaseEvidence → List ℕ → Type 0) where
  abbrev pub SaysOfTwo : PlainNet → PlainPolicy → Said → Type 0
  SaysOfTwo net policy = SaysOfCompiled (Writes net policy) net policy

  pub job_of_compiled : (Refuses Checks : Type 0) → Refuses
      → ((net : PlainNet) (policy : PlainPolicy) (config : PlainConfig) (evidence : List PlainCaseEvidence) (one other : List ℕ)
      → Writes net policy config evidence one → Writes net policy config evidence other → one ≡ other)
      → IsJob Refuses Checks (OfTwoTexts SaysOfTwo)
  job_of_compiled Refuses Checks refuses each =
      job_of_two SaysOfTwo Refuses Checks (λ net policy. compiled_form (Writes net policy) Refuses Checks refuses net policy)
      (λ net policy. one_of_compiled (Writes net policy) net policy (λ config evidence compiled. each net policy config evidence))

  module _ (holds : Holds) (names : List (List ℕ)) where
    refusal_of : (bs : List (List ℕ)) (l : List ℕ) → AllHeld holds names bs → OfTwoTexts SaysOfTwo bs (line Refused l) → RefusalFor (SpellFor holds names) l
    refusal_of bs l held says =
        let f = said_for (Alone SaysOfTwo) holds names (line Refused l) (λ x. cc) bs held says in
        let r = refusal_said (Writes f.net f.policy) f.net f.policy l (alone SaysOfTwo f.spell.more f.net f.policy (line Refused l) f.says) in
        record { net = f.net; policy = f.policy; asked = f.spell; refusal = r.0; refused = r.1; told = err_is (line Refused l) (line Refused (refusal_line f.net r.0)) r.2 }

    pub compiler_of_two : IsCompiler holds names (OfTwoTexts SaysOfTwo) (SpellFor holds names)
    compiler_of_two = record {
      refusal = refusal_of;
      told = λ net policy spell what said.
          any_text (Writes net policy) net policy what (alone SaysOfTwo spell.more net policy what (told_says (Alone SaysOfTwo) holds names net policy what spell said));
    }
