-- The job that lints.
use Rattle.std.proofs.Common.{◌≡◌, ◌≢◌, ℕ, List, [], ◌∷◌, refl, sym, ap, ◌∙◌, inl, inr}
use Rattle.net_base.specs.Network.{PlainNet}
use Rattle.policy_base.specs.Policies.{PlainPolicy}
use Rattle.run_base.specs.declared.outcome.Status.TheVariants.{BadInput, Done, Refused}
use Rattle.run_base.specs.Reading.{Holds, AllHeld, SaidOfTold}
use Rattle.run_base.specs.Said.{Said, text, line}
use Rattle.run_base.proofs.Jobs.{IsJob, IsJobSaid, in_text, in_refusal, status_is}
use Rattle.run_base.proofs.Told.{told_is}
use Rattle.refusal_lines.specs.RefusalLines.{refusal_line}
use Rattle.input_texts.specs.Asked.{SpellFor}
use Rattle.input_texts.proofs.Spelling.{at_spelled, form_of, of_spelled, one_of_spelled}
use Rattle.case_graphs.specs.declared.refusal.LimitRefusal.{LimitRefusal}
use Rattle.case_graphs.specs.declared.refusal.LimitRefusal.TheVariants as refusal
use Rattle.case_graphs.specs.Limits.{AreAllWithin, compile_refusal}
use Rattle.case_graphs.proofs.Within.{not_refused, one_refusal}
use Rattle.policy_lint.proofs.Whole.{one_list}
use Rattle.judging_jobs.specs.Lines.{lint_text}
use Rattle.judging_jobs.specs.Linted.{IsRefusedFor, SaysOfPolicy, SaysOfTexts}

-- ---- the form of what is said

module _ (Refuses Checks : Type 0) (refuses : Refuses) where
  policy_form : (policy_text : List ℕ) (net : PlainNet) (policy : PlainPolicy) (what : Said) → SaysOfPolicy policy_text net policy what → IsJobSaid Refuses Checks what
  policy_form policy_text net policy what (inl h) = in_text h.0 h.2
  policy_form policy_text net policy what (inr h) = in_refusal refuses (refusal_line net (compile_refusal h.0)) h.2

  texts_form : (bs : List (List ℕ)) (what : Said) → SaysOfTexts bs what → IsJobSaid Refuses Checks what
  texts_form [] what h = absurd h
  texts_form (x ∷ []) what h = absurd h
  texts_form (x ∷ y ∷ []) what h = form_of (SaysOfPolicy y) Refuses Checks (policy_form y) x y what h
  texts_form (x ∷ y ∷ z ∷ more) what h = absurd h

-- ---- one thing is said

-- where the cases are within the limits, nothing is refused
never_both : (net : PlainNet) (policy : PlainPolicy) (e : LimitRefusal) → AreAllWithin net policy → IsRefusedFor net policy e → ⊥
never_both net policy e within refused = refused.1 (not_refused net policy e within refused.0)

one_refused : (net : PlainNet) (policy : PlainPolicy) (e f : LimitRefusal) → IsRefusedFor net policy e → IsRefusedFor net policy f → e ≡ f
one_refused net policy e f a b = elim (one_refusal net policy e f a.0 b.0) [
  | inl none ↦ absurd (a.1 none)
  | inr (inl none) ↦ absurd (b.1 none)
  | inr (inr same) ↦ same
]

one_of_policy : (policy_text : List ℕ) (net : PlainNet) (policy : PlainPolicy) (one other : Said) → SaysOfPolicy policy_text net policy one → SaysOfPolicy policy_text net policy other → one ≡ other
one_of_policy policy_text net policy one other (inl a) (inl b) =
    let same = one_list policy_text net policy a.1.findings b.1.findings a.1.are b.1.are in
    a.2 ∙ ap text (a.1.spelled ∙ ap lint_text same ∙ sym b.1.spelled) ∙ sym b.2
one_of_policy policy_text net policy one other (inl a) (inr b) = absurd (never_both net policy b.0 a.1.within b.1)
one_of_policy policy_text net policy one other (inr a) (inl b) = absurd (never_both net policy a.0 b.1.within a.1)
one_of_policy policy_text net policy one other (inr a) (inr b) =
    a.2 ∙ ap (λ e. line Refused (refusal_line net (compile_refusal e))) (one_refused net policy a.0 b.0 a.1 b.1) ∙ sym b.2

one_of_texts : (bs : List (List ℕ)) (one other : Said) → SaysOfTexts bs one → SaysOfTexts bs other → one ≡ other
one_of_texts [] one other a b = absurd a
one_of_texts (x ∷ []) one other a b = absurd a
one_of_texts (x ∷ y ∷ []) one other a b = one_of_spelled (SaysOfPolicy y) x y (λ net policy net_is policy_is. one_of_policy y net policy) one other a b
one_of_texts (x ∷ y ∷ z ∷ more) one other a b = absurd a

pub lint_job : (Refuses Checks : Type 0) → Refuses → IsJob Refuses Checks SaysOfTexts
lint_job Refuses Checks refuses = record { form = texts_form Refuses Checks refuses; one = one_of_texts }

-- ---- of which network and policy a thing is said

module _ (holds : Holds) (names : List (List ℕ)) where
  pub record SaidFor (what : Said) : Type 0 where
    pub net : PlainNet
    pub policy : PlainPolicy
    pub spell : SpellFor holds names net policy
    pub alone : spell.more ≡ []
    pub says : SaysOfPolicy spell.policy_text net policy what

  -- it is said of some, where it isn't about the texts
  pub said_for : (what : Said) → what.status ≢ BadInput → (bs : List (List ℕ)) → AllHeld holds names bs → SaysOfTexts bs what → SaidFor what
  said_for what lawful [] held says = absurd says
  said_for what lawful (x ∷ []) held says = absurd says
  said_for what lawful (x ∷ y ∷ []) held says =
      let of = of_spelled (SaysOfPolicy y) x y what lawful says in
      record {
        net = of.net;
        policy = of.policy;
        spell = record { topology = x; policy_text = y; more = []; held = held; net_spelled = of.net_spelled; policy_spelled = of.policy_spelled };
        alone = refl;
        says = of.says;
      }
  said_for what lawful (x ∷ y ∷ z ∷ more) held says = absurd says

  of_pair : (net : PlainNet) (policy : PlainPolicy) (what : Said) (spell : SpellFor holds names net policy) (more : List (List ℕ)) → SaysOfTexts (spell.topology ∷ spell.policy_text ∷ more) what
      → SaysOfPolicy spell.policy_text net policy what
  of_pair net policy what spell [] says = at_spelled (SaysOfPolicy spell.policy_text) spell.topology spell.policy_text net policy what spell.net_spelled spell.policy_spelled says
  of_pair net policy what spell (z ∷ more) says = absurd says

  -- and of those that are spelled, where the names are told
  pub told_says : (net : PlainNet) (policy : PlainPolicy) (what : Said) (spell : SpellFor holds names net policy)
      → SaidOfTold holds names SaysOfTexts what → SaysOfPolicy spell.policy_text net policy what
  told_says net policy what spell said =
      of_pair net policy what spell spell.more (told_is holds names SaysOfTexts (spell.topology ∷ spell.policy_text ∷ spell.more) what spell.held said)

-- ---- how it ends

-- it ends well exactly where all cases are within the limits
pub ends_well : (policy_text : List ℕ) (net : PlainNet) (policy : PlainPolicy) (what : Said) → AreAllWithin net policy → SaysOfPolicy policy_text net policy what → what.status ≡ Done
ends_well policy_text net policy what within (inl h) = status_is _ _ h.2
ends_well policy_text net policy what within (inr h) = absurd (never_both net policy h.0 within h.1)

-- and else with the refusal that applies
pub ends_refused : (policy_text : List ℕ) (net : PlainNet) (policy : PlainPolicy) (what : Said) (e : LimitRefusal) → IsRefusedFor net policy e → SaysOfPolicy policy_text net policy what
    → what ≡ line Refused (refusal_line net (compile_refusal e))
ends_refused policy_text net policy what e refused (inl h) = absurd (never_both net policy e h.1.within refused)
ends_refused policy_text net policy what e refused (inr h) = h.2 ∙ ap (λ f. line Refused (refusal_line net (compile_refusal f))) (one_refused net policy h.0 e h.1 refused)
