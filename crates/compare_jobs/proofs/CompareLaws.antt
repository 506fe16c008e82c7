-- The job that compares two policies.
use Rattle.std.proofs.Common.{◌≡◌, ◌≢◌, ℕ, List, [], ◌∷◌, Ok, refl, sym, ap, ◌∙◌, inl, inr}
use Rattle.net_base.specs.Network.{PlainNet}
use Rattle.policy_base.specs.Policies.{IsPolicyOf, PlainPolicy}
use Rattle.policy_parser.specs.Spelled.{spelled as policy_spelled}
use Rattle.policy_parser.proofs.FittingPolicies.{read_policies_fit}
use Rattle.topology.specs.Topology.{spelled}
use Rattle.case_graphs.specs.declared.refusal.LimitRefusal.{LimitRefusal}
use Rattle.case_graphs.specs.declared.refusal.LimitRefusal.TheVariants as limit
use Rattle.case_graphs.specs.Limits.{AreAllWithin, IsRefused}
use Rattle.case_graphs.proofs.Within.{not_refused, one_refusal}
use Rattle.run_base.specs.declared.outcome.Status.TheVariants.{BadInput, Refused}
use Rattle.run_base.specs.Said.{Said, text, line}
use Rattle.run_base.proofs.Jobs.{IsJob, IsJobSaid, in_refusal, in_text}
use Rattle.input_texts.specs.FaultLines.{topology_line}
use Rattle.input_texts.specs.Texts.{OfRead}
use Rattle.input_texts.proofs.Spelling.{at_read, of_read, one_of_read, read_form}
use Rattle.comparison_maker.specs.declared.refusal.ComparisonRefusal.{ComparisonRefusal}
use Rattle.comparison_maker.specs.declared.refusal.ComparisonRefusal.TheVariants.{Old, New, TooManySteps, NoMemory}
use Rattle.comparison_maker.specs.Refusals.{AreComparable}
use Rattle.comparison_maker.proofs.Once.{one_passes, within_or_passed}
use Rattle.compare_jobs.specs.Compared.{IsCompared, IsPastLimit, SaysOfPair, SaysOfPolicies, SaysOfTexts, new_line, old_line}
use Rattle.compare_jobs.specs.Refused.{refusal_line}
use Rattle.compare_jobs.proofs.Telling.{one_text}

-- what is said of the new policy's text, beside this old policy
abbrev OfNew : List ℕ → PlainNet → PlainPolicy → Said → Type 0
OfNew new_text net old what = OfRead new_line (policy_spelled net new_text) (SaysOfPolicies net old) what

-- ---- the form of what is said

module _ (Refuses Checks : Type 0) (refuses : Refuses) where
  policies_form : (net : PlainNet) (old new : PlainPolicy) (what : Said) → SaysOfPolicies net old new what → IsJobSaid Refuses Checks what
  policies_form net old new what (inl h) = in_text h.0 h.2
  policies_form net old new what (inr h) = in_refusal refuses (refusal_line net h.0) h.2

  pair_form : (x y : List ℕ) (net : PlainNet) (what : Said) → SaysOfPair x y net what → IsJobSaid Refuses Checks what
  pair_form x y net what h =
      read_form old_line (policy_spelled net x) (OfNew y net) Refuses Checks
      (λ old. read_form new_line (policy_spelled net y) (SaysOfPolicies net old) Refuses Checks (λ new. policies_form net old new)) what h

  compare_form : (bs : List (List ℕ)) (what : Said) → SaysOfTexts bs what → IsJobSaid Refuses Checks what
  compare_form [] what h = absurd h
  compare_form (x ∷ []) what h = absurd h
  compare_form (x ∷ y ∷ []) what h = absurd h
  compare_form (x ∷ y ∷ z ∷ []) what h = read_form topology_line (spelled x) (SaysOfPair y z) Refuses Checks (pair_form y z) what h
  compare_form (x ∷ y ∷ z ∷ w ∷ more) what h = absurd h

-- ---- of which policies a thing is said

-- It is said of these three texts, which spell this network and these policies.
pub record OfPolicies (bs : List (List ℕ)) (what : Said) : Type 0 where
  pub topology : List ℕ
  pub old_text : List ℕ
  pub new_text : List ℕ
  pub texts : bs ≡ topology ∷ old_text ∷ new_text ∷ []
  pub net : PlainNet
  pub old : PlainPolicy
  pub new : PlainPolicy
  pub net_spelled : spelled topology ≡ Ok net
  pub old_spelled : policy_spelled net old_text ≡ Ok old
  pub new_spelled : policy_spelled net new_text ≡ Ok new
  pub says : SaysOfPolicies net old new what

pub of_policies : (bs : List (List ℕ)) (what : Said) → what.status ≢ BadInput → SaysOfTexts bs what → OfPolicies bs what
of_policies [] what lawful h = absurd h
of_policies (x ∷ []) what lawful h = absurd h
of_policies (x ∷ y ∷ []) what lawful h = absurd h
of_policies (x ∷ y ∷ z ∷ []) what lawful h =
    let n = of_read topology_line (spelled x) (SaysOfPair y z) what lawful h in
    let o = of_read old_line (policy_spelled n.0 y) (OfNew z n.0) what lawful n.2 in
    let p = of_read new_line (policy_spelled n.0 z) (SaysOfPolicies n.0 o.0) what lawful o.2 in
    record {
      topology = x;
      old_text = y;
      new_text = z;
      texts = refl;
      net = n.0;
      old = o.0;
      new = p.0;
      net_spelled = n.1;
      old_spelled = o.1;
      new_spelled = p.1;
      says = p.2;
    }
of_policies (x ∷ y ∷ z ∷ w ∷ more) what lawful h = absurd h

-- and of what three texts are known to spell
pub at_policies : (topology old_text new_text : List ℕ) (net : PlainNet) (old new : PlainPolicy) (what : Said) → spelled topology ≡ Ok net
    → policy_spelled net old_text ≡ Ok old → policy_spelled net new_text ≡ Ok new → SaysOfTexts (topology ∷ old_text ∷ new_text ∷ []) what → SaysOfPolicies net old new what
at_policies x y z net old new what net_is old_is new_is h =
    at_read new_line (policy_spelled net z) (SaysOfPolicies net old) new what new_is
    (at_read old_line (policy_spelled net y) (OfNew z net) old what old_is (at_read topology_line (spelled x) (SaysOfPair y z) net what net_is h))

-- ---- the comparison, or one refusal

module _ (net : PlainNet) (old new : PlainPolicy) where
  never_both : (policy : PlainPolicy) (e : LimitRefusal) → AreAllWithin net policy → IsRefused net policy e → e ≢ limit.NoMemory → ⊥
  never_both policy e within refused is_limit = is_limit (not_refused net policy e within refused)

  one_limit : (policy : PlainPolicy) (e f : LimitRefusal) → IsRefused net policy e → IsRefused net policy f → e ≢ limit.NoMemory → f ≢ limit.NoMemory → e ≡ f
  one_limit policy e f a b is_limit is_limit' = elim (one_refusal net policy e f a b) [
    | inl none ↦ absurd (is_limit none)
    | inr (inl none) ↦ absurd (is_limit' none)
    | inr (inr same) ↦ same
  ]

  module _ (kept : IsPolicyOf net old) (kept_too : IsPolicyOf net new) where
    -- a limit that is passed excludes the comparison, and every other limit
    never_compared : (e : ComparisonRefusal) → IsPastLimit net old new e → AreComparable net old new → ⊥
    never_compared (Old e) past within = never_both old e within.old_within past.0 past.1
    never_compared (New e) past within = never_both new e within.new_within past.0.1 past.1
    never_compared (TooManySteps one other) past within = within_or_passed net old new kept kept_too one other past.0.2 within.pairs_within
    never_compared NoMemory past within = absurd past.1

    one_refused : (e f : ComparisonRefusal) → IsPastLimit net old new e → IsPastLimit net old new f → f ≡ e
    one_refused (Old e) (Old f) past told = ap (λ x. Old x) (one_limit old f e told.0 past.0 told.1 past.1)
    one_refused (Old e) (New f) past told = absurd (never_both old e told.0.0 past.0 past.1)
    one_refused (Old e) (TooManySteps one other) past told = absurd (never_both old e told.0.0 past.0 past.1)
    one_refused (Old e) NoMemory past told = absurd told.1
    one_refused (New e) (Old f) past told = absurd (never_both old f past.0.0 told.0 told.1)
    one_refused (New e) (New f) past told = ap (λ x. New x) (one_limit new f e told.0.1 past.0.1 told.1 past.1)
    one_refused (New e) (TooManySteps one other) past told = absurd (never_both new e told.0.1 past.0.1 past.1)
    one_refused (New e) NoMemory past told = absurd told.1
    one_refused (TooManySteps one other) (Old f) past told = absurd (never_both old f past.0.0 told.0 told.1)
    one_refused (TooManySteps one other) (New f) past told = absurd (never_both new f past.0.1 told.0.1 told.1)
    one_refused (TooManySteps one other) (TooManySteps this that) past told =
        let same = one_passes net old new kept kept_too this that one other told.0.2 past.0.2 in λ i. TooManySteps (same.0 i) (same.1 i)
    one_refused (TooManySteps one other) NoMemory past told = absurd told.1
    one_refused NoMemory f past told = absurd past.1

    -- so one thing is said of the two policies
    one_said : (this that : Said) → SaysOfPolicies net old new this → SaysOfPolicies net old new that → this ≡ that
    one_said this that (inl a) (inl b) = a.2 ∙ ap text (one_text net old new a.0 b.0 kept kept_too a.1 b.1) ∙ sym b.2
    one_said this that (inl a) (inr b) = absurd (never_compared b.0 b.1 a.1.within)
    one_said this that (inr a) (inl b) = absurd (never_compared a.0 a.1 b.1.within)
    one_said this that (inr a) (inr b) = a.2 ∙ ap (λ e. line Refused (refusal_line net e)) (one_refused b.0 a.0 b.1 a.1) ∙ sym b.2

    -- ---- how it ends

    -- the limit that is passed is told
    pub ends_refused : (e : ComparisonRefusal) (what : Said) → IsPastLimit net old new e → SaysOfPolicies net old new what → what ≡ line Refused (refusal_line net e)
    ends_refused e what past (inl h) = absurd (never_compared e past h.1.within)
    ends_refused e what past (inr h) = h.2 ∙ ap (λ f. line Refused (refusal_line net f)) (one_refused e h.0 past h.1)

  -- where no limit is passed, the comparison is told
  pub ends_well : (what : Said) → ((e : ComparisonRefusal) → IsPastLimit net old new e → ⊥) → SaysOfPolicies net old new what
      → (bytes : List ℕ) × IsCompared net old new bytes × (what ≡ text bytes)
  ends_well what none (inl h) = h
  ends_well what none (inr h) = absurd (none h.0 h.1)

-- ---- one thing is said of three texts

one_of_pair : (x y : List ℕ) (net : PlainNet) (this that : Said) → SaysOfPair x y net this → SaysOfPair x y net that → this ≡ that
one_of_pair x y net =
    one_of_read old_line (policy_spelled net x) (OfNew y net)
    (λ old old_is. one_of_read new_line (policy_spelled net y) (SaysOfPolicies net old)
    (λ new new_is. one_said net old new (read_policies_fit net x old old_is) (read_policies_fit net y new new_is)))

one_of_texts : (bs : List (List ℕ)) (this that : Said) → SaysOfTexts bs this → SaysOfTexts bs that → this ≡ that
one_of_texts [] this that a b = absurd a
one_of_texts (x ∷ []) this that a b = absurd a
one_of_texts (x ∷ y ∷ []) this that a b = absurd a
one_of_texts (x ∷ y ∷ z ∷ []) this that a b = one_of_read topology_line (spelled x) (SaysOfPair y z) (λ net net_is. one_of_pair y z net) this that a b
one_of_texts (x ∷ y ∷ z ∷ w ∷ more) this that a b = absurd a

-- what is said has a form, and is one thing
pub compare_job : (Refuses Checks : Type 0) → Refuses → IsJob Refuses Checks SaysOfTexts
compare_job Refuses Checks refuses = record { form = compare_form Refuses Checks refuses; one = one_of_texts }
