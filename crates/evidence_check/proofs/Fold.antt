-- The first rule that fails over the cases so far, and over all of them.
use Rattle.std.proofs.Common.{◌≡◌, ℕ, zero, suc, ◌+◌, ◌-◌, ◌<◌, ◌≤◌, List, [], ◌∷◌, ◌++◌, length, take, Option, Some, None, option_map, refl, sym, ap, subst, ◌∙◌, arith, inl, inr}
use Rattle.std.specs.Prelude.{slice_get}
use Rattle.std.proofs.lemmas.Bool.{cases_lt}
use Rattle.std.proofs.lemmas.Bool.Decides.{leb_tells}
use Rattle.std.proofs.lemmas.Option.{same_Some, slice_get_past}
use Rattle.net_base.specs.Network.{PlainNet}
use Rattle.policy_base.specs.declared.case.Case.{Case}
use Rattle.policy_base.specs.Cases.{case_list}
use Rattle.policy_base.specs.Policies.{PlainPolicy}
use Rattle.config_base.specs.Configs.{IsBelow, PlainConfig}
use Rattle.evidence_base.specs.Made.{IsConfigOf, PlainCaseEvidence, case_at}
use Rattle.evidence_law.specs.Passes.{AreWithin, all_steps}
use Rattle.preference_check.specs.FirstPair.{IsEarlier, IsFirstPair}
use Rattle.evidence_verdicts.specs.declared.rule.CheckRule.{CheckRule}
use Rattle.evidence_verdicts.specs.declared.rule.CheckRule.TheVariants.{Cases, ConfigDiffers, Mixed, PrefListener, PrefLoop, PrefRank, PrefStep, Ranks, Tags, Walks}
use Rattle.evidence_verdicts.specs.declared.verdict.Shown.{Shown}
use Rattle.evidence_verdicts.specs.declared.verdict.Verdict.TheVariants.{Fails, Holds}
use Rattle.evidence_verdicts.specs.Rules.{IsListed, Keeps, KeepsAt, KeepsTag, listed_at, rule_number}
use Rattle.evidence_verdicts.specs.Verdicts.{IsFault, IsFirstAt, IsVerdict, KeepsBefore, at_place}
use Rattle.evidence_verdicts.proofs.TenRules.{passing}
use Rattle.evidence_check.specs.declared.case_rules.Fault.{Fault}
use Rattle.evidence_check.specs.declared.cases.CaseFault.{CaseFault}
use Rattle.evidence_check.specs.CaseFaults.{AreListed, IsFaultFrom, IsFirstFault, IsLeast, IsLeastFault, IsLeastOrNone, IsLeastUpTo, KeepsIn, KeepsUpTo, least_with}
use Rattle.evidence_check.specs.Listed.{AreWithinTo, IsWithinRoom}
use Rattle.evidence_check.proofs.AllRules.{all_rules}
use Rattle.evidence_check.proofs.Limits.{within_last, within_more, within_to}

positive : (r : CheckRule) → 1 ≤ rule_number r
positive Cases = omega arith
positive Walks = omega arith
positive Ranks = omega arith
positive Mixed = omega arith
positive PrefRank = omega arith
positive PrefStep = omega arith
positive PrefLoop = omega arith
positive PrefListener = omega arith
positive Tags = omega arith
positive ConfigDiffers = omega arith

module _ (net : PlainNet) (policy : PlainPolicy) (cs : List PlainCaseEvidence) where
  abbrev list : List Case
  list = case_list net policy

  in_case : (k : ℕ) → IsListed net policy cs k → (r : CheckRule) → (2 ≤ rule_number r → KeepsIn r net policy cs k) → KeepsIn r net policy cs k
  in_case k listed Cases h = λ m n. listed
  in_case k listed Walks h = h (omega arith)
  in_case k listed Ranks h = h (omega arith)
  in_case k listed Mixed h = h (omega arith)
  in_case k listed PrefRank h = h (omega arith)
  in_case k listed PrefStep h = h (omega arith)
  in_case k listed PrefLoop h = h (omega arith)
  in_case k listed PrefListener h = h (omega arith)
  in_case k listed Tags h = h (omega arith)
  in_case k listed ConfigDiffers h = h (omega arith)

  -- where there is no case nothing fails
  no_case : (k : ℕ) → case_at cs k ≡ None → IsListed net policy cs k → (r : CheckRule) → rule_number r < 9 → KeepsIn r net policy cs k
  no_case k none listed Cases lt = λ m n. listed
  no_case k none listed Walks lt = λ m n c s at of. absurd (let off = sym none ∙ at in cc)
  no_case k none listed Ranks lt = λ m n c s at of. absurd (let off = sym none ∙ at in cc)
  no_case k none listed Mixed lt = λ m n c s at of. absurd (let off = sym none ∙ at in cc)
  no_case k none listed PrefRank lt = λ m n c s at of. absurd (let off = sym none ∙ at in cc)
  no_case k none listed PrefStep lt = λ m n c s at of. absurd (let off = sym none ∙ at in cc)
  no_case k none listed PrefLoop lt = λ m n c s at of. absurd (let off = sym none ∙ at in cc)
  no_case k none listed PrefListener lt = λ m n c s at of. absurd (let off = sym none ∙ at in cc)
  no_case k none listed Tags lt = absurd (omega (arith, lt))
  no_case k none listed ConfigDiffers lt = absurd (omega (arith, lt))

  -- ---- one case more

  module _ (j k : ℕ) (next : k ≡ j + 1) (listed : IsListed net policy cs k) where
    upto_next : (r : CheckRule) → KeepsUpTo r net policy cs j → KeepsIn r net policy cs k → KeepsUpTo r net policy cs k
    upto_next r before here i le = elim (cases_lt i k) [
      | inl lt ↦ before i (omega (arith, lt, next))
      | inr ge ↦ let same : k ≡ i = omega (arith, le, ge) in subst (KeepsIn r net policy cs) same here
    ]

    first_here : (q : CheckRule) (a b : ℕ) → KeepsUpTo q net policy cs j → IsFirstPair (KeepsAt q net policy cs k) (a, b) → IsFirstAt (KeepsAt q net policy cs) k a b
    first_here q a b before first = record { fails = first.fails; before = λ i m n below. earlier i m n below }
      where
        earlier : (i m n : ℕ) → IsBelow (at_place i m n) (at_place k a b) → KeepsAt q net policy cs i m n
        earlier i m n below = elim (cases_lt i k) [
          | inl lt ↦ before i (omega (arith, lt, next)) m n
          | inr ge ↦
              let same : k ≡ i = omega (arith, below.0, ge) in
              let rest = below.1 (sym same) in
              let pair : IsEarlier (m, n) (a, b) = elim (cases_lt m a) [ inl less ↦ inl less | inr more ↦ let e : m ≡ a = omega (arith, rest.0, more) in inr (e, rest.1 e) ] in
              subst (λ x. KeepsAt q net policy cs x m n) same (first.before m n pair)
        ]

    pub kept_least : (o : Option CaseFault) → IsLeast net policy cs j o → IsFaultFrom 2 net policy cs k None → IsLeast net policy cs k o
    kept_least None least none = λ r most. upto_next r (least r most) (in_case k listed r (λ two. none r two most))
    kept_least (Some f) least none = record {
      most = least.most;
      earlier = λ r less. upto_next r (least.earlier r less) (in_case k listed r (λ two. none r two (let most = least.most in omega (arith, less, most))));
      first = least.first;
    }

    pub old_least : (f : CaseFault) (g : Fault) → IsLeastUpTo net policy cs j f → IsFirstFault 2 net policy cs k g → rule_number f.fault.rule ≤ rule_number g.rule → IsLeastUpTo net policy cs k f
    old_least f g least fault le = record {
      most = least.most;
      earlier = λ r less. upto_next r (least.earlier r less) (in_case k listed r (λ two. fault.earlier r two (omega (arith, less, le))));
      first = least.first;
    }

    new_least : (g : Fault) → ((r : CheckRule) → rule_number r ≤ rule_number g.rule → KeepsUpTo r net policy cs j) → IsFirstFault 2 net policy cs k g
        → IsLeastUpTo net policy cs k (record { case = k; fault = g })
    new_least g before fault = record {
      most = fault.most;
      earlier = λ r less. upto_next r (before r (omega (arith, less))) (in_case k listed r (λ two. fault.earlier r two less));
      first = first_here g.rule g.first g.second (before g.rule (omega arith)) fault.first;
    }

    pub first_least : (g : Fault) → IsLeast net policy cs j None → IsFirstFault 2 net policy cs k g → IsLeastUpTo net policy cs k (record { case = k; fault = g })
    first_least g least fault = new_least g (λ r le. least r (let most = fault.most in omega (arith, le, most))) fault

    pub lesser_least : (f : CaseFault) (g : Fault) → IsLeastUpTo net policy cs j f → IsFirstFault 2 net policy cs k g
        → rule_number g.rule < rule_number f.fault.rule → IsLeastUpTo net policy cs k (record { case = k; fault = g })
    lesser_least f g least fault lt = new_least g (λ r le. least.earlier r (omega (arith, le, lt))) fault

    pub next_least : (o : Option CaseFault) (g : Option Fault) → IsLeast net policy cs j o → IsFaultFrom 2 net policy cs k g → IsLeast net policy cs k (least_with o k g)
    next_least o None least fault = kept_least o least fault
    next_least None (Some g) least fault = first_least g least fault
    next_least (Some f) (Some g) least fault = elim (leb_tells (rule_number f.fault.rule) (rule_number g.rule)) [
      | inl h ↦ let first = h.0 in rw first (old_least f g least fault h.1)
      | inr h ↦ let later = h.0 in rw later (lesser_least f g least fault h.1)
    ]

  -- ---- the cases of the policy

  module _ (j room : ℕ) (are : AreListed net policy cs j room) where
    number_next : j + 1 ≡ suc j
    number_next = omega arith

    unlisted : (IsListed net policy cs (j + 1) → ⊥) → IsLeastFault net policy cs (record { case = j + 1; fault = record { rule = Cases; first = 0; second = 0 } })
    unlisted off = record {
      most = omega arith;
      earlier = λ r less. absurd (let least = positive r in omega (arith, less, least));
      first = record { fails = off; before = λ i m n below. before i m n below };
    }
      where
        before : (i m n : ℕ) → IsBelow (at_place i m n) (at_place (j + 1) 0 0) → IsListed net policy cs i
        before i m n below = elim (cases_lt i (j + 1)) [
          | inl lt ↦ are.each i (omega (arith, lt))
          | inr ge ↦
              let same : i ≡ j + 1 = omega (arith, below.0, ge) in
              let rest = below.1 same in
              let first : m ≡ 0 = omega (arith, rest.0) in
              let no_less = rest.1 first in
              absurd (omega (arith, no_less))
        ]

    module _ (c : Case) (in_list : slice_get list j ≡ Some c) where
      cut : take (j + 1) list ≡ take j list ++ c ∷ []
      cut = take_next list j c in_list
        where
          take_next : (xs : List Case) (i : ℕ) (x : Case) → slice_get xs i ≡ Some x → take (i + 1) xs ≡ take i xs ++ x ∷ []
          take_next [] i x at = absurd cc
          take_next (y ∷ ys) zero x at = let same : y ≡ x = same_Some y x at in ap (λ z. z ∷ []) same
          take_next (y ∷ ys) (suc i) x at = let e : suc i + 1 ≡ suc (i + 1) = omega arith in rw e (ap (λ zs. y ∷ zs) (take_next ys i x at))

      pub listed_next : (e : PlainCaseEvidence) (steps : ℕ) → slice_get cs j ≡ Some e → e.case ≡ c → IsWithinRoom net policy c room steps → AreListed net policy cs (j + 1) (room - steps)
      listed_next e steps in_cs same within = record { each = each; within = to }
        where
          to : AreWithinTo net policy all_steps (take (j + 1) list) (room - steps)
          to = subst (λ xs. AreWithinTo net policy all_steps xs (room - steps)) (sym cut) (within_more net policy all_steps room steps (take j list) c are.within within)

          there : IsListed net policy cs (suc j)
          there = record {
            same = ap (option_map (λ (x : PlainCaseEvidence). x.case)) in_cs ∙ ap Some same ∙ sym in_list;
            within = subst (λ n. AreWithin net policy all_steps (take n list)) number_next (within_to net policy all_steps (room - steps) (take (j + 1) list) to);
          }

          each : (k : ℕ) → k ≤ j + 1 → IsListed net policy cs k
          each k le = elim (cases_lt k (j + 1)) [
            | inl lt ↦ are.each k (omega (arith, lt))
            | inr ge ↦ let same_k : suc j ≡ k = omega (arith, le, ge) in subst (IsListed net policy cs) same_k there
          ]

      -- the evidence has another case there, or none
      pub other_case : ((e : PlainCaseEvidence) → slice_get cs j ≡ Some e → e.case ≡ c → ⊥) → IsLeastFault net policy cs (record { case = j + 1; fault = record { rule = Cases; first = 0; second = 0 } })
      other_case off = unlisted (λ listed.
          let here = subst (IsListed net policy cs) number_next listed in
          let found = there (slice_get cs j) (here.same ∙ in_list) in
          off found.0 found.1 found.2)
        where
          there : (o : Option PlainCaseEvidence) → option_map (λ (x : PlainCaseEvidence). x.case) o ≡ Some c → (e : PlainCaseEvidence) × (o ≡ Some e) × (e.case ≡ c)
          there None at = absurd cc
          there (Some e) at = (e, refl, same_Some e.case c at)

      -- a limit is passed there
      pub past_limits : ((steps : ℕ) → IsWithinRoom net policy c room steps → ⊥) → IsLeastFault net policy cs (record { case = j + 1; fault = record { rule = Cases; first = 0; second = 0 } })
      past_limits past = unlisted (λ listed.
          let last = within_last net policy all_steps room (take j list) c are.within (subst (AreWithin net policy all_steps) cut listed.within) in
          past last.0 last.1)

    pub too_many : (e : PlainCaseEvidence) → slice_get cs j ≡ Some e → length list ≤ j → IsLeastFault net policy cs (record { case = j + 1; fault = record { rule = Cases; first = 0; second = 0 } })
    too_many e in_cs past = unlisted (λ listed.
        let here = subst (IsListed net policy cs) number_next listed in
        let off = sym (ap (option_map (λ (x : PlainCaseEvidence). x.case)) in_cs) ∙ here.same ∙ slice_get_past list j past in
        cc)

    -- ---- all cases

    module _ (all : length list ≤ j) (no_more : length cs ≤ j) where
      no_case_past : (k : ℕ) → j < k → case_at cs k ≡ None
      no_case_past zero lt = absurd (omega (arith, lt))
      no_case_past (suc k) lt = slice_get_past cs k (omega (arith, no_more, lt))

      listed_past : (k : ℕ) → j < k → listed_at list k ≡ None
      listed_past zero lt = absurd (omega (arith, lt))
      listed_past (suc k) lt = slice_get_past list k (omega (arith, all, lt))

      whole : (xs : List Case) (n : ℕ) → length xs ≤ n → take n xs ≡ xs
      whole [] zero le = refl
      whole [] (suc n) le = refl
      whole (x ∷ xs) zero le = absurd (omega (arith, le))
      whole (x ∷ xs) (suc n) le = ap (λ ys. x ∷ ys) (whole xs n (omega (arith, le)))

      past_listed : (k : ℕ) → j < k → IsListed net policy cs k
      past_listed k lt = record {
        same = ap (option_map (λ (x : PlainCaseEvidence). x.case)) (no_case_past k lt) ∙ sym (listed_past k lt);
        within = subst (AreWithin net policy all_steps) (whole list j all ∙ sym (whole list k (omega (arith, all, lt)))) (within_to net policy all_steps room (take j list) are.within);
      }

      everywhere : (r : CheckRule) → rule_number r < 9 → KeepsUpTo r net policy cs j → Keeps r net policy cs
      everywhere r most upto k m n = elim (cases_lt j k) [
        | inl lt ↦ no_case k (no_case_past k lt) (past_listed k lt) r most m n
        | inr le ↦ upto k le m n
      ]

      pub least_of_all : (o : Option CaseFault) → IsLeast net policy cs j o → IsLeastOrNone net policy cs o
      least_of_all None least = λ r most. everywhere r most (least r most)
      least_of_all (Some f) least = record {
        most = least.most;
        earlier = λ r less. everywhere r (let most = least.most in omega (arith, less, most)) (least.earlier r less);
        first = least.first;
      }

  -- ---- verdicts

  pub before_config : ((r : CheckRule) → rule_number r < 9 → Keeps r net policy cs) → ((k n : ℕ) → KeepsTag net cs k n) → KeepsBefore ConfigDiffers net policy cs
  before_config kept tags Cases lt = kept Cases (omega arith)
  before_config kept tags Walks lt = kept Walks (omega arith)
  before_config kept tags Ranks lt = kept Ranks (omega arith)
  before_config kept tags Mixed lt = kept Mixed (omega arith)
  before_config kept tags PrefRank lt = kept PrefRank (omega arith)
  before_config kept tags PrefStep lt = kept PrefStep (omega arith)
  before_config kept tags PrefLoop lt = kept PrefLoop (omega arith)
  before_config kept tags PrefListener lt = kept PrefListener (omega arith)
  before_config kept tags Tags lt = λ k m n. tags k m
  before_config kept tags ConfigDiffers lt = absurd (omega (arith, lt))

  module _ (config : PlainConfig) where
    pub case_verdict : (r : CheckRule) (shown : Shown) → rule_number r < 9 → IsFault net policy cs r shown → IsVerdict net policy config cs (Fails r shown)
    case_verdict Cases shown lt h = h
    case_verdict Walks shown lt h = h
    case_verdict Ranks shown lt h = h
    case_verdict Mixed shown lt h = h
    case_verdict PrefRank shown lt h = h
    case_verdict PrefStep shown lt h = h
    case_verdict PrefLoop shown lt h = h
    case_verdict PrefListener shown lt h = h
    case_verdict Tags shown lt h = h
    case_verdict ConfigDiffers shown lt h = absurd (omega (arith, lt))

    pub holds : KeepsBefore ConfigDiffers net policy cs → IsConfigOf net policy cs config → IsVerdict net policy config cs Holds
    holds before lines = (passing net policy config cs).1 (all_rules net policy cs before, lines)
