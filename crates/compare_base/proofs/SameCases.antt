-- When two pairs of cases are the same.
use Rattle.std.proofs.Common.{◌≡◌, true, Option, Some, None, refl, sym, ap, ◌∙◌}
use Rattle.std.specs.Option.{option_eq}
use Rattle.std.proofs.lemmas.Bool.{and_from, and_parts, false≢true}
use Rattle.std.proofs.lemmas.Slice.Eq.{bytes_eq-Decides}
use Rattle.list_law.proofs.Options.{option_eq-is, is-option_eq}
use Rattle.list_law.proofs.Truth.{same_tests}
use Rattle.net_base.specs.declared.loc.LocSet.{LocSet}
use Rattle.net_base.specs.Sets.{same_set}
use Rattle.evidence_law.proofs.CaseLists.{set_is}
use Rattle.compare_base.specs.declared.cases.PrefixCase.{PrefixCase}
use Rattle.compare_base.specs.declared.cases.CasePair.{CasePair}
use Rattle.compare_base.specs.Same.{same_case, same_cases}

sets_are : (a b : Option LocSet) → option_eq same_set a b ≡ true → a ≡ b
sets_are None None same = refl
sets_are None (Some t) same = absurd (false≢true same)
sets_are (Some s) None same = absurd (false≢true same)
sets_are (Some s) (Some t) same = ap Some (set_is s t same)

sets_same : (a b : Option LocSet) → a ≡ b → option_eq same_set a b ≡ true
sets_same a b is = ap (λ o. option_eq same_set a o) (sym is) ∙ itself a
  where
    itself : (o : Option LocSet) → option_eq same_set o o ≡ true
    itself None = refl
    itself (Some s) = (bytes_eq-Decides s.words s.words).1 refl

pub case_is : (a b : PrefixCase) → same_case a b ≡ true → a ≡ b
case_is a b same =
    let parts = and_parts _ _ same in
    let statement = option_eq-is a.statement b.statement parts.0 in
    let origins = sets_are a.origins b.origins parts.1 in
    λ i. record { statement = statement i; origins = origins i }

pub case_same : (a b : PrefixCase) → a ≡ b → same_case a b ≡ true
case_same a b is = and_from _ _ (is-option_eq a.statement b.statement (ap (λ (c : PrefixCase). c.statement) is)) (sets_same a.origins b.origins (ap (λ (c : PrefixCase). c.origins) is))

pub cases_are : (a b : CasePair) → same_cases a b ≡ true → a ≡ b
cases_are a b same =
    let parts = and_parts _ _ same in
    let old = case_is a.old b.old parts.0 in
    let new = case_is a.new b.new parts.1 in
    λ i. record { old = old i; new = new i }

pub cases_same : (a b : CasePair) → a ≡ b → same_cases a b ≡ true
cases_same a b is = and_from _ _ (case_same a.old b.old (ap (λ (c : CasePair). c.old) is)) (case_same a.new b.new (ap (λ (c : CasePair). c.new) is))

pub cases_turned : (a b : CasePair) → same_cases a b ≡ same_cases b a
cases_turned a b = same_tests (same_cases a b) (same_cases b a) (λ h. cases_same b a (sym (cases_are a b h))) (λ h. cases_same a b (sym (cases_are b a h)))
