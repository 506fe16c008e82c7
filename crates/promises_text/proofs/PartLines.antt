-- Each part stands on the line of its case.
use Rattle.std.proofs.Common.{◌≡◌, ℕ, ◌+◌, zero, suc, Bool, true, false, List, [], ◌∷◌, Some, inl, inr, refl, sym, ap, ap₂, ◌∙◌, arith}
use Rattle.std.specs.Prelude.{◌==◌, slice_get, if◌then◌else◌}
use Rattle.std.specs.List.{list_any}
use Rattle.std.proofs.lemmas.Bool.{cases_Bool, eqb-true, eq-eqb, true≢false}
use Rattle.std.proofs.lemmas.Option.{same_Some}
use Rattle.list_law.specs.Members.{IsIn}
use Rattle.list_law.proofs.Members.{IsIn-append_cases, IsIn-cons_cases, IsIn-later, IsIn-nil, list_any-from_IsIn, list_any_member}
use Rattle.net_base.specs.Network.{PlainNet}
use Rattle.policy_base.specs.declared.case.Case.{Case}
use Rattle.policy_base.specs.Cases.{case_list}
use Rattle.own_space.specs.declared.open_case.OpenCase.{OpenCase}
use Rattle.own_space.specs.Open.{number_of}
use Rattle.own_space.proofs.Telling.{parts_tell_something}
use Rattle.promises_report.specs.Promises.{Promises}
use Rattle.promises_report.specs.Taking.{takes, taking_case, taking_cases}
use Rattle.promises_report.proofs.Taking.{parts_are_what_is_taken}
use Rattle.promises_text.specs.Laws.{OpenLinesAreWhatIsTaken, OpenLinesTellOfParts, open_cases}

-- the number of a statement's case is that of one of the cases
numbered : (cs : List OpenCase) (k n : ℕ) → number_of cs k ≡ Some n → (c : OpenCase) × IsIn cs c × (n ≡ c.number)
numbered [] k n h = absurd cc
numbered (d ∷ cs) k n h = by (d.statement == k) h (numbered cs k n)
  where
    by : (same : Bool) → (if same then Some d.number else number_of cs k) ≡ Some n → (number_of cs k ≡ Some n → (c : OpenCase) × IsIn cs c × (n ≡ c.number))
        → (c : OpenCase) × IsIn (d ∷ cs) c × (n ≡ c.number)
    by true is rest = (d, (0, refl), sym (same_Some d.number n is))
    by false is rest = let x = rest is in (x.0, IsIn-later d x.0 cs x.1, x.2)

-- ---- a case in which some router takes what peers announce stands at the place that its number says

abbrev pub numbered_as : Case → ℕ → OpenCase
numbered_as e n = record { number = n; statement = e.statement }

pub record IsPlaced (j : ℕ) (cs : List Case) (c : OpenCase) : Type 0 where
  pub place : ℕ
  pub case : Case
  pub at : slice_get cs place ≡ Some case
  pub is : c ≡ numbered_as case (j + place)

placed : (net : PlainNet) (j : ℕ) (cs : List Case) (xs : List Promises) (c : OpenCase) → IsIn (taking_cases net j cs xs) c → IsPlaced j cs c
placed net j [] xs c at = absurd (IsIn-nil c at)
placed net j (e ∷ cs) [] c at = absurd (IsIn-nil c at)
placed net j (e ∷ cs) (a ∷ xs) c at = elim (IsIn-append_cases (taking_case net j e a) (taking_cases net (suc j) cs xs) c at) [
  | inl first ↦ here (takes net e a) first
  | inr last ↦
      let x = placed net (suc j) cs xs c last in
      let next : suc j + x.place ≡ j + suc x.place = omega arith in
      record { place = suc x.place; case = x.case; at = x.at; is = x.is ∙ ap (numbered_as x.case) next }
]
  where
    here : (b : Bool) → IsIn (if b then numbered_as e j ∷ [] else []) c → IsPlaced j (e ∷ cs) c
    here false at = absurd (IsIn-nil c at)
    here true at = elim (IsIn-cons_cases (numbered_as e j) [] c at) [
      | inl same ↦
          let none : j ≡ j + zero = omega arith in
          record { place = zero; case = e; at = refl; is = sym same ∙ ap (numbered_as e) none }
      | inr none ↦ absurd (IsIn-nil c none)
    ]

-- so two of one number are one
one_numbered : (cs : List Case) (c d : OpenCase) → IsPlaced 1 cs c → IsPlaced 1 cs d → c.number ≡ d.number → c ≡ d
one_numbered cs c d x y same =
    let first : c.number ≡ 1 + x.place = ap (λ (o : OpenCase). o.number) x.is in
    let second : d.number ≡ 1 + y.place = ap (λ (o : OpenCase). o.number) y.is in
    let place : x.place ≡ y.place = omega (arith, first, second, same) in
    let there : x.case ≡ y.case = same_Some x.case y.case (sym x.at ∙ ap (slice_get cs) place ∙ y.at) in
    x.is ∙ ap₂ (λ (n : ℕ) (e : Case). numbered_as e (1 + n)) place there ∙ sym y.is

-- ---- the lines

pub open_lines_tell_of_parts : OpenLinesTellOfParts
open_lines_tell_of_parts net policy kept xs part at =
    elim (cases_Bool (list_any mine taking)) [
      | inl some ↦
          let x = list_any_member mine taking some in
          let same : part.number ≡ x.0.number = eqb-true _ _ x.2 in
          (x.0, record { listed = x.1; told = at; number = same }, λ d on. one x.0 d (there x.0 x.1) (there d on.listed) (sym same ∙ on.number))
      | inr none ↦ absurd (parts_tell_something net policy kept taking part at (λ p own tells.
          let x = numbered taking tells.governed.0 part.number tells.governed.2 in
          true≢false (sym (list_any-from_IsIn mine taking x.0 x.1 (eq-eqb _ _ x.2)) ∙ none)))
    ]
  where
    taking : List OpenCase
    taking = open_cases net policy xs

    mine : OpenCase → Bool
    mine c = part.number == c.number

    there : (c : OpenCase) → IsIn taking c → IsPlaced 1 (case_list net policy) c
    there = placed net 1 (case_list net policy) xs

    one : (c d : OpenCase) → IsPlaced 1 (case_list net policy) c → IsPlaced 1 (case_list net policy) d → c.number ≡ d.number → c ≡ d
    one = one_numbered (case_list net policy)

pub open_lines_are_what_is_taken : OpenLinesAreWhatIsTaken
open_lines_are_what_is_taken net policy rules kept xs promised p mine own =
    let law = parts_are_what_is_taken net policy rules kept xs promised p mine own in (
      λ told. law.0 (told.1, told.2.told, told.3),
      λ taken.
          let x = law.1 taken in
          let c = numbered (open_cases net policy xs) x.2.governed.0 x.0.number x.2.governed.2 in
          (c.0, x.0, record { listed = c.1; told = x.1; number = c.2 }, x.2),
    )
