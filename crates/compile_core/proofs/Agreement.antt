-- Two lists of accepted cases agree as far as both go.
use Rattle.std.proofs.Common.{◌≡◌, ℕ, ◌+◌, ◌-◌, ◌<◌, ◌≤◌, List, [], ◌∷◌, ◌++◌, length, refl, sym, ap, subst, ◌∙◌, arith, append-nil, length-append}
use Rattle.std.proofs.lemmas.List.Sums.{sum_by-cons}
use Rattle.net_base.specs.Network.{PlainNet}
use Rattle.policy_base.specs.Cases.{case_list}
use Rattle.policy_base.specs.Policies.{PlainPolicy}
use Rattle.policy_base.specs.CaseNumbers.{OfCase}
use Rattle.case_core.specs.declared.refusal.CompileRefusal.{CompileRefusal}
use Rattle.case_core.specs.declared.refusal.CompileRefusal.TheVariants.{NoMemory}
use Rattle.case_evidence.specs.declared.accepted.AcceptedCase.{AcceptedCase}
use Rattle.case_evidence.specs.Accepted.{IsCaseCause}
use Rattle.case_evidence.proofs.OneVerdict.{not_refused, one_accepted}
use Rattle.evidence_law.specs.Passes.{all_steps}
use Rattle.compile_core.specs.Compiling.{AreAccepted, AreAcceptedFrom, room_after}
use Rattle.compile_core.proofs.OneByOne.{IsAcceptedAt, there, used_by}

module _ (net : PlainNet) (policy : PlainPolicy) where
  -- the shorter list is a front of the longer one
  agree : (j room : ℕ) (some more : List AcceptedCase) → AreAcceptedFrom net policy (j + 1) room some → AreAcceptedFrom net policy (j + 1) room more → length some ≤ length more
      → j + length some ≤ length (case_list net policy) → (rest : List AcceptedCase) × (more ≡ some ++ rest)
  agree j room [] more a b fewer within = (more, refl)
  agree j room (x ∷ some) [] a b fewer within = absurd (omega (arith, fewer))
  agree j room (x ∷ some) (y ∷ more) a b fewer within =
      let case = there net policy j (j + 1) (omega (arith, within)) refl in
      let same : x ≡ y = one_accepted net room case.0 case.1 x y (a.0 case.0 case.1 case.2) (b.0 case.0 case.1 case.2) in
      let later : AreAcceptedFrom net policy (j + 1 + 1) (room - y.used) some = subst (λ (z : AcceptedCase). AreAcceptedFrom net policy (j + 1 + 1) (room - z.used) some) same a.1 in
      let front = agree (j + 1) (room - y.used) some more later b.1 (omega (arith, fewer)) (omega (arith, within)) in
      (front.0, λ i. sym same i ∷ front.1 i)

  -- the case behind some others is accepted with the room that they leave
  behind : (k room number left : ℕ) (before later : List AcceptedCase) (a : AcceptedCase) → AreAcceptedFrom net policy k room (before ++ a ∷ later)
      → number ≡ k + length before → left ≡ room - used_by before
      → IsAcceptedAt net policy number left a
  behind k room number left [] later a each at rest =
      let first : k ≡ number = omega (arith, at) in
      let whole : room ≡ left = omega (arith, rest) in
      subst (λ n. IsAcceptedAt net policy n left a) first (subst (λ r. IsAcceptedAt net policy k r a) whole each.0)
  behind k room number left (b ∷ before) later a each at rest =
      behind (k + 1) (room - b.used) number left before later a each.1 (omega (arith, at)) (omega (arith, rest, sum_by-cons (λ (x : AcceptedCase). x.used) b before))

  refused_behind : (before rest more : List AcceptedCase) (e : CompileRefusal) → more ≡ before ++ rest → length before < length more
      → length before < length (case_list net policy) → AreAccepted net policy more
      → OfCase net policy (length before + 1) (λ s c. IsCaseCause net (length before + 1) (room_after before) s c e) → e ≡ NoMemory
  refused_behind before [] more e is fewer within each cause = absurd (omega (arith, fewer, ap length (is ∙ append-nil before)))
  refused_behind before (a ∷ later) more e is fewer within each cause =
      let case = there net policy (length before) (length before + 1) within refl in
      let accepted = behind 1 all_steps (length before + 1) (room_after before) before later a (subst (AreAccepted net policy) is each) (omega arith) refl in
      not_refused net (length before + 1) (room_after before) case.0 case.1 a e (accepted case.0 case.1 case.2) (cause case.0 case.1 case.2)

  -- where more cases are accepted than before a refusal, this is for want of memory
  pub not_refused_before : (before more : List AcceptedCase) (e : CompileRefusal) → AreAccepted net policy before → AreAccepted net policy more → length before < length more
      → length more ≤ length (case_list net policy) → OfCase net policy (length before + 1) (λ s c. IsCaseCause net (length before + 1) (room_after before) s c e) → e ≡ NoMemory
  not_refused_before before more e a b fewer within cause =
      let front = agree 0 all_steps before more a b (omega (arith, fewer)) (omega (arith, fewer, within)) in
      refused_behind before front.0 more e front.1 fewer (omega (arith, fewer, within)) b cause

  nothing_more : (some rest : List AcceptedCase) (more : List AcceptedCase) → more ≡ some ++ rest → length some ≡ length more → some ≡ more
  nothing_more some [] more is long = sym (is ∙ append-nil some)
  nothing_more some (x ∷ rest) more is long = absurd (omega (arith, long, ap length is, length-append some (x ∷ rest)))

  -- two lists of as many cases are one
  pub as_many_are_one : (some more : List AcceptedCase) → AreAccepted net policy some → AreAccepted net policy more → length some ≡ length more
      → length some ≤ length (case_list net policy) → some ≡ more
  as_many_are_one some more a b long within =
      let front = agree 0 all_steps some more a b (omega (arith, long)) (omega (arith, within)) in
      nothing_more some front.0 more front.1 long
