-- The cases are within the limits one after the other.
use Rattle.std.proofs.Common.{◌≡◌, ℕ, zero, suc, ◌+◌, ◌-◌, ◌<◌, ◌≤◌, List, [], ◌∷◌, ◌++◌, length, refl, sym, ap, subst, ◌∙◌, inl, inr, arith, append-nil, length-append}
use Rattle.std.specs.Prelude.{◌⊎◌, sum_by}
use Rattle.std.proofs.lemmas.Bool.{cases_order}
use Rattle.std.proofs.lemmas.List.{length_push}
use Rattle.std.proofs.lemmas.List.Sums.{sum_by-append, sum_by-cons}
use Rattle.std.proofs.lemmas.Option.{slice_get_within}
use Rattle.list_law.proofs.Items.{slice_get_inside}
use Rattle.policy_base.specs.declared.limits.TheConstants.{ALTERNATIVES}
use Rattle.net_base.specs.Network.{PlainNet}
use Rattle.policy_base.specs.declared.case.Case.{Case}
use Rattle.policy_base.specs.Cases.{case_list}
use Rattle.policy_base.specs.Meaning.{alternative_count}
use Rattle.policy_base.specs.Policies.{PlainPolicy, PlainStatement}
use Rattle.path_exprs.specs.Standings.{plan_for}
use Rattle.walk_states.proofs.OneGraph.{one-graph}
use Rattle.graph_base.specs.Graphs.{PlainGraph}
use Rattle.graph_law.specs.Limits.{IsBuiltWithin}
use Rattle.evidence_law.specs.Passes.{all_steps}
use Rattle.policy_base.specs.CaseNumbers.{OfCase, IsCase}
use Rattle.policy_base.proofs.KnownCases.{case_known}
use Rattle.case_core.specs.declared.cases.CaseGraph.{CaseGraph}
use Rattle.case_core.specs.declared.refusal.CompileRefusal.TheVariants as compile
use Rattle.case_core.specs.Refusals.{IsCause, IsGraphOf}
use Rattle.case_core.proofs.OneCause.{few_states, few_steps, one_cause}
use Rattle.case_core.proofs.Places.{of_case}
use Rattle.case_graphs.specs.declared.refusal.LimitRefusal.{LimitRefusal}
use Rattle.case_graphs.specs.declared.refusal.LimitRefusal.TheVariants.{TooManyRanks, TooManyStates, TooManySteps, NoMemory}
use Rattle.case_graphs.specs.Limits.{AreAllWithin, AreWithin, AreWithinFrom, IsRefused, compile_refusal, steps_left}

abbrev steps_of : List PlainGraph → ℕ
steps_of graphs = sum_by (λ (g : PlainGraph). length g.steps) graphs

-- the case with this number is within the limits, with so much room and with this graph
abbrev pub IsBuiltAt : PlainNet → PlainPolicy → ℕ → ℕ → PlainGraph → Type 0
IsBuiltAt net policy number room g = OfCase net policy number (λ s c. IsBuiltWithin net room s c g)

-- the first k cases are within the limits, and leave so much room
pub record AreGone (net : PlainNet) (policy : PlainPolicy) (k room : ℕ) : Type 0 where
  pub graphs : List PlainGraph
  pub each : AreWithin net policy graphs
  pub count : length graphs ≡ k
  pub left : room ≡ steps_left graphs

-- there is a case with each number
pub there : (net : PlainNet) (policy : PlainPolicy) (k : ℕ) → k < length (case_list net policy) → (s : PlainStatement) × (c : Case) × IsCase net policy (k + 1) s c
there net policy k within =
    let found = slice_get_inside (case_list net policy) k within in
    let statement = (case_known net policy k found.0 found.1).statement in
    let after : suc k ≡ k + 1 = omega arith in
    let here : IsCase net policy (suc k) statement.0 found.0 = record { case = found.1; statement = statement.1 } in
    (statement.0, found.0, subst (λ n. IsCase net policy n statement.0 found.0) after here)

module _ (net : PlainNet) (policy : PlainPolicy) where
  -- what is built of the case that is given
  pub built_at : (number room : ℕ) (given : CaseGraph) (s : PlainStatement) (c : Case) → IsCase net policy number s c → OfCase net policy number (λ t d. IsGraphOf net room t d given)
      → (g : PlainGraph) × IsBuiltAt net policy number room g × (given.used ≡ length g.steps)
  built_at number room given s c is each =
      let made = each s c is in
      (made.0, of_case is (λ t d. IsBuiltWithin net room t d made.0) made.1.within, made.2)

  one_more : (k room number left : ℕ) (before : List PlainGraph) (g : PlainGraph) → number ≡ k + length before → left ≡ room - steps_of before
      → AreWithinFrom net policy k room before → IsBuiltAt net policy number left g → AreWithinFrom net policy k room (before ++ g ∷ [])
  one_more k room number left [] g at rest each is =
      let first : number ≡ k = omega (arith, at) in
      let whole : left ≡ room = omega (arith, rest) in
      (subst (λ r. IsBuiltAt net policy k r g) whole (subst (λ n. IsBuiltAt net policy n left g) first is), tt)
  one_more k room number left (b ∷ before) g at rest each is =
      (each.0, one_more (k + 1) (room - length b.steps) number left before g (omega (arith, at)) (omega (arith, rest, sum_by-cons (λ (x : PlainGraph). length x.steps) b before)) each.1 is)

  -- one more case is within the limits
  pub gone_more : (k room left : ℕ) (g : PlainGraph) → AreGone net policy k room → IsBuiltAt net policy (k + 1) room g → left ≡ room - length g.steps → AreGone net policy (k + 1) left
  gone_more k room left g before is rest =
      let past = before.graphs in
      record {
        graphs = past ++ g ∷ [];
        each = one_more 1 all_steps (k + 1) room past g (omega (arith, before.count)) before.left before.each is;
        count = length_push past g ∙ ap (λ n. n + 1) before.count;
        left = omega (arith, rest, before.left, sum_by-append (λ (x : PlainGraph). length x.steps) past (g ∷ []), sum_by-cons (λ (x : PlainGraph). length x.steps) g []);
      }

  -- what refuses the next case refuses the policy
  refusal_of : (before : List PlainGraph) (e : LimitRefusal) → AreWithin net policy before → length before < length (case_list net policy)
      → OfCase net policy (length before + 1) (λ s c. IsCause net (length before + 1) (steps_left before) s c (compile_refusal e)) → IsRefused net policy e
  refusal_of before (TooManyRanks k count) each within cause = (before, each, within, cause)
  refusal_of before (TooManyStates k) each within cause = (before, each, within, cause)
  refusal_of before (TooManySteps k) each within cause = (before, each, within, cause)
  refusal_of before NoMemory each within cause = tt

  pub refused_next : (k room : ℕ) (e : LimitRefusal) → AreGone net policy k room → k < length (case_list net policy)
      → OfCase net policy (k + 1) (λ s c. IsCause net (k + 1) room s c (compile_refusal e)) → IsRefused net policy e
  refused_next k room e before within cause =
      refusal_of before.graphs e before.each (omega (arith, within, before.count))
      (subst (λ r. OfCase net policy (length before.graphs + 1) (λ s c. IsCause net (length before.graphs + 1) r s c (compile_refusal e))) before.left
      (subst (λ n. OfCase net policy (n + 1) (λ s c. IsCause net (n + 1) room s c (compile_refusal e))) (sym before.count) cause))

  -- the case with each number is within the limits
  within_at : (k room i : ℕ) (graphs : List PlainGraph) → AreWithinFrom net policy k room graphs → i < length graphs → (left : ℕ) × (g : PlainGraph) × IsBuiltAt net policy (k + i) left g
  within_at k room i [] each less = absurd (omega (arith, less))
  within_at k room zero (g ∷ later) each less =
      let here : k ≡ k + 0 = omega arith in
      (room, g, subst (λ n. IsBuiltAt net policy n room g) here each.0)
  within_at k room (suc i) (g ∷ later) each less =
      let found = within_at (k + 1) (room - length g.steps) i later each.1 (omega (arith, less)) in
      let there_ : k + 1 + i ≡ k + suc i = omega arith in
      (found.0, found.1, subst (λ n. IsBuiltAt net policy n found.0 found.1) there_ found.2)

  -- so it has no more alternatives than there may be
  pub few_alternatives : (number : ℕ) (s : PlainStatement) (c : Case) → AreAllWithin net policy → IsCase net policy number s c → alternative_count s.ranked ≤ ALTERNATIVES
  few_alternatives zero s c all is = let at = is.case in absurd cc
  few_alternatives (suc i) s c all is =
      let within = slice_get_within (case_list net policy) i c is.case in
      let found = within_at 1 all_steps i all.0 all.1 (omega (arith, within, all.2)) in
      let same : suc i ≡ 1 + i = omega arith in
      (found.2 s c (subst (λ n. IsCase net policy n s c) same is)).ranks

  -- ---- one refusal

  -- the shorter list is a front of the longer one
  agree : (j room : ℕ) (some more : List PlainGraph) → AreWithinFrom net policy (j + 1) room some → AreWithinFrom net policy (j + 1) room more → length some ≤ length more
      → j + length some ≤ length (case_list net policy) → (rest : List PlainGraph) × (more ≡ some ++ rest)
  agree j room [] more a b fewer within = (more, refl)
  agree j room (x ∷ some) [] a b fewer within = absurd (omega (arith, fewer))
  agree j room (x ∷ some) (y ∷ more) a b fewer within =
      let case = there net policy j (omega (arith, within)) in
      let same : x ≡ y = one-graph net (plan_for net case.0 case.1) x y (a.0 case.0 case.1 case.2).built (b.0 case.0 case.1 case.2).built in
      let later : AreWithinFrom net policy (j + 1 + 1) (room - length y.steps) some = subst (λ (z : PlainGraph). AreWithinFrom net policy (j + 1 + 1) (room - length z.steps) some) same a.1 in
      let front = agree (j + 1) (room - length y.steps) some more later b.1 (omega (arith, fewer)) (omega (arith, within)) in
      (front.0, λ i. sym same i ∷ front.1 i)

  -- the case behind some others is within the limits with the room that they leave
  behind : (k room number left : ℕ) (before later : List PlainGraph) (g : PlainGraph) → AreWithinFrom net policy k room (before ++ g ∷ later)
      → number ≡ k + length before → left ≡ room - steps_of before
      → IsBuiltAt net policy number left g
  behind k room number left [] later g each at rest =
      let first : k ≡ number = omega (arith, at) in
      let whole : room ≡ left = omega (arith, rest) in
      subst (λ n. IsBuiltAt net policy n left g) first (subst (λ r. IsBuiltAt net policy k r g) whole each.0)
  behind k room number left (b ∷ before) later g each at rest =
      behind (k + 1) (room - length b.steps) number left before later g each.1 (omega (arith, at)) (omega (arith, rest, sum_by-cons (λ (x : PlainGraph). length x.steps) b before))

  -- a case within the limits isn't refused for them
  not_past : (number room : ℕ) (s : PlainStatement) (c : Case) (g : PlainGraph) (e : LimitRefusal) → IsBuiltWithin net room s c g → IsCause net number room s c (compile_refusal e) → e ≡ NoMemory
  not_past number room s c g (TooManyRanks k count) is h = absurd (omega (arith, is.ranks, h.1))
  not_past number room s c g (TooManyStates k) is h = absurd (few_states net number room s c g is h.2)
  not_past number room s c g (TooManySteps k) is h = absurd (few_steps net number room s c g is h.2)
  not_past number room s c g NoMemory is h = refl

  refused_behind : (before rest more : List PlainGraph) (e : LimitRefusal) → more ≡ before ++ rest → length before < length more
      → length before < length (case_list net policy) → AreWithin net policy more
      → OfCase net policy (length before + 1) (λ s c. IsCause net (length before + 1) (steps_left before) s c (compile_refusal e)) → e ≡ NoMemory
  refused_behind before [] more e is fewer within each cause = absurd (omega (arith, fewer, ap length (is ∙ append-nil before)))
  refused_behind before (g ∷ later) more e is fewer within each cause =
      let case = there net policy (length before) within in
      let built = behind 1 all_steps (length before + 1) (steps_left before) before later g (subst (AreWithin net policy) is each) (omega arith) refl in
      not_past (length before + 1) (steps_left before) case.0 case.1 g e (built case.0 case.1 case.2) (cause case.0 case.1 case.2)

  -- where more cases are within the limits than before a refusal, this is for want of memory
  not_refused_before : (before more : List PlainGraph) (e : LimitRefusal) → AreWithin net policy before → AreWithin net policy more → length before < length more
      → length more ≤ length (case_list net policy) → OfCase net policy (length before + 1) (λ s c. IsCause net (length before + 1) (steps_left before) s c (compile_refusal e)) → e ≡ NoMemory
  not_refused_before before more e a b fewer within cause =
      let front = agree 0 all_steps before more a b (omega (arith, fewer)) (omega (arith, fewer, within)) in
      refused_behind before front.0 more e front.1 fewer (omega (arith, fewer, within)) b cause

  nothing_more : (some rest : List PlainGraph) (more : List PlainGraph) → more ≡ some ++ rest → length some ≡ length more → some ≡ more
  nothing_more some [] more is long = sym (is ∙ append-nil some)
  nothing_more some (x ∷ rest) more is long = absurd (omega (arith, long, ap length is, length-append some (x ∷ rest)))

  as_many_are_one : (some more : List PlainGraph) → AreWithin net policy some → AreWithin net policy more → length some ≡ length more → length some ≤ length (case_list net policy) → some ≡ more
  as_many_are_one some more a b long within =
      let front = agree 0 all_steps some more a b (omega (arith, long)) (omega (arith, within)) in
      nothing_more some front.0 more front.1 long

  -- the cases before are within the limits, and the next one is refused
  record IsOfCase (e : LimitRefusal) : Type 0 where
    before : List PlainGraph
    each : AreWithin net policy before
    within : length before < length (case_list net policy)
    cause : OfCase net policy (length before + 1) (λ s c. IsCause net (length before + 1) (steps_left before) s c (compile_refusal e))

  kinds : (e : LimitRefusal) → IsRefused net policy e → (e ≡ NoMemory) ⊎ IsOfCase e
  kinds NoMemory h = inl refl
  kinds (TooManyRanks k n) h = inr (record { before = h.0; each = h.1; within = h.2; cause = h.3 })
  kinds (TooManyStates k) h = inr (record { before = h.0; each = h.1; within = h.2; cause = h.3 })
  kinds (TooManySteps k) h = inr (record { before = h.0; each = h.1; within = h.2; cause = h.3 })

  pub not_refused : (e : LimitRefusal) → AreAllWithin net policy → IsRefused net policy e → e ≡ NoMemory
  not_refused e all h = elim (kinds e h) [
    | inl none ↦ none
    | inr of ↦ not_refused_before of.before all.0 e of.each all.1 (omega (arith, of.within, all.2)) (omega (arith, all.2)) of.cause
  ]

  -- as refusals of the compiler they are as many
  same_refusal : (e f : LimitRefusal) → compile_refusal e ≡ compile_refusal f → e ≡ f
  same_refusal (TooManyRanks k n) (TooManyRanks j m) h = cc
  same_refusal (TooManyRanks k n) (TooManyStates j) h = absurd cc
  same_refusal (TooManyRanks k n) (TooManySteps j) h = absurd cc
  same_refusal (TooManyRanks k n) NoMemory h = absurd cc
  same_refusal (TooManyStates k) (TooManyRanks j m) h = absurd cc
  same_refusal (TooManyStates k) (TooManyStates j) h = cc
  same_refusal (TooManyStates k) (TooManySteps j) h = absurd cc
  same_refusal (TooManyStates k) NoMemory h = absurd cc
  same_refusal (TooManySteps k) (TooManyRanks j m) h = absurd cc
  same_refusal (TooManySteps k) (TooManyStates j) h = absurd cc
  same_refusal (TooManySteps k) (TooManySteps j) h = cc
  same_refusal (TooManySteps k) NoMemory h = absurd cc
  same_refusal NoMemory (TooManyRanks j m) h = absurd cc
  same_refusal NoMemory (TooManyStates j) h = absurd cc
  same_refusal NoMemory (TooManySteps j) h = absurd cc
  same_refusal NoMemory NoMemory h = refl

  as_limits : (e f : LimitRefusal)
      → (compile_refusal e ≡ compile.NoMemory) ⊎ (compile_refusal f ≡ compile.NoMemory) ⊎ (compile_refusal e ≡ compile_refusal f)
      → (e ≡ NoMemory) ⊎ (f ≡ NoMemory) ⊎ (e ≡ f)
  as_limits e f (inl h) = inl (same_refusal e NoMemory h)
  as_limits e f (inr (inl h)) = inr (inl (same_refusal f NoMemory h))
  as_limits e f (inr (inr h)) = inr (inr (same_refusal e f h))

  both_cases : (e f : LimitRefusal) → IsOfCase e → IsOfCase f → (e ≡ NoMemory) ⊎ (f ≡ NoMemory) ⊎ (e ≡ f)
  both_cases e f a b = elim (cases_order (length a.before) (length b.before)) [
    | inr (inl less) ↦ inl (not_refused_before a.before b.before e a.each b.each less (omega (arith, b.within)) a.cause)
    | inl long ↦
        let same = as_many_are_one b.before a.before b.each a.each (sym long) (omega (arith, b.within)) in
        let other = subst (λ (xs : List PlainGraph). OfCase net policy (length xs + 1) (λ s c. IsCause net (length xs + 1) (steps_left xs) s c (compile_refusal f))) same b.cause in
        let case = there net policy (length a.before) a.within in
        as_limits e f
        (one_cause net (length a.before + 1) (steps_left a.before) case.0 case.1 (compile_refusal e) (compile_refusal f) (a.cause case.0 case.1 case.2) (other case.0 case.1 case.2))
    | inr (inr more) ↦ inr (inl (not_refused_before b.before a.before f b.each a.each more (omega (arith, a.within)) b.cause))
  ]

  pub one_refusal : (e f : LimitRefusal) → IsRefused net policy e → IsRefused net policy f → (e ≡ NoMemory) ⊎ (f ≡ NoMemory) ⊎ (e ≡ f)
  one_refusal e f a b = elim (kinds e a) [
    | inl none ↦ inl none
    | inr of ↦ elim (kinds f b) [
      | inl none ↦ inr (inl none)
      | inr other ↦ both_cases e f of other
    ]
  ]
