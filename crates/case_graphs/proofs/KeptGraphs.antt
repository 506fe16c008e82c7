-- The graphs of the cases that were gone over are kept.
use Rattle.std.proofs.Common.{◌≡◌, ℕ, zero, suc, ◌+◌, ◌≤◌, Bool, true, false, length, Option, Some, None, refl, sym, ap, subst, ◌∙◌, inl, inr, arith}
use Rattle.std.specs.Prelude.{if◌then◌else◌, unwrap_or}
use Rattle.std.proofs.lemmas.Bool.{cases_Bool, cases_order, false≢true}
use Rattle.std.proofs.lemmas.Option.{same_Some, slice_get_within}
use Rattle.list_law.proofs.Options.{cases_Option}
use Rattle.indexmap.specs.IndexMap.{get}
use Rattle.policy_base.specs.declared.limits.TheConstants.{ALTERNATIVES}
use Rattle.net_base.specs.declared.loc.LocSet.{LocSet}
use Rattle.net_base.specs.Network.{PlainNet, is_peer}
use Rattle.net_base.specs.Sets.{holds, set_of}
use Rattle.policy_base.specs.declared.case.Case.{Case}
use Rattle.policy_base.specs.Cases.{case_list}
use Rattle.policy_base.specs.CaseNumbers.{IsCase, case_at}
use Rattle.policy_base.specs.Meaning.{alternative_count}
use Rattle.policy_base.specs.Policies.{PlainPolicy, PlainStatement, statement_at}
use Rattle.policy_base.proofs.KnownCases.{IsKnown, case_known}
use Rattle.graph_base.specs.Graphs.{PlainGraph}
use Rattle.path_exprs.specs.Forward.{expressions}
use Rattle.path_exprs.specs.Standings.{Plan, plan_for}
use Rattle.walk_states.specs.Built.{IsBuilt}
use Rattle.evidence_law.specs.Passes.{all_steps}
use Rattle.compare_base.specs.declared.cases.PrefixCase.{PrefixCase}
use Rattle.compare_base.specs.Same.{same_case}
use Rattle.compare_base.proofs.SameCases.{case_is, case_same}
use Rattle.case_core.specs.Refusals.{IsMade}
use Rattle.case_graphs.specs.declared.graphs.CaseGraphs.{CaseGraphs}
use Rattle.case_graphs.specs.Graphs.{AreCaseGraphs, HasCase, graph_in, no_graph, prefix_case}

-- ---- one graph serves all of them

-- a case is external or not, and has these origins where it isn't
kinds_agree : (e f : Bool) (a b : LocSet) → (if e then None else Some a) ≡ (if f then None else Some b) → (e ≡ f) × (e ≡ false → a ≡ b)
kinds_agree true true a b same = (refl, λ h. absurd (false≢true (sym h)))
kinds_agree true false a b same = absurd cc
kinds_agree false true a b same = absurd cc
kinds_agree false false a b same = (refl, λ h. same_Some a b same)

module _ (net : PlainNet) (policy : PlainPolicy) where
  known : (number : ℕ) (s : PlainStatement) (c : Case) → IsCase net policy number s c → IsKnown net policy c
  known zero s c is = let at = is.case in absurd cc
  known (suc k) s c is = case_known net policy k c is.case

  number_within : (number : ℕ) (s : PlainStatement) (c : Case) → IsCase net policy number s c → number ≤ length (case_list net policy)
  number_within zero s c is = omega arith
  number_within (suc k) s c is = let within = slice_get_within (case_list net policy) k c is.case in omega (arith, within)

  -- the origins of an external case are all peers
  peers_alone : (c : Case) → IsKnown net policy c → c.external ≡ true → c.origins ≡ set_of (is_peer net)
  peers_alone c is outer = elim is.origins [
    | inl t ↦ absurd (false≢true (sym t.0 ∙ outer))
    | inr t ↦ t.1
  ]

  same_origins : (c d : Case) → IsKnown net policy c → IsKnown net policy d → c.external ≡ d.external → (c.external ≡ false → c.origins ≡ d.origins) → c.origins ≡ d.origins
  same_origins c d one other kind inner = elim (cases_Bool c.external) [
    | inl t ↦ peers_alone c one t ∙ sym (peers_alone d other (sym kind ∙ t))
    | inr t ↦ inner t
  ]

  shared : (i j room : ℕ) (s t : PlainStatement) (c d : Case) (built g : PlainGraph) → IsCase net policy i s c → IsCase net policy j t d → prefix_case c ≡ prefix_case d
      → room ≤ all_steps → IsMade net room s c built g → IsMade net all_steps t d built g
  shared i j room s t c d built g one other same least is =
      let number : c.statement ≡ d.statement = same_Some c.statement d.statement (ap (λ (x : PrefixCase). x.statement) same) in
      let statement : s ≡ t = same_Some s t (sym one.statement ∙ ap (statement_at policy) number ∙ other.statement) in
      let kind = kinds_agree c.external d.external c.origins d.origins (ap (λ (x : PrefixCase). x.origins) same) in
      let origins = same_origins c d (known i s c one) (known j t d other) kind.0 kind.1 in
      let as_plan : plan_for net t c ≡ plan_for net t d = λ n. record { expressions = expressions net t.ranked; from = t.from; origin = holds (origins n); external = kind.0 n } in
      let plan : plan_for net s c ≡ plan_for net t d = ap (λ x. plan_for net x c) statement ∙ as_plan in
      record {
        within = record {
          ranks = subst (λ (x : PlainStatement). alternative_count x.ranked ≤ ALTERNATIVES) statement is.within.ranks;
          built = subst (λ (p : Plan). IsBuilt net p built) plan is.within.built;
          states = is.within.states;
          steps = omega (arith, is.within.steps, least);
        };
        trimmed = is.trimmed;
      }

-- ---- the cases one after the other

-- each of the first k cases has its graph, and no graph is that of another case
pub record AreGraphsTo (net : PlainNet) (policy : PlainPolicy) (k : ℕ) (find : PrefixCase → Option PlainGraph) : Type 0 where
  pub each : (number : ℕ) (s : PlainStatement) (c : Case) → IsCase net policy number s c → number ≤ k
      → (built g : PlainGraph) × (find (prefix_case c) ≡ Some g) × IsMade net all_steps s c built g
  pub only : (of : PrefixCase) (g : PlainGraph) → find of ≡ Some g → HasCase net policy of

module _ (net : PlainNet) (policy : PlainPolicy) where
  pub none_yet : (find : PrefixCase → Option PlainGraph) → ((of : PrefixCase) → find of ≡ None) → AreGraphsTo net policy 0 find
  none_yet find none = record {
    each = λ number s c is within. no_case number s c is within;
    only = λ of g at. let clash : None ≡ Some g = sym (none of) ∙ at in absurd cc;
  }
    where
      no_case : (number : ℕ) (s : PlainStatement) (c : Case) → IsCase net policy number s c → number ≤ 0
          → (built g : PlainGraph) × (find (prefix_case c) ≡ Some g) × IsMade net all_steps s c built g
      no_case zero s c is within = let at = is.case in absurd cc
      no_case (suc k) s c is within = absurd (omega (arith, within))

  -- one more case
  module _ (k room : ℕ) (s : PlainStatement) (c : Case) (built g : PlainGraph) (is : IsCase net policy (k + 1) s c) (least : room ≤ all_steps)
      (made : IsMade net room s c built g) (old new : PrefixCase → Option PlainGraph) (before : AreGraphsTo net policy k old)
      (kept : (of : PrefixCase) → new of ≡ (if same_case (prefix_case c) of then Some g else old of)) where
    here : (of : PrefixCase) → same_case (prefix_case c) of ≡ true → new of ≡ Some g
    here of same = kept of ∙ ap (λ b. if b then Some g else old of) same

    as_before : (of : PrefixCase) → same_case (prefix_case c) of ≡ false → new of ≡ old of
    as_before of other = kept of ∙ ap (λ b. if b then Some g else old of) other

    one_case : (number : ℕ) (t : PlainStatement) (d : Case) → IsCase net policy number t d → number ≡ k + 1 → prefix_case c ≡ prefix_case d
    one_case number t d at same =
        let one : c ≡ d = same_Some c d (sym is.case ∙ ap (case_at (case_list net policy)) (sym same) ∙ at.case) in
        ap prefix_case one

    each : (number : ℕ) (t : PlainStatement) (d : Case) → IsCase net policy number t d → number ≤ k + 1
        → (b x : PlainGraph) × (new (prefix_case d) ≡ Some x) × IsMade net all_steps t d b x
    each number t d at within = elim (cases_Bool (same_case (prefix_case c) (prefix_case d))) [
      | inl same ↦
          (built, g, here (prefix_case d) same, shared net policy (k + 1) number room s t c d built g is at (case_is (prefix_case c) (prefix_case d) same) least made)
      | inr other ↦ elim (cases_order number (k + 1)) [
        | inl last ↦ absurd (false≢true (sym other ∙ case_same (prefix_case c) (prefix_case d) (one_case number t d at last)))
        | inr (inl less) ↦
            let x = before.each number t d at (omega (arith, less)) in
            (x.0, x.1, as_before (prefix_case d) other ∙ x.2, x.3)
        | inr (inr more) ↦ absurd (omega (arith, more, within))
      ]
    ]

    only : (of : PrefixCase) (x : PlainGraph) → new of ≡ Some x → HasCase net policy of
    only of x at = elim (cases_Bool (same_case (prefix_case c) of)) [
      | inl same ↦ (k + 1, s, c, is, case_is (prefix_case c) of same)
      | inr other ↦ before.only of x (sym (as_before of other) ∙ at)
    ]

    pub graphs_more : AreGraphsTo net policy (k + 1) new
    graphs_more = record { each = each; only = only }

  pub graphs_all : (graphs : CaseGraphs) (k : ℕ) → graphs.none ≡ no_graph → k ≡ length (case_list net policy) → AreGraphsTo net policy k (get same_case graphs.graphs)
      → AreCaseGraphs net policy graphs
  graphs_all graphs k bare all are of = record {
    made = λ number s c is same.
        let x = are.each number s c is (omega (arith, all, number_within net policy number s c is)) in
        let found : graph_in graphs of ≡ x.1 = ap (λ o. unwrap_or o graphs.none) (ap (get same_case graphs.graphs) (sym same) ∙ x.2) in
        (x.0, subst (IsMade net all_steps s c x.0) (sym found) x.3);
    none = λ missing. elim (cases_Option (get same_case graphs.graphs of)) [
      | inl nothing ↦ ap (λ o. unwrap_or o graphs.none) nothing ∙ bare
      | inr some ↦ absurd (missing (are.only of some.0 some.1))
    ];
  }
