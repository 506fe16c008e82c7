-- An origin's own route has the tag of its start.
use Rattle.std.proofs.Common.{◌≡◌, ℕ, suc, true, false, List, [], ◌∷◌, Option, Some, None, refl, sym, ap, ◌∙◌, inl, inr, subst}
use Rattle.std.specs.Prelude.{◌==◌}
use Rattle.std.specs.List.{find}
use Rattle.std.specs.Option.{option_and_then}
use Rattle.std.proofs.lemmas.Bool.{and_parts, cases_Bool, eqb-true}
use Rattle.list_law.proofs.Options.{cases_Option, none_or_some}
use Rattle.list_law.proofs.Tests.{find_parts}
use Rattle.net_base.specs.declared.loc.LocSet.{LocSet}
use Rattle.net_base.specs.Network.{PlainNet, IsNet, is_router}
use Rattle.net_base.specs.Numbers.{no_tag}
use Rattle.net_base.specs.Prefixes.{PlainPrefix, IsPrefix, same_prefix}
use Rattle.net_base.specs.Sets.{holds}
use Rattle.policy_base.specs.Governing.{is_origin}
use Rattle.policy_base.specs.Policies.{PlainPolicy, PlainStatement, IsPolicyOf}
use Rattle.graph_base.specs.Runs.{is_start, place_of, start_at}
use Rattle.graph_base.proofs.WellFormed.{start_at-of}
use Rattle.config_base.specs.declared.config.Origination.{Origination}
use Rattle.config_base.specs.declared.config.RouterConfig.{RouterConfig}
use Rattle.config_base.specs.declared.route.Route.{Route}
use Rattle.config_base.specs.Configs.{PlainConfig}
use Rattle.config_base.specs.Lines.{class_of, own_route, own_tag as tag_in, router_at}
use Rattle.evidence_base.specs.Made.{PlainCaseEvidence, case_at, tag_at}
use Rattle.evidence_law.specs.Passes.{IsCaseGraph, Passes}
use Rattle.evidence_law.proofs.Blocks.{router_found}
use Rattle.evidence_law.proofs.ClassLines.{own_tags}
use Rattle.evidence_law.proofs.MadeCases.{HasCase, case_or_bare}
use Rattle.evidence_law.proofs.Setting.{tag_of}
use Rattle.evidence_law.proofs.Spelled.{names_prefix}
use Rattle.settled_outcome.specs.Outcomes.{case_of, held_by, own_tag, started_route}
use Rattle.scenarios.specs.declared.survivors.Survivors.{Survivors}

module _ (net : PlainNet) (policy : PlainPolicy) (config : PlainConfig) (cs : List PlainCaseEvidence) (rules : IsNet net)
    (kept : IsPolicyOf net policy) (passes : Passes net policy config cs) (p : PlainPrefix) (prefix : IsPrefix p) where
  -- without a class there is no tag
  bare_tag : class_of config p ≡ None → (r : ℕ) → tag_in net config p r ≡ no_tag
  bare_tag free r = elim (cases_Option (router_at net config r)) [
    | inl none ↦ rw none refl
    | inr block ↦ rw (block.1, free) refl
  ]

  module _ (s : PlainStatement) (c : HasCase net policy config cs p s) where
    abbrev on : IsCaseGraph net s c.d
    on = passes.made.graphs c.k c.d s c.at c.is.number

    found : case_of config cs p ≡ Some c.d
    found = ap (option_and_then (case_at cs)) c.of_class ∙ c.at

    -- with a start the tag is that of the start
    started : (r n : ℕ) → is_router net r ≡ true → is_origin net policy p r ≡ true → start_at c.d.graph r ≡ Some n → tag_in net config p r ≡ tag_at c.d n
    started r n router origin start =
        let announced = c.is.announced r router (ap (λ o. o r) c.is.same ∙ origin) in
        ap tag_of (own_tags net policy cs config p rules passes.made.lines passes.made.tags c.k c.d c.at c.of_class on.graph
        (holds c.d.case.origins) c.d.case.external on.faithful.formed r n router start announced)

    -- without one no line names the prefix
    no_line : (r : ℕ) (block : RouterConfig) (o : Origination) → router_at net config r ≡ Some block → find (names_prefix p (suc c.k)) block.own ≡ Some o → is_router net r ≡ true
        → start_at c.d.graph r ≡ None → ⊥
    no_line r block o at line router none =
        let there = router_found net policy cs config rules passes.made.lines r router in
        let both : Some there.0 ≡ Some block = sym there.1 ∙ at in
        let same : there.0 ≡ block = cc in
        let back = find_parts (names_prefix p (suc c.k)) there.0.own o (ap (λ (b : RouterConfig). find (names_prefix p (suc c.k)) b.own) same ∙ line) in
        let class = eqb-true o.class (suc c.k) (and_parts (o.class == suc c.k) (same_prefix o.prefix p) back.2).0 in
        let made = (there.2.own o).0 (back.0, back.1) in
        let cases : Some made.case ≡ Some c.d = sym made.at_class ∙ ap (case_at cs) class ∙ c.at in
        let case : made.case ≡ c.d = cc in
        let start : is_start c.d.graph made.node ≡ true = subst (λ (d : PlainCaseEvidence). is_start d.graph made.node ≡ true) case made.start in
        let here : place_of c.d.graph made.node ≡ r = subst (λ (d : PlainCaseEvidence). place_of d.graph made.node ≡ r) case made.at in
        none_or_some (start_at c.d.graph r) made.node none
        (ap (start_at c.d.graph) (sym here) ∙ start_at-of net (holds c.d.case.origins) c.d.case.external c.d.graph on.faithful.formed made.node start)

    unstarted : (r : ℕ) → is_router net r ≡ true → start_at c.d.graph r ≡ None → tag_in net config p r ≡ no_tag
    unstarted r router none = elim (cases_Option (router_at net config r)) [
      | inl free ↦ rw free refl
      | inr block ↦ elim (cases_Option (find (names_prefix p (suc c.k)) block.0.own)) [
        | inl unnamed ↦ rw (block.1, c.of_class, unnamed) refl
        | inr o ↦ absurd (no_line r block.0 o.0 block.1 o.1 router none)
      ]
    ]

    case_tag : (r : ℕ) → is_router net r ≡ true → is_origin net policy p r ≡ true → tag_in net config p r ≡ own_tag (case_of config cs p) r
    case_tag r router origin = elim (cases_Option (start_at c.d.graph r)) [
      | inl none ↦ unstarted r router none ∙ sym (rw (found, none) refl)
      | inr n ↦ started r n.0 router origin n.1 ∙ sym (rw (found, n.1) refl)
    ]

  tag_is : (r : ℕ) → is_router net r ≡ true → is_origin net policy p r ≡ true → tag_in net config p r ≡ own_tag (case_of config cs p) r
  tag_is r router origin = elim (case_or_bare net policy config cs rules kept passes.made p prefix) [
    | inl c ↦ case_tag c.0 c.2 r router origin
    | inr free ↦ bare_tag free r ∙ sym (rw free refl)
  ]

  -- so each router holds what it is said to by the lines
  pub held_same : (s : Survivors) (origins : LocSet) → ((l : ℕ) → holds origins l ≡ is_origin net policy p l) → (others : ℕ → Option Route) (r : ℕ) → is_router net r ≡ true
      → held_by s origins (started_route (case_of config cs p)) others r ≡ held_by s origins (own_route net config p) others r
  held_same s origins same others r router = elim (cases_Bool (is_origin net policy p r)) [
    | inl on ↦ (
        let route : own_route net config p r ≡ started_route (case_of config cs p) r = λ i. record { path = r ∷ []; tag = tag_is r router on i; pref = 0 } in
        ap (λ (h : Route). held_by s origins (λ l. h) others r) (sym route))
    | inr off ↦ (let here : holds origins r ≡ false = same r ∙ off in rw here refl)
  ]
