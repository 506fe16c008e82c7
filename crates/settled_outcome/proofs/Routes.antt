-- The routes of the routers are those of the settled outcome.
use Rattle.std.proofs.Common.{◌≡◌, ℕ, ◌<◌, zero, suc, Bool, true, false, List, [], ◌∷◌, length, Option, Some, None, refl, sym, ap, ◌∙◌, subst, inl, inr, arith}
use Rattle.std.specs.Prelude.{◌&&◌, not, option_map, IsTrue}
use Rattle.std.specs.Option.{option_and_then}
use Rattle.std.proofs.lemmas.Bool.{and_from, cases_Bool, lt-ltb, not_from_false}
use Rattle.list_law.proofs.Options.{cases_Option, none_or_some}
use Rattle.net_base.specs.declared.loc.LocSet.{LocSet}
use Rattle.net_base.specs.Network.{PlainNet, IsNet, is_router}
use Rattle.net_base.specs.Prefixes.{PlainPrefix, IsPrefix}
use Rattle.net_base.specs.Sets.{holds}
use Rattle.policy_base.specs.Governing.{is_origin}
use Rattle.policy_base.specs.Policies.{PlainPolicy, IsPolicyOf}
use Rattle.graph_base.specs.Runs.{is_start, place_of}
use Rattle.config_base.specs.Configs.{PlainConfig}
use Rattle.config_base.specs.Lines.{class_of, own_route}
use Rattle.config_base.specs.declared.route.Route.{Route}
use Rattle.evidence_base.specs.Made.{PlainCaseEvidence, case_at}
use Rattle.outcome_base.specs.Outcomes.{Failures, Outcome, IsStable, given, is_dead, route_at}
use Rattle.evidence_law.proofs.Existence.{held, outcome-size, outcome_of, route_of}
use Rattle.evidence_law.proofs.ExistenceLaw.{lone_stable, own_alone}
use Rattle.evidence_law.proofs.Heard.{no_gift}
use Rattle.evidence_law.proofs.Setting.{lines_of, pairs_of, setup_of}
use Rattle.evidence_law.specs.Passes.{Passes}
use Rattle.routing_law.specs.Outcome.{with_tag, with_tags}
use Rattle.settled_graph.specs.Best.{entry_at}
use Rattle.settled_graph.specs.Grounds.{held_in}
use Rattle.settled_graph.specs.declared.settled.Settled.{Settled}
use Rattle.settled_law.specs.Settled.{IsFullyStable}
use Rattle.list_law.proofs.Items.{same_options}
use Rattle.settled_law.proofs.SettledLaw.{CaseFound, bare_fully, case_or_bare, from_graph}
use Rattle.settled_outcome.specs.Outcomes.{AreSettled, case_of, held_by, started_route, tagged}
use Rattle.scenarios.specs.Surviving.{AreSurvivors}
use Rattle.scenarios.specs.declared.survivors.Survivors.{Survivors}
use Rattle.settled_outcome.proofs.Grounds.{is_ground}
use Rattle.settled_outcome.proofs.Owns.{held_same}

-- an outcome is told by what its routers hold
same_outcome : (net : PlainNet) (held_at : ℕ → Option Route) (routes : Outcome) → length routes ≡ length net.routers
    → ((r : ℕ) → r < length net.routers → route_at routes r ≡ held_at r) → routes ≡ outcome_of net held_at
same_outcome net held_at routes size each =
    same_options routes (outcome_of net held_at) (size ∙ sym (outcome-size net held_at)) (λ r low.
    let below : r < length net.routers = omega (arith, low, size) in
    each r below ∙ sym (held net held_at r (lt-ltb r (length net.routers) below)))

entry_route : (routes : Outcome) (r : ℕ) → route_at routes r ≡ entry_at routes r
entry_route [] r = refl
entry_route (x ∷ routes) zero = refl
entry_route (x ∷ routes) (suc r) = entry_route routes r

module _ (net : PlainNet) (policy : PlainPolicy) (config : PlainConfig) (cs : List PlainCaseEvidence) (rules : IsNet net)
    (kept : IsPolicyOf net policy) (passes : Passes net policy config cs) (f : Failures) (p : PlainPrefix) (prefix : IsPrefix p) where
  abbrev Found : Type 0
  Found = CaseFound net policy config cs rules kept passes f p

  case_found : (c : Found) → case_of config cs p ≡ Some c.d
  case_found c = ap (option_and_then (case_at cs)) c.of_class ∙ c.at

  -- what the evidence has for the class is the case that was found
  found_of : (d : PlainCaseEvidence) → case_of config cs p ≡ Some d → (c : Found) × (c.d ≡ d)
  found_of d is = elim (case_or_bare net policy config cs rules kept passes f p prefix) [
    | inl c ↦ (let both : Some c.d ≡ Some d = sym (case_found c) ∙ is in (c, cc))
    | inr free ↦ (let clash : None ≡ Some d = sym (ap (option_and_then (case_at cs)) free) ∙ is in absurd (cc))
  ]

  -- its starts are at origins
  pub starts_at_origins : (d : PlainCaseEvidence) → case_of config cs p ≡ Some d → (n : ℕ) → IsTrue (is_start d.graph n) → IsTrue (is_origin net policy p (place_of d.graph n))
  starts_at_origins d is n start =
      let found = found_of d is in
      let at = subst (λ (e : PlainCaseEvidence). IsTrue (is_start e.graph n)) (sym found.1) start in
      let origin = sym (ap (λ (o : ℕ → Bool). o (place_of found.0.d.graph n)) found.0.same) ∙ found.0.on.faithful.formed.starts n at in
      subst (λ (e : PlainCaseEvidence). IsTrue (is_origin net policy p (place_of e.graph n))) found.1 origin

  module _ (s : Survivors) (are : AreSurvivors net f s) (origins : LocSet) (same : (l : ℕ) → holds origins l ≡ is_origin net policy p l) where
    -- ---- without a class

    module _ (free : class_of config p ≡ None) where
      abbrev lone : Outcome
      lone = outcome_of net (own_alone net policy config f p free)

      abbrev stable : IsStable net policy config f p lone
      stable = lone_stable net policy config f p free

      unrouted : (r : ℕ) → (is_router net r && not (is_origin net policy p r) && not (is_dead f r)) ≡ true → route_at lone r ≡ None
      unrouted r h = elim (cases_Option (route_at lone r)) [
        | inl none ↦ none
        | inr has ↦ (let by = (stable.chooses r h).given_by has.0 has.1 in absurd (none_or_some (given net policy config f p lone by.0 r) has.0 (no_gift net policy config f p lone free by.0 r) by.1))
      ]

      bare_held : (r : ℕ) → is_router net r ≡ true → held_by s origins (own_route net config p) (λ k. None) r ≡ route_at lone r
      bare_held r router = elim (cases_Bool (is_origin net policy p r)) [
        | inr off ↦ (
            let here : holds origins r ≡ false = same r ∙ off in
            elim (cases_Bool (is_dead f r)) [
              | inl dead ↦ rw here (sym (stable.dead r dead))
              | inr live ↦
                  rw here (sym (unrouted r (and_from (is_router net r && not (is_origin net policy p r)) (not (is_dead f r))
                  (and_from (is_router net r) (not (is_origin net policy p r)) router (not_from_false _ off)) (not_from_false _ live))))
            ])
        | inl on ↦ (
            let here : holds origins r ≡ true = same r ∙ on in
            elim (cases_Bool (is_dead f r)) [
              | inl dead ↦ (let gone : holds s.dead r ≡ true = are.dead r ∙ dead in rw (here, gone) (sym (stable.dead r dead)))
              | inr live ↦ (
                  let left : holds s.dead r ≡ false = are.dead r ∙ live in
                  rw (here, left) (sym (stable.own r (and_from (is_router net r && is_origin net policy p r) (not (is_dead f r))
                  (and_from (is_router net r) (is_origin net policy p r) router on) (not_from_false _ live)))))
            ])
      ]

      bare_routes : (routes : Outcome) → length routes ≡ length net.routers
          → ((r : ℕ) → r < length net.routers → entry_at routes r ≡ held_by s origins (own_route net config p) (λ k. None) r) → routes ≡ lone
      bare_routes routes size each =
          same_options routes lone (size ∙ sym (outcome-size net (own_alone net policy config f p free))) (λ r low.
          let below : r < length net.routers = omega (arith, low, size) in
          entry_route routes r ∙ each r below ∙ bare_held r (lt-ltb r (length net.routers) below))

    by_lines_too : (others : ℕ → Option Route) (routes : Outcome)
        → ((r : ℕ) → r < length net.routers → entry_at routes r ≡ held_by s origins (started_route (case_of config cs p)) others r)
        → (r : ℕ) → r < length net.routers → entry_at routes r ≡ held_by s origins (own_route net config p) others r
    by_lines_too others routes each r low = each r low ∙ held_same net policy config cs rules kept passes p prefix s origins same others r (lt-ltb r (length net.routers) low)

    pub bare_settles : (routes : Outcome) → case_of config cs p ≡ None → length routes ≡ length net.routers
        → ((r : ℕ) → r < length net.routers → entry_at routes r ≡ held_by s origins (started_route (case_of config cs p)) (λ k. None) r) → IsFullyStable net policy config f p routes
    bare_settles routes none size each = elim (case_or_bare net policy config cs rules kept passes f p prefix) [
      | inl c ↦ (let clash : None ≡ Some c.d = sym none ∙ case_found c in absurd (cc))
      | inr free ↦
          subst (IsFullyStable net policy config f p) (sym (bare_routes free routes size (by_lines_too (λ k. None) routes each)))
          (bare_fully net policy config f p free (lone free) (stable free))
    ]

    -- ---- by the graph of a case

    module _ (c : Found) (settled : List (Option Settled)) where
      abbrev by_lines : ℕ → Option Route
      by_lines r = option_map route_of (with_tags (setup_of net f c.d) (pairs_of c.d) (lines_of net config p (suc c.k)) (held_in settled) r)

      retagged : (o : Option Settled)
          → option_map (tagged c.d) o
          ≡ option_map route_of (option_map (with_tag (setup_of net f c.d).graph (pairs_of c.d))
          (option_map (λ (x : Settled). record { path = x.path; node = x.node }) o))
      retagged None = refl
      retagged (Some x) = refl

      case_held : (others : ℕ → Option Route) (r : ℕ) → others r ≡ option_map (tagged c.d) (entry_at settled r) → held_by s origins (own_route net config p) others r ≡ by_lines r
      case_held others r is = elim (cases_Bool (is_origin net policy p r)) [
        | inr off ↦ (
            let here : holds origins r ≡ false = same r ∙ off in
            let there : holds c.d.case.origins r ≡ false = ap (λ (o : ℕ → Bool). o r) c.same ∙ off in
            rw here (is ∙ retagged (entry_at settled r) ∙ sym (rw there refl)))
        | inl on ↦ (
            let here : holds origins r ≡ true = same r ∙ on in
            let there : holds c.d.case.origins r ≡ true = ap (λ (o : ℕ → Bool). o r) c.same ∙ on in
            elim (cases_Bool (is_dead f r)) [
              | inl dead ↦ (let gone : holds s.dead r ≡ true = are.dead r ∙ dead in rw (here, gone, there, dead) refl)
              | inr live ↦ (let left : holds s.dead r ≡ false = are.dead r ∙ live in rw (here, left, there, live) refl)
            ])
      ]

    pub case_settles : (d : PlainCaseEvidence) (others routes : Outcome) → case_of config cs p ≡ Some d → AreSettled net s origins d others → length routes ≡ length net.routers
        → ((r : ℕ) → r < length net.routers → entry_at routes r ≡ held_by s origins (started_route (case_of config cs p)) (entry_at others) r) → IsFullyStable net policy config f p routes
    case_settles d others routes is settled size each = by (found_of d is).0 (found_of d is).1
      where
        by : (c : Found) → c.d ≡ d → IsFullyStable net policy config f p routes
        by c here =
            let mine : AreSettled net s origins c.d others = subst (λ (e : PlainCaseEvidence). AreSettled net s origins e others) (sym here) settled in
            let full = mine.stable (setup_of net f c.d) (is_ground net policy config cs rules kept passes f p c s are origins mine.choosers same mine.choose) in
            subst (IsFullyStable net policy config f p) (sym (same_outcome net (by_lines c mine.settled) routes size
            (λ r low. entry_route routes r ∙ by_lines_too (entry_at others) routes each r low ∙ case_held c mine.settled (entry_at others) r (mine.each r low))))
            (from_graph net policy config cs rules kept passes f p c (held_in mine.settled) full)
