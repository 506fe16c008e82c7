-- A prefix settles, and in one way.
use Rattle.std.proofs.Common.{◌≡◌, ℕ, ◌<◌, suc, Bool, true, ◌⊎◌, List, length, Option, Some, None, refl, sym, ap, ◌∙◌, inl, inr, subst}
use Rattle.std.specs.Prelude.{◌&&◌, not, option_map, slice_get}
use Rattle.std.proofs.lemmas.Bool.{and_from, cases_Bool, lt-ltb, not_from_false}
use Rattle.net_base.specs.Network.{PlainNet, IsNet, is_location, is_router}
use Rattle.net_base.specs.Prefixes.{PlainPrefix, IsPrefix}
use Rattle.net_base.specs.Sets.{holds}
use Rattle.policy_base.specs.Policies.{PlainPolicy, PlainStatement, IsPolicyOf, statement_at}
use Rattle.policy_base.specs.Governing.{statement_of, is_origin}
use Rattle.config_base.specs.declared.route.Route.{Route}
use Rattle.config_base.specs.Configs.{PlainConfig}
use Rattle.config_base.specs.Lines.{class_of}
use Rattle.evidence_base.specs.Made.{PlainCaseEvidence, number_at}
use Rattle.outcome_base.specs.Outcomes.{Failures, Outcome, is_dead, route_at, given, IsStable}
use Rattle.evidence_law.specs.Passes.{IsCaseGraph, Passes, IsClaimed}
use Rattle.evidence_law.proofs.Setting.{network_of, alive_of, lines_of, lines_at, line_of, setup_of, pairs_of}
use Rattle.list_law.proofs.Options.{cases_Option, none_or_some}
use Rattle.evidence_law.proofs.MadeCases.{HasCase, case_or_bare as evidence_or_bare}
use Rattle.evidence_law.proofs.GraphForms.{meets_rules}
use Rattle.evidence_law.proofs.ClassLines.{written}
use Rattle.evidence_law.proofs.Existence.{outcome_of, outcome-size, route_of}
use Rattle.evidence_law.proofs.ExistenceLaw.{lone_stable, own_alone}
use Rattle.evidence_law.proofs.Heard.{no_gift}
use Rattle.routing_law.specs.Graph.{MeetsRules}
use Rattle.routing_law.specs.Lines as line
use Rattle.routing_law.specs.Outcome as outcomes
use Rattle.routing_law.specs.Spells as spelled
use Rattle.routing_law.proofs.Back.{graph_is_lines, lines_exist, lines_unique}
use Rattle.settled_law.specs.Settled.{IsFullyStable, SettledOutcomesAreOne, SettledOutcomesExist}
use Rattle.settled_law.proofs.Fully.{fully, fully_lines, names_differ}
use Rattle.list_law.proofs.Items.{same_options}

module _ (net : PlainNet) (policy : PlainPolicy) (config : PlainConfig) (f : Failures) (p : PlainPrefix) (free : class_of config p ≡ None) where
  -- without a class nothing is given, so no ties are there to be broken
  pub bare_fully : (outcome : Outcome) → IsStable net policy config f p outcome → IsFullyStable net policy config f p outcome
  bare_fully outcome stable =
      record {
        stable = stable;
        first =
            λ r z h g who at by. absurd
            (none_or_some (given net policy config f p outcome z r) g (no_gift net policy config f p outcome free z r) by);
      }

  -- and each router's route is known
  bare_route : (a b : Outcome) → IsStable net policy config f p a → IsStable net policy config f p b → (r : ℕ) → is_router net r ≡ true → route_at a r ≡ route_at b r
  bare_route a b x y r router = elim (cases_Bool (is_dead f r)) [
    | inl dead ↦ x.dead r dead ∙ sym (y.dead r dead)
    | inr alive ↦ elim (cases_Bool (is_origin net policy p r)) [
      | inl own ↦ (
          let h = and_from (is_router net r && is_origin net policy p r) (not (is_dead f r)) (and_from (is_router net r) (is_origin net policy p r) router own) (not_from_false _ alive) in
          x.own r h ∙ sym (y.own r h))
      | inr other ↦ (
          let h = and_from (is_router net r && not (is_origin net policy p r)) (not (is_dead f r))
          (and_from (is_router net r) (not (is_origin net policy p r)) router (not_from_false _ other)) (not_from_false _ alive) in
          unrouted a x r h ∙ sym (unrouted b y r h))
    ]
  ]
    where
      unrouted : (a : Outcome) → IsStable net policy config f p a → (r : ℕ) → (is_router net r && not (is_origin net policy p r) && not (is_dead f r)) ≡ true → route_at a r ≡ None
      unrouted a x r h = elim (cases_Option (route_at a r)) [
        | inl none ↦ none
        | inr has ↦ (let by = (x.chooses r h).given_by has.0 has.1 in absurd (none_or_some (given net policy config f p a by.0 r) has.0 (no_gift net policy config f p a free by.0 r) by.1))
      ]

module _ (net : PlainNet) (policy : PlainPolicy) (config : PlainConfig) (cs : List PlainCaseEvidence) (rules : IsNet net)
    (kept : IsPolicyOf net policy) (passes : Passes net policy config cs) (f : Failures) (p : PlainPrefix) where
  -- the case of a class: its lines are written, and its numbers meet the rules
  pub record CaseFound : Type 0 where
    pub s : PlainStatement
    pub k : ℕ
    pub d : PlainCaseEvidence
    pub governs : statement_of policy p ≡ Some s
    pub number : statement_at policy d.case.statement ≡ Some s
    pub at : slice_get cs k ≡ Some d
    pub on : IsCaseGraph net s d
    pub of_class : class_of config p ≡ Some (suc k)
    pub same : holds d.case.origins ≡ is_origin net policy p
    pub known : (l : ℕ) → holds d.case.origins l ≡ true → is_location net l ≡ true
    pub lines : spelled.Written (network_of net (holds d.case.origins)) (setup_of net f d).graph (pairs_of d) (lines_of net config p (suc k))
    pub numbers : MeetsRules (network_of net (holds d.case.origins)) (setup_of net f d).graph

  case_here : (s : PlainStatement) → statement_of policy p ≡ Some s → HasCase net policy config cs p s → CaseFound
  case_here s governs c =
      let d = c.d in
      let graph = passes.made.graphs c.k d s c.at c.is.number in
      let origin = holds d.case.origins in
      record {
        s = s;
        k = c.k;
        d = d;
        governs = governs;
        number = c.is.number;
        at = c.at;
        on = graph;
        of_class = c.of_class;
        same = c.is.same;
        known = c.is.known;
        lines = written net policy cs config p rules passes.made.lines passes.made.tags c.k d c.at c.of_class graph.graph origin d.case.external graph.faithful.formed c.is.announced c.is.known;
        numbers = meets_rules net origin d.case.external d.graph (number_at d) rules graph.graph c.is.known graph.faithful.formed (IsClaimed net s d.case) (passes.rules c.k d s c.at c.is.number);
      }

  -- a prefix has a case, or no class
  pub case_or_bare : IsPrefix p → CaseFound ⊎ (class_of config p ≡ None)
  case_or_bare prefix = elim (evidence_or_bare net policy config cs rules kept passes.made p prefix) [
    | inl c ↦ inl (case_here c.0 c.1 c.2)
    | inr free ↦ inr free
  ]

  -- the case of the prefix's class is the one at its place
  pub case_of_class : IsPrefix p → (k : ℕ) (d : PlainCaseEvidence) → class_of config p ≡ Some (suc k) → slice_get cs k ≡ Some d → (c : CaseFound) × (c.d ≡ d)
  case_of_class prefix k d of_class at = elim (case_or_bare prefix) [
    | inr free ↦ absurd (none_or_some (class_of config p) (suc k) free of_class)
    | inl c ↦ (
        let number : Some (suc c.k) ≡ Some (suc k) = sym c.of_class ∙ of_class in
        let same_k : c.k ≡ k = cc in
        let found : Some c.d ≡ Some d = sym c.at ∙ ap (slice_get cs) same_k ∙ at in
        let same_d : c.d ≡ d = cc in
        (c, same_d))
  ]

  abbrev Settles : Type 0
  Settles = (outcome : Outcome) × (length outcome ≡ length net.routers) × IsFullyStable net policy config f p outcome

  case_settles : CaseFound → Settles
  case_settles c =
      let found = lines_exist (setup_of net f c.d) (pairs_of c.d) (lines_of net config p (suc c.k)) c.lines c.numbers in
      let full = subst (λ (o : ℕ → Bool). line.LinesFullyStable (network_of net o) (alive_of net f) (lines_of net config p (suc c.k)) found.0) c.same found.1 in
      (outcome_of net (λ v. option_map route_of (found.0 v)), outcome-size net (λ v. option_map route_of (found.0 v)), fully net policy config f p (suc c.k) rules c.of_class found.0 full)

  pub settles : IsPrefix p → Settles
  settles prefix = elim (case_or_bare prefix) [
    | inl c ↦ case_settles c
    | inr free ↦ (
      outcome_of net (own_alone net policy config f p free),
      outcome-size net (own_alone net policy config f p free),
      bare_fully net policy config f p free (outcome_of net (own_alone net policy config f p free)) (lone_stable net policy config f p free),
    )
  ]

  -- what settles in the graph of the case settles in the configuration
  pub from_graph : (c : CaseFound) (r : outcomes.Routes) → outcomes.FullyStable (setup_of net f c.d) r
      → IsFullyStable net policy config f p (outcome_of net (λ v. option_map route_of (outcomes.with_tags (setup_of net f c.d) (pairs_of c.d) (lines_of net config p (suc c.k)) r v)))
  from_graph c r full =
      let held = outcomes.with_tags (setup_of net f c.d) (pairs_of c.d) (lines_of net config p (suc c.k)) r in
      let lined = graph_is_lines (setup_of net f c.d) (pairs_of c.d) (lines_of net config p (suc c.k)) r c.lines full in
      fully net policy config f p (suc c.k) rules c.of_class held
      (subst (λ (o : ℕ → Bool). line.LinesFullyStable (network_of net o) (alive_of net f) (lines_of net config p (suc c.k)) held) c.same lined)

  -- ---- one outcome

  unlined : (o : Option Route) → option_map route_of (option_map line_of o) ≡ o
  unlined None = refl
  unlined (Some h) = refl

  case_one : CaseFound → (a b : Outcome) → IsFullyStable net policy config f p a → IsFullyStable net policy config f p b → (r : ℕ) → is_router net r ≡ true → route_at a r ≡ route_at b r
  case_one c a b x y r router =
      let lined : (o : Outcome) → IsFullyStable net policy config f p o
      → line.LinesFullyStable (network_of net (holds c.d.case.origins)) (alive_of net f) (lines_of net config p (suc c.k)) (lines_at o) =
      λ o full. subst (λ (q : ℕ → Bool). line.LinesFullyStable (network_of net q) (alive_of net f) (lines_of net config p (suc c.k)) (lines_at o))
      (sym c.same) (fully_lines net policy config f p (suc c.k) rules c.of_class o full) in
      let same = lines_unique (setup_of net f c.d) (pairs_of c.d) (lines_of net config p (suc c.k)) (lines_at a) (lines_at b)
      (names_differ net (holds c.d.case.origins) rules) c.lines c.numbers (lined a x) (lined b y) r router in
      sym (unlined (route_at a r)) ∙ ap (option_map route_of) same ∙ unlined (route_at b r)

  one_route : IsPrefix p → (a b : Outcome) → IsFullyStable net policy config f p a → IsFullyStable net policy config f p b → (r : ℕ) → is_router net r ≡ true → route_at a r ≡ route_at b r
  one_route prefix a b x y r router = elim (case_or_bare prefix) [
    | inl c ↦ case_one c a b x y r router
    | inr free ↦ bare_route net policy config f p free a b x.stable y.stable r router
  ]

  pub one : IsPrefix p → (a b : Outcome) → length a ≡ length net.routers → length b ≡ length net.routers → IsFullyStable net policy config f p a → IsFullyStable net policy config f p b → a ≡ b
  one prefix a b size_a size_b x y =
      same_options a b (size_a ∙ sym size_b) (λ r below. one_route prefix a b x y r (lt-ltb r (length net.routers) (subst (λ n. r < n) size_a below)))

pub settled_outcomes_exist : SettledOutcomesExist
settled_outcomes_exist net policy config cs rules kept passes p f prefix = settles net policy config cs rules kept passes f p prefix

pub settled_outcomes_are_one : SettledOutcomesAreOne
settled_outcomes_are_one net policy config cs rules kept passes p f prefix a b size_a size_b x y = one net policy config cs rules kept passes f p prefix a b size_a size_b x y
