-- The law that a stable outcome exists.
use Rattle.std.proofs.Common.{◌≡◌, ℕ, suc, Bool, false, List, length, Option, Some, None, refl, ◌∙◌, inl, inr, subst}
use Rattle.std.specs.Prelude.{◌&&◌, not, option_map, if◌then◌else◌}
use Rattle.std.proofs.lemmas.Bool.{and_parts, and_from, cases_Bool, and_left, and_right, not-true, not_from_true}
use Rattle.net_base.specs.Network.{PlainNet, IsNet, is_router}
use Rattle.net_base.specs.Prefixes.{PlainPrefix, IsPrefix}
use Rattle.policy_base.specs.Policies.{PlainPolicy, PlainStatement, IsPolicyOf}
use Rattle.policy_base.specs.Governing.{is_origin}
use Rattle.config_base.specs.declared.route.Route.{Route}
use Rattle.config_base.specs.Configs.{PlainConfig}
use Rattle.config_base.specs.Lines.{class_of, own_route}
use Rattle.evidence_base.specs.Made.{PlainCaseEvidence, number_at}
use Rattle.outcome_base.specs.Outcomes.{Failures, Outcome, is_dead, route_at, given, IsStable}
use Rattle.evidence_law.specs.Passes.{Passes, IsClaimed}
use Rattle.evidence_law.proofs.MadeCases.{HasCase, case_or_bare}
use Rattle.list_law.proofs.Options.{none_or_some}
use Rattle.net_base.specs.Sets.{holds}
use Rattle.evidence_law.specs.Laws.{StableOutcomesExist}
use Rattle.evidence_law.proofs.Setting.{network_of, alive_of, lines_of, setup_of, pairs_of}
use Rattle.evidence_law.proofs.GraphForms.{meets_rules}
use Rattle.evidence_law.proofs.ClassLines.{written}
use Rattle.evidence_law.proofs.Existence.{outcome_of, outcome-size, held, unheld, route_of, lines_stable}
use Rattle.evidence_law.proofs.Heard.{no_gift}
use Rattle.routing_law.specs.Lines as line
use Rattle.routing_law.proofs.Back.{lines_exist}

module _ (net : PlainNet) (policy : PlainPolicy) (config : PlainConfig) (f : Failures) (p : PlainPrefix) (free : class_of config p ≡ None) where
  pub own_alone : ℕ → Option Route
  own_alone v = if is_origin net policy p v && not (is_dead f v) then Some (own_route net config p v) else None

  own_off : (v : ℕ) → (is_origin net policy p v && not (is_dead f v)) ≡ false → own_alone v ≡ None
  unfolding own_alone
  own_off v h = rw h refl

  at_router : (v : ℕ) → (is_origin net policy p v && not (is_dead f v)) ≡ false → route_at (outcome_of net own_alone) v ≡ None
  at_router v h = elim (cases_Bool (is_router net v)) [
    | inl t ↦ held net own_alone v t ∙ own_off v h
    | inr t ↦ unheld net own_alone v t
  ]

  -- without a class only origins hold a route
  pub lone_stable : IsStable net policy config f p (outcome_of net own_alone)
  unfolding own_alone
  lone_stable = record {
    dead = λ v dead. at_router v (and_right (is_origin net policy p v) (not (is_dead f v)) (not_from_true _ dead));
    own = λ v h.
        let last = and_parts (is_router net v && is_origin net policy p v) (not (is_dead f v)) h in
        let first = and_parts (is_router net v) (is_origin net policy p v) last.0 in
        let here = and_from (is_origin net policy p v) (not (is_dead f v)) first.1 last.1 in
        held net own_alone v first.0 ∙ rw here refl;
    chooses = λ v h.
        let last = and_parts (is_router net v && not (is_origin net policy p v)) (not (is_dead f v)) h in
        let first = and_parts (is_router net v) (not (is_origin net policy p v)) last.0 in
        let off = at_router v (and_left (is_origin net policy p v) (not (is_dead f v)) (not-true _ first.1)) in
        record {
          given_by = λ r at. absurd (none_or_some (route_at (outcome_of net own_alone) v) r off at);
          best = λ z g at. absurd (none_or_some (given net policy config f p (outcome_of net own_alone) z v) g (no_gift net policy config f p (outcome_of net own_alone) free z v) at);
        };
  }

module _ (net : PlainNet) (policy : PlainPolicy) (config : PlainConfig) (cs : List PlainCaseEvidence) (rules : IsNet net)
    (kept : IsPolicyOf net policy) (passes : Passes net policy config cs) (f : Failures) (p : PlainPrefix) where
  abbrev pub Exists : Type 0
  Exists = (outcome : Outcome) × (length outcome ≡ length net.routers) × IsStable net policy config f p outcome

  bare_exists : class_of config p ≡ None → Exists
  bare_exists free = (outcome_of net (own_alone net policy config f p free), outcome-size net (own_alone net policy config f p free), lone_stable net policy config f p free)

  case_exists : (s : PlainStatement) → HasCase net policy config cs p s → Exists
  case_exists s c =
      let d = c.d in
      let graph = passes.made.graphs c.k d s c.at c.is.number in
      let origin = holds d.case.origins in
      let lines = written net policy cs config p rules passes.made.lines passes.made.tags c.k d c.at c.of_class graph.graph origin d.case.external graph.faithful.formed c.is.announced c.is.known in
      let numbers = meets_rules net origin d.case.external d.graph (number_at d) rules graph.graph c.is.known graph.faithful.formed (IsClaimed net s d.case) (passes.rules c.k d s c.at c.is.number) in
      let found = lines_exist (setup_of net f d) (pairs_of d) (lines_of net config p (suc c.k)) lines numbers in
      let stable = subst (λ (o : ℕ → Bool). line.LinesStable (network_of net o) (alive_of net f) (lines_of net config p (suc c.k)) found.0) c.is.same found.1.stable in
      (outcome_of net (λ v. option_map route_of (found.0 v)), outcome-size net (λ v. option_map route_of (found.0 v)), lines_stable net policy config f p (suc c.k) rules c.of_class found.0 stable)

  pub outcome_there : IsPrefix p → Exists
  outcome_there prefix = elim (case_or_bare net policy config cs rules kept passes.made p prefix) [
    | inl c ↦ case_exists c.0 c.2
    | inr free ↦ bare_exists free
  ]

pub stable_outcomes_exist : StableOutcomesExist
stable_outcomes_exist net policy config cs rules kept passes p f prefix = outcome_there net policy config cs rules kept passes f p prefix
