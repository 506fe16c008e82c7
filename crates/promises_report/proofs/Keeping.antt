-- What is promised for a case is kept for every prefix of it.
use Rattle.std.proofs.Common.{◌≡◌, ℕ, ◌≤◌, suc, Bool, true, false, List, [], ◌∷◌, ◌++◌, length, Option, Some, None, refl, sym, ap, ◌∙◌, inl, inr, subst, arith}
use Rattle.std.specs.Prelude.{◌&&◌, not, is_some, option_map}
use Rattle.std.proofs.lemmas.Bool.{and_parts, and_from, not-true, true≢false}
use Rattle.std.proofs.lemmas.Option.{same_Some}
use Rattle.list_law.proofs.Options.{cases_Option, is_some_from, is_some_parts}
use Rattle.net_base.specs.declared.loc.LocSet.{LocSet}
use Rattle.net_base.specs.Network.{PlainNet, IsNet, is_peer, is_router}
use Rattle.net_base.specs.Prefixes.{IsPrefix, PlainPrefix}
use Rattle.net_base.specs.Sets.{holds}
use Rattle.policy_base.specs.CaseOrigins.{AreOrigins}
use Rattle.policy_base.specs.Governing.{is_origin, is_origin_by, originated_at, statement_of}
use Rattle.policy_base.specs.Meaning.{rank_of}
use Rattle.policy_base.specs.Permitted.{from_holds, is_allowed}
use Rattle.policy_base.specs.Policies.{IsPolicyOf, PlainPolicy, PlainStatement, statement_at}
use Rattle.policy_base.specs.Walks.{is_loop_free}
use Rattle.graph_base.specs.Runs.{run}
use Rattle.config_base.specs.declared.route.Route.{Route}
use Rattle.config_base.specs.Configs.{PlainConfig}
use Rattle.evidence_base.specs.Made.{PlainCaseEvidence, number_at}
use Rattle.outcome_base.specs.Outcomes.{IsStable, Outcome, offered, route_at, survives, no_failures}
use Rattle.outcome_base.specs.Right.{IsGood, IsRightBy, IsRightOutcome}
use Rattle.evidence_law.specs.Faithful.{permits}
use Rattle.evidence_law.specs.Passes.{Passes}
use Rattle.evidence_law.proofs.CaseOrigins.{case_permits, prefix_permits}
use Rattle.evidence_law.proofs.GraphForms.{same_run}
use Rattle.evidence_law.proofs.RightLaw.{passing_evidence_is_right}
use Rattle.evidence_law.proofs.Setting.{alive_of, line_of, lines_at, lines_of, network_of, pairs_of, setup_of}
use Rattle.evidence_law.proofs.Stability.{offered_lines, stable_lines}
use Rattle.routing_law.specs.Laws as laws
use Rattle.routing_law.specs.Lines as line
use Rattle.routing_law.proofs.Used.{used_paths_are_sound}
use Rattle.settled_law.specs.Greatest.{AreGreatest}
use Rattle.settled_law.specs.Settled.{IsFullyStable}
use Rattle.settled_law.proofs.Greatest.{numbers_are_greatest}
use Rattle.settled_law.proofs.SettledLaw.{CaseFound, case_of_class}
use Rattle.impact_law.specs.BestRanks.{AreTops, IsBestRank}
use Rattle.impact_law.specs.Impacts.{IsSource, begin_at}
use Rattle.impact_law.proofs.Support.{survives_all}
use Rattle.promises_report.specs.Claims.{IsLeastRank, IsPlace, IsSourceIn}
use Rattle.promises_report.specs.Laws.{PromisesAreKept, told_by}
use Rattle.promises_report.specs.Promises.{AreKept, ArePromises, IsHeld, IsPromised, IsPromisedFor, Promises}
use Rattle.promises_report.proofs.PromisesTelling.{origins, source_place, tops_tell_promises}
use Rattle.promises_report.proofs.RankTelling.{begins_late}

by_statement : (net : PlainNet) (policy : PlainPolicy) (config : PlainConfig) (p : PlainPrefix) (outcome : Outcome) (s : PlainStatement) → statement_of policy p ≡ Some s
    → IsRightOutcome net policy config no_failures p outcome ≡ IsRightBy net policy config no_failures p s outcome
by_statement net policy config p outcome s h = rw h refl

module _ (net : PlainNet) (policy : PlainPolicy) (config : PlainConfig) (cs : List PlainCaseEvidence) (rules : IsNet net)
    (kept : IsPolicyOf net policy) (passes : Passes net policy config cs) (p : PlainPrefix) (prefix : IsPrefix p)
    (c : CaseFound net policy config cs rules kept passes no_failures p) where
  abbrev Origin : ℕ → Bool
  Origin = holds c.d.case.origins

  -- ---- the sources of the prefix are those of the case

  inner : (r peer : ℕ) (rest : List ℕ) → is_peer net peer ≡ true → permits net Origin c.s (peer ∷ r ∷ rest) ≡ true → (external : Bool) → c.d.case.external ≡ external → external ≡ false
  inner r peer rest at permitted false is = refl
  inner r peer rest at permitted true is =
      let are = subst (AreOrigins net Origin) is (origins net policy config cs rules kept passes c.k c.d c.at) in
      absurd (true≢false (sym (are peer ∙ at) ∙ not-true _ (begins_late net Origin c.s peer r rest permitted)))

  source_in : (r : ℕ) (peer : Option ℕ) → IsSource net policy p c.s r peer → IsSourceIn net c.s c.d.case r peer
  source_in r None claimed = record {
    at_router = claimed.at_router;
    may = and_from (from_holds c.s.from r) (not (Origin r)) claimed.from (ap (λ (o : ℕ → Bool). not (o r)) c.same ∙ claimed.no_origin);
    starts = (claimed.starts.0, case_permits net policy p c.s c.same (r ∷ claimed.starts.0) claimed.starts.1);
  }
  source_in r (Some peer) claimed =
      let permitted = case_permits net policy p c.s c.same (peer ∷ r ∷ claimed.starts.0) claimed.starts.1 in
      record {
        at = (inner r peer claimed.starts.0 claimed.at_peer permitted c.d.case.external refl, and_from (is_router net r) (is_peer net peer) claimed.at_router claimed.at_peer);
        from = claimed.from;
        starts = (claimed.starts.0, permitted);
      }

  -- a peer that starts a permitted walk is no origin, so the origins are routers
  originated : (r peer : ℕ) (rest : List ℕ) → is_peer net peer ≡ true → permits net Origin c.s (peer ∷ r ∷ rest) ≡ true → is_some (originated_at policy.origins p) ≡ true
  originated r peer rest at permitted = elim (cases_Option (originated_at policy.origins p)) [
    | inr o ↦ is_some_from (originated_at policy.origins p) o.0 o.1
    | inl none ↦
        let origin : Origin peer ≡ true = ap (λ (o : ℕ → Bool). o peer) c.same ∙ ap (λ (o : Option LocSet). is_origin_by net o peer) none ∙ at in
        absurd (true≢false (sym origin ∙ not-true _ (begins_late net Origin c.s peer r rest permitted)))
  ]

  in_source : (r : ℕ) (peer : Option ℕ) → IsSourceIn net c.s c.d.case r peer → IsSource net policy p c.s r peer
  in_source r None claimed =
      let may = and_parts (from_holds c.s.from r) (not (Origin r)) claimed.may in
      record {
        at_router = claimed.at_router;
        no_origin = ap (λ (o : ℕ → Bool). not (o r)) (sym c.same) ∙ may.1;
        from = may.0;
        starts = (claimed.starts.0, prefix_permits net policy p c.s c.same (r ∷ claimed.starts.0) claimed.starts.1);
      }
  in_source r (Some peer) claimed =
      let at = and_parts (is_router net r) (is_peer net peer) claimed.at.1 in
      record {
        at_router = at.0;
        at_peer = at.1;
        originated = originated r peer claimed.starts.0 at.1 claimed.starts.1;
        from = claimed.from;
        starts = (claimed.starts.0, prefix_permits net policy p c.s c.same (peer ∷ r ∷ claimed.starts.0) claimed.starts.1);
      }

  -- ---- and so are their ranks

  good : (path : List ℕ) → (permits net Origin c.s path && is_loop_free path) ≡ true → IsGood net policy no_failures p c.s path
  good path h =
      and_from (is_allowed net policy p c.s path) (survives net no_failures path) (subst (λ (o : ℕ → Bool). (permits net o c.s path && is_loop_free path) ≡ true) c.same h) (survives_all net path)

  allowed : (path : List ℕ) → IsGood net policy no_failures p c.s path → (permits net Origin c.s path && is_loop_free path) ≡ true
  allowed path h =
      subst (λ (o : ℕ → Bool). (permits net o c.s path && is_loop_free path) ≡ true) (sym c.same) (and_parts (is_allowed net policy p c.s path) (survives net no_failures path) h).0

  best : (begin : List ℕ) (n : ℕ) → IsLeastRank net c.s c.d.case begin n → IsBestRank net policy no_failures p c.s begin (Some n)
  best begin n x = ((x.path.0, good (begin ++ x.path.0) x.path.1, x.path.2), λ rest m fine rank. x.least rest m (allowed (begin ++ rest) fine) rank)

  for_prefix : (r : ℕ) (peer o : Option ℕ) → IsPromised net c.s c.d.case r peer o → IsPromisedFor net policy p c.s r peer o
  for_prefix r peer None none = λ source. none (source_in r peer source)
  for_prefix r peer (Some n) is = (in_source r peer is.0, best (begin_at r peer) n is.1)

  module _ (top : ℕ → Option ℕ) (tops : AreTops net no_failures c.d top) where
    abbrev all : Promises
    all = told_by c.d.graph top

    promised : ArePromises net c.s c.d.case all
    promised = tops_tell_promises net policy config cs rules kept passes c.k c.d c.s c.at c.number top tops

    -- ---- a settled outcome

    module _ (outcome : Outcome) (size : length outcome ≡ length net.routers) (settled : IsFullyStable net policy config no_failures p outcome) where
      stable : IsStable net policy config no_failures p outcome
      stable = settled.stable

      right : IsRightBy net policy config no_failures p c.s outcome
      right =
          subst (λ (x : Type 0). x) (by_statement net policy config p outcome c.s c.governs)
          (passing_evidence_is_right net policy config cs rules kept passes p no_failures outcome prefix size stable)

      as_lines : line.LinesStable (network_of net Origin) (alive_of net no_failures) (lines_of net config p (suc c.k)) (lines_at outcome)
      as_lines =
          subst (λ (o : ℕ → Bool). line.LinesStable (network_of net o) (alive_of net no_failures) (lines_of net config p (suc c.k)) (lines_at outcome)) (sym c.same)
          (stable_lines net policy config no_failures p outcome (suc c.k) rules c.of_class stable)

      used : laws.UsedPaths (setup_of net no_failures c.d) (pairs_of c.d) (lines_of net config p (suc c.k)) (lines_at outcome)
      used = used_paths_are_sound (setup_of net no_failures c.d) (pairs_of c.d) (lines_of net config p (suc c.k)) (lines_at outcome) c.lines as_lines

      greatest : AreGreatest net policy no_failures p c.d outcome
      greatest = numbers_are_greatest net policy config cs rules kept passes p no_failures outcome c.k c.d prefix stable c.of_class c.at

      -- of two ranks neither of which is greater
      same_rank : (path : List ℕ) (m n : ℕ) → rank_of net c.s.ranked path ≡ Some m → m ≤ n → n ≤ m → rank_of net c.s.ranked path ≡ Some n
      same_rank path m n rank low high = rank ∙ ap Some (omega (arith, low, high))

      -- what of a route is good
      route_good : (r : ℕ) (h : Route) → is_router net r ≡ true → not (Origin r) ≡ true → route_at outcome r ≡ Some h → laws.GoodRoute (setup_of net no_failures c.d) (pairs_of c.d) r (line_of h)
      route_good r h router late at = used.routes r (line_of h) router (not-true _ late) (ap (option_map line_of) at)

      router : (r n : ℕ) → IsPlace net c.d.case r None → all.rank r None ≡ Some n → (h : Route) × (route_at outcome r ≡ Some h) × (rank_of net c.s.ranked h.path ≡ Some n)
      router r n at is =
          let promise = subst (IsPromised net c.s c.d.case r None) is (promised.ranks r None at) in
          let claimed = in_source r None promise.0 in
          let least = best (r ∷ []) n promise.1 in
          let place = and_parts (is_router net r) (not (Origin r)) at in
          elim (cases_Option (route_at outcome r)) [
            | inl none ↦ absurd (right.unrouted r claimed none least.0.0 least.0.1)
            | inr h ↦ (
                let fine = right.used r h.0 claimed h.1 in
                let x = route_good r h.0 place.0 place.1 h.1 in
                let high = least.1 x.rest fine.1.0 (subst (IsGood net policy no_failures p c.s) x.begins fine.0) (ap (rank_of net c.s.ranked) (sym x.begins) ∙ fine.1.1) in
                let low = fine.1.2 least.0.0 n least.0.1 least.0.2 in
                (h.0, h.1, same_rank h.0.path fine.1.0 n fine.1.1 low high))
          ]

      session : (r peer n : ℕ) → IsPlace net c.d.case r (Some peer) → all.rank r (Some peer) ≡ Some n
          → (path : List ℕ) × (offered net policy config no_failures p outcome r peer ≡ Some path) × (rank_of net c.s.ranked path ≡ Some n)
      session r peer n at is =
          let promise = subst (IsPromised net c.s c.d.case r (Some peer)) is (promised.ranks r (Some peer) at) in
          let claimed = in_source r (Some peer) promise.0 in
          let least = best (peer ∷ r ∷ []) n promise.1 in
          let place = and_parts (is_router net r) (is_peer net peer) at.1 in
          elim (cases_Option (offered net policy config no_failures p outcome r peer)) [
            | inl none ↦ absurd (right.unoffered r peer claimed none least.0.0 least.0.1)
            | inr q ↦ (
                let fine = right.offers r peer q.0 q.1 in
                let rank = right.sessions r peer q.0 claimed q.1 in
                let x = used.offers r peer q.0 place.0 refl (sym (offered_lines net policy config no_failures p outcome (suc c.k) rules c.of_class r peer place.0 place.1) ∙ q.1) in
                let high = least.1 x.rest rank.0 (subst (IsGood net policy no_failures p c.s) x.begins fine) (ap (rank_of net c.s.ranked) (sym x.begins) ∙ rank.1) in
                let low = rank.2 least.0.0 n least.0.1 least.0.2 in
                (q.0, q.1, same_rank q.0 rank.0 n rank.1 low high))
          ]

      -- a router with a route has a top, and one with a top a route
      chooser : (r : ℕ) → IsPlace net c.d.case r None → (is_router net r && not (is_origin net policy p r)) ≡ true
      chooser r at = subst (λ (o : ℕ → Bool). (is_router net r && not (o r)) ≡ true) c.same at

      routed : (r : ℕ) → IsPlace net c.d.case r None → is_some (top r) ≡ true → is_some (route_at outcome r) ≡ true
      routed r at h =
          let n = is_some_parts (top r) h in
          let route = greatest.over r n.0 (chooser r at) (tops.some r n.0 n.1).reached in
          is_some_from (route_at outcome r) route.0 route.1

      topped : (r : ℕ) → IsPlace net c.d.case r None → is_some (route_at outcome r) ≡ true → is_some (top r) ≡ true
      topped r at has =
          let h = is_some_parts (route_at outcome r) has in
          let place = and_parts (is_router net r) (not (Origin r)) at in
          let x = route_good r h.0 place.0 place.1 h.1 in
          let runs : run c.d.graph (r ∷ x.rest) ≡ Some x.node = ap (run c.d.graph) (sym x.begins) ∙ sym (same_run c.d.graph (number_at c.d) h.0.path) ∙ x.runs in
          elim (cases_Option (top r)) [
            | inl none ↦ absurd (tops.none r place.0 none x.node (x.rest, runs, survives_all net (r ∷ x.rest)))
            | inr n ↦ is_some_from (top r) n.0 n.1
          ]

      held : IsHeld net policy config p c.s c.d.case all outcome
      held = record { router = router; session = session; routes = λ r at. (routed r at, topped r at) }

    pub are_kept : AreKept net policy config p c.s c.d.case all
    are_kept = record {
      places = λ r peer source. source_place net c.s c.d.case r peer (source_in r peer source);
      ranks = λ r peer at. for_prefix r peer (all.rank r peer) (promised.ranks r peer at);
      settled = λ outcome size settled. held outcome size settled;
    }

pub promises_are_kept : PromisesAreKept
promises_are_kept net policy config cs rules kept passes k d s at number top tops p prefix of_class =
    let c = case_of_class net policy config cs rules kept passes no_failures p prefix k d of_class at in
    let same_s = same_Some c.0.s s (sym c.0.number ∙ ap (λ (e : PlainCaseEvidence). statement_at policy e.case.statement) c.1 ∙ number) in
    let tops_there = subst (λ (e : PlainCaseEvidence). AreTops net no_failures e top) (sym c.1) tops in
    let told = are_kept net policy config cs rules kept passes p prefix c.0 top tops_there in (
      c.0.governs ∙ ap Some same_s,
      subst (λ (t : PlainStatement). AreKept net policy config p t d.case (told_by d.graph top)) same_s
          (subst (λ (e : PlainCaseEvidence). AreKept net policy config p c.0.s e.case (told_by e.graph top)) c.1 told),
    )
