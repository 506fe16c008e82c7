-- An outcome of a configuration that is made of evidence that passes, for a prefix of a case: it's right.
use Rattle.std.proofs.Common.{◌≡◌, ℕ, suc, ◌≤◌, Bool, true, List, [], ◌∷◌, Some, None, sym, ap, ◌∙◌, subst}
use Rattle.std.specs.Prelude.{not, option_map}
use Rattle.std.specs.List.{list_any}
use Rattle.std.proofs.lemmas.Bool.{and_parts, and_from, or_parts, not-true, not_from_false}
use Rattle.list_law.proofs.Options.{is_some_parts}
use Rattle.net_base.specs.Network.{PlainNet}
use Rattle.net_base.specs.Sets.{holds}
use Rattle.net_base.specs.Prefixes.{PlainPrefix}
use Rattle.policy_base.specs.Policies.{PlainPolicy, PlainStatement}
use Rattle.policy_base.specs.Meaning.{rank_of, front}
use Rattle.policy_base.specs.Permitted.{from_holds, IsClaimedRouter, IsClaimedSession}
use Rattle.graph_base.specs.Rules.{MeetsRules}
use Rattle.config_base.specs.declared.route.Route.{Route}
use Rattle.config_base.specs.Configs.{PlainConfig}
use Rattle.evidence_base.specs.Made.{PlainCaseEvidence, number_at}
use Rattle.outcome_base.specs.Outcomes.{Failures, Outcome, route_at, offered}
use Rattle.outcome_base.specs.Right.{IsGood, IsBest, NoneSurvives, IsRightBy}
use Rattle.evidence_law.specs.Faithful.{may_start, permits}
use Rattle.evidence_law.specs.Passes.{IsClaimed}
use Rattle.evidence_law.proofs.Setting.{lines_of, lines_at, line_of, setup_of, pairs_of}
use Rattle.evidence_law.proofs.Hops.{passed_on}
use Rattle.evidence_law.proofs.ClaimedPaths.{claimed_here}
use Rattle.evidence_law.proofs.SoundCase.{IsCaseAt, as_lines, as_written, route_line, route_good, transit_router, offer_line, offer_good}
use Rattle.net_base.proofs.RoutersAndPeers.{peer_no_router}
use Rattle.evidence_law.proofs.CaseOrigins.{case_permits, good, good_parts, no_case_origin}
use Rattle.evidence_law.proofs.GraphForms.{meets_rules}
use Rattle.evidence_law.proofs.GraphRanks.{ranks_of, meets_ranks}
use Rattle.routing_law.specs.Lines as line
use Rattle.routing_law.specs.Laws as laws
use Rattle.routing_law.proofs.Used.{lines_are_right}
use Rattle.evidence_law.proofs.PermittedWalks.{permits_parts}

module _ {net : PlainNet} {policy : PlainPolicy} {config : PlainConfig} {f : Failures} {p : PlainPrefix} {outcome : Outcome} {s : PlainStatement}
    {cs : List PlainCaseEvidence} {k : ℕ} {c : PlainCaseEvidence} (inst : IsCaseAt net policy config f p outcome s cs k c)
    (numbers : MeetsRules net (IsClaimed net s c.case) c.case.external c.graph (number_at c)) where
  abbrev Origin : ℕ → Bool
  Origin = holds c.case.origins

  best : laws.BestPaths (setup_of net f c) (ranks_of net s Origin c.graph) (lines_of net config p (suc k)) (lines_at outcome)
  best = lines_are_right (setup_of net f c) (pairs_of c) (ranks_of net s Origin c.graph) (lines_of net config p (suc k)) (lines_at outcome) (as_written inst)
      (meets_rules net Origin c.case.external c.graph (number_at c) inst.rules inst.on.graph inst.known inst.on.faithful.formed (IsClaimed net s c.case) numbers)
      (meets_ranks net s c.case c.graph (number_at c) inst.rules inst.on.graph inst.on.faithful numbers) (as_lines inst)

  ranked_path : (path : List ℕ) (i : ℕ) → permits net Origin s path ≡ true → rank_of net s.ranked path ≡ Some i → (ranks_of net s Origin c.graph).of_path path ≡ Some i
  ranked_path path i permitted rank = rw permitted rank

  path_rank : (path : List ℕ) (i j : ℕ) → permits net Origin s path ≡ true → rank_of net s.ranked path ≡ Some i → (ranks_of net s Origin c.graph).of_path path ≡ Some j → j ≡ i
  path_rank path i j permitted rank h = let one : Some j ≡ Some i = sym h ∙ ranked_path path i permitted rank in cc

  -- the best rank that a source gets: no good path that begins as it does has a better one
  best_router : (r : ℕ) (h : Route) → IsClaimedRouter net policy p s r → route_at outcome r ≡ Some h → IsBest net policy f p s (r ∷ []) h.path
  best_router r h claimed at =
      let ok = route_good inst r h claimed at in
      let n = is_some_parts (rank_of net s.ranked h.path) (permits_parts net Origin s h.path ok.0).3 in (
        n.0,
        n.1,
        λ rest m fine rank.
            let parts = good_parts net policy p s inst.same f r rest fine in
            let b =
            best.routers r rest m claimed.at_router (no_case_origin inst.same r claimed.no_origin)
            (claimed_here net policy p s c inst.same r claimed).0 (ranked_path (r ∷ rest) m parts.0 rank) parts.1 in
            let one : Some b.0 ≡ Some (line_of h) = sym b.2 ∙ route_line inst r h at in
            let route : b.0 ≡ line_of h = cc in
            let rank_is = path_rank h.path n.0 b.1 ok.0 n.1 (ap (λ (y : line.LineRoute). (ranks_of net s Origin c.graph).of_path y.path) (sym route) ∙ b.3) in
            subst (λ i. i ≤ m) rank_is b.4,
      )

  none_router : (r : ℕ) → IsClaimedRouter net policy p s r → route_at outcome r ≡ None → NoneSurvives net policy f p s (r ∷ [])
  none_router r claimed at rest fine =
      let parts = good_parts net policy p s inst.same f r rest fine in
      let rank = is_some_parts (rank_of net s.ranked (r ∷ rest)) (permits_parts net Origin s (r ∷ rest) parts.0).3 in
      let b =
      best.routers r rest rank.0 claimed.at_router (no_case_origin inst.same r claimed.no_origin)
      (claimed_here net policy p s c inst.same r claimed).0 (ranked_path (r ∷ rest) rank.0 parts.0 rank.1) parts.1 in
      let clash : None ≡ Some b.0 = sym (ap (option_map line_of) at) ∙ b.2 in
      absurd (cc)

  -- ---- sessions

  -- a claimed session's peer may start walks
  session_may : (r peer : ℕ) → IsClaimedSession net policy p s r peer → may_start Origin s peer ≡ true
  session_may r peer claimed =
      let walk = permits_parts net Origin s (peer ∷ r ∷ claimed.starts.0) (case_permits net policy p s inst.same (peer ∷ r ∷ claimed.starts.0) claimed.starts.1) in
      let ends = and_parts _ (not (list_any Origin (front (peer ∷ r ∷ claimed.starts.0)))) walk.1 in
      let none = or_parts (Origin peer) (list_any Origin (front (r ∷ claimed.starts.0))) (not-true _ ends.1) in
      and_from (from_holds s.from peer) (not (Origin peer)) claimed.from (not_from_false _ none.0)

  session_best : (r peer : ℕ) (rest : List ℕ) (i : ℕ) → IsClaimedSession net policy p s r peer → IsGood net policy f p s (peer ∷ r ∷ rest) → rank_of net s.ranked (peer ∷ r ∷ rest) ≡ Some i
      → (q : List ℕ) × (j : ℕ) × (offered net policy config f p outcome r peer ≡ Some q) × ((ranks_of net s Origin c.graph).of_path q ≡ Some j) × (j ≤ i)
  session_best r peer rest i claimed fine rank =
      let may = session_may r peer claimed in
      let off = not-true _ (and_parts (from_holds s.from peer) (not (Origin peer)) may).1 in
      let parts = good_parts net policy p s inst.same f peer (r ∷ rest) fine in
      let b = best.sessions r peer rest i claimed.at_router (peer_no_router net peer claimed.at_peer) off may (ranked_path (peer ∷ r ∷ rest) i parts.0 rank) parts.1 in
      (b.0, b.1, offer_line inst r peer claimed.at_router claimed.at_peer ∙ b.2, b.3, b.4)

  best_session : (r peer : ℕ) (path : List ℕ) → IsClaimedSession net policy p s r peer → offered net policy config f p outcome r peer ≡ Some path → IsBest net policy f p s (peer ∷ r ∷ []) path
  best_session r peer path claimed at =
      let ok = offer_good inst r peer path at in
      let n = is_some_parts (rank_of net s.ranked path) (permits_parts net Origin s path ok.0).3 in (
        n.0,
        n.1,
        λ rest m fine rank.
            let b = session_best r peer rest m claimed fine rank in
            let one : Some b.0 ≡ Some path = sym b.2 ∙ at in
            let offer : b.0 ≡ path = cc in
            let rank_is = path_rank path n.0 b.1 ok.0 n.1 (ap (ranks_of net s Origin c.graph).of_path (sym offer) ∙ b.3) in
            subst (λ i. i ≤ m) rank_is b.4,
      )

  none_session : (r peer : ℕ) → IsClaimedSession net policy p s r peer → offered net policy config f p outcome r peer ≡ None → NoneSurvives net policy f p s (peer ∷ r ∷ [])
  none_session r peer claimed at rest fine =
      let parts = good_parts net policy p s inst.same f peer (r ∷ rest) fine in
      let rank = is_some_parts (rank_of net s.ranked (peer ∷ r ∷ rest)) (permits_parts net Origin s (peer ∷ r ∷ rest) parts.0).3 in
      let b = session_best r peer rest rank.0 claimed fine rank.1 in
      let clash : None ≡ Some b.0 = sym at ∙ b.2 in
      absurd (cc)

  -- ---- the outcome

  pub right_case : IsRightBy net policy config f p s outcome
  right_case = record {
    used = λ r h claimed at. let ok = route_good inst r h claimed at in (good net policy p s inst.same f h.path ok.0 ok.1 ok.2, best_router r h claimed at);
    offers = λ r peer path at. let ok = offer_good inst r peer path at in good net policy p s inst.same f path ok.0 ok.1 ok.2;
    sessions = λ r peer path claimed at. best_session r peer path claimed at;
    unrouted = λ r claimed at. none_router r claimed at;
    unoffered = λ r peer claimed at. none_session r peer claimed at;
    transit = λ r h who at. transit_router inst r h who at;
    packets = λ r h who at. passed_on net policy config f p outcome inst.rules inst.stable r h who at;
  }
