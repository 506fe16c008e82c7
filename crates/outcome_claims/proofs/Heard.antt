-- A session that a statement claims is one over which a peer hears the router in the graph of its case.
use Rattle.std.proofs.Common.{◌≡◌, ℕ, ◌<◌, Bool, true, false, List, [], ◌∷◌, length, Option, Some, refl, sym, ap, ◌∙◌, subst, inl, inr}
use Rattle.std.specs.Prelude.{◌&&◌, ◌==◌, not, is_some, option_and_then, option_map}
use Rattle.std.proofs.lemmas.Bool.{and_from, and_parts, eq-eqb, not-true, or_left, true≢false}
use Rattle.list_law.proofs.Options.{cases_Option, is_some_parts}
use Rattle.list_law.proofs.Tests.{find_from}
use Rattle.net_base.specs.declared.loc.LocSet.{LocSet}
use Rattle.net_base.specs.Network.{PlainNet, IsNet, is_peer, is_router}
use Rattle.net_base.specs.Prefixes.{PlainPrefix}
use Rattle.net_base.specs.Sets.{holds}
use Rattle.policy_base.specs.Governing.{is_origin, is_origin_by, originated_at}
use Rattle.policy_base.specs.Meaning.{rank_of}
use Rattle.policy_base.specs.Permitted.{from_holds, is_permitted, IsClaimedRouter, IsClaimedSession}
use Rattle.policy_base.specs.Policies.{PlainPolicy, PlainStatement}
use Rattle.graph_base.specs.Graphs.{PlainGraph}
use Rattle.graph_base.specs.Ranked.{IsRankedRouter}
use Rattle.graph_base.specs.Rules.{IsWellFormed}
use Rattle.graph_base.specs.Runs.{has_step, is_listener, is_start, place_of, run, step_at}
use Rattle.graph_base.proofs.RunSteps.{last_step, run_begins}
use Rattle.graph_base.proofs.StartsAndSteps.{step_in, step_nodes}
use Rattle.evidence_base.specs.Made.{PlainCaseEvidence}
use Rattle.evidence_law.proofs.Listeners.{listeners_ranked}
use Rattle.graph_law.proofs.Claimed.{claimed_where_ranked, ranked_may, ranked_permits}
use Rattle.evidence_law.specs.Faithful.{is_walk_to}
use Rattle.evidence_law.specs.Passes.{IsCaseGraph}
use Rattle.evidence_law.proofs.CaseOrigins.{case_permits, prefix_permits}
use Rattle.outcome_claims.proofs.Sessions.{router_of_peer}

-- a node at the router has a step to one at the peer, which hears
pub record IsHeard (g : PlainGraph) (r peer : ℕ) : Type 0 where
  pub from : ℕ
  pub to : ℕ
  pub step : has_step g from to ≡ true
  pub hears : is_listener g to ≡ true
  pub router : place_of g from ≡ r
  pub at : place_of g to ≡ peer

module _ (net : PlainNet) (policy : PlainPolicy) (p : PlainPrefix) (s : PlainStatement) (d : PlainCaseEvidence) (rules : IsNet net)
    (on : IsCaseGraph net s d) (same : holds d.case.origins ≡ is_origin net policy p) where
  abbrev Origin : ℕ → Bool
  Origin = holds d.case.origins

  abbrev g : PlainGraph
  g = d.graph

  formed : IsWellFormed net Origin d.case.external g
  formed = on.faithful.formed

  -- ---- routers

  pub router_claims : (r : ℕ) → IsRankedRouter net g r → IsClaimedRouter net policy p s r
  router_claims r ranked =
      let claimed = (claimed_where_ranked net s d.case g on.graph on.faithful r).0 ranked in
      let may = and_parts (from_holds s.from r) (not (Origin r)) claimed.may in
      record {
        at_router = claimed.at_router;
        no_origin = ap (λ (o : ℕ → Bool). not (o r)) (sym same) ∙ may.1;
        from = may.0;
        starts = (claimed.starts.0, prefix_permits net policy p s same (r ∷ claimed.starts.0) claimed.starts.1);
      }

  pub claimed_ranks : (r : ℕ) → IsClaimedRouter net policy p s r → IsRankedRouter net g r
  claimed_ranks r claimed =
      (claimed_where_ranked net s d.case g on.graph on.faithful r).1
      (record {
        at_router = claimed.at_router;
        may = and_from (from_holds s.from r) (not (Origin r)) claimed.from (ap (λ (o : ℕ → Bool). not (o r)) same ∙ claimed.no_origin);
        starts = (claimed.starts.0, case_permits net policy p s same (r ∷ claimed.starts.0) claimed.starts.1);
      })

  -- ---- sessions

  pub heard : (r peer : ℕ) → IsClaimedSession net policy p s r peer → IsHeard g r peer
  heard r peer claimed =
      let permitted = case_permits net policy p s same (peer ∷ r ∷ claimed.starts.0) claimed.starts.1 in
      let walk = (and_parts (is_walk_to net Origin (peer ∷ r ∷ claimed.starts.0)) (from_holds s.from peer)
      (and_parts _ (is_some (rank_of net s.ranked (peer ∷ r ∷ claimed.starts.0))) permitted).0).0 in
      let ends = is_some_parts (run g (peer ∷ r ∷ claimed.starts.0))
      (on.faithful.has_run [] (peer ∷ r ∷ claimed.starts.0) (or_left (is_walk_to net Origin (peer ∷ r ∷ claimed.starts.0)) _ walk) permitted) in
      let last = last_step g peer r ends.0 claimed.starts.0 ends.1 in
      let late = and_parts _ (not (is_start g ends.0)) (formed.links last.0 ends.0 last.2) in
      let node = (step_nodes g last.0 ends.0 on.graph last.2).1 in
      record {
        from = last.0;
        to = ends.0;
        step = last.2;
        hears = formed.listeners ends.0 node ∙ and_from (is_peer net (place_of g ends.0)) (not (is_start g ends.0)) (ap (is_peer net) last.3 ∙ claimed.at_peer) late.1;
        router = run_begins g r last.0 claimed.starts.0 last.1;
        at = last.3;
      }

  -- a node that is stepped to has a run over the node before
  run_over : (m n : ℕ) (path : List ℕ) → has_step g m n ≡ true → run g path ≡ Some m
      → (l : ℕ) × (rest : List ℕ) × (t : ℕ) × (path ≡ l ∷ rest) × (run g (place_of g n ∷ l ∷ rest) ≡ Some t) × (place_of g t ≡ place_of g n)
  run_over m n [] step h = absurd cc
  run_over m n (l ∷ rest) step h =
      let known = step_in g m n step in
      let found = find_from (λ (e : ℕ × ℕ). e.0 == m && place_of g e.1 == place_of g n) g.steps known.0 (m, n) known.1 (and_from _ _ (eq-eqb m m refl) (eq-eqb (place_of g n) (place_of g n) refl)) in
      let runs : run g (place_of g n ∷ l ∷ rest) ≡ Some found.0.1 = ap (option_and_then (λ k. step_at g k (place_of g n))) h ∙ ap (option_map (λ (e : ℕ × ℕ). e.1)) found.1 in
      (l, rest, found.0.1, refl, runs, run_begins g (place_of g n) found.0.1 (l ∷ rest) runs)

  -- an origin is no peer that hears
  originated : (n : ℕ) → n < length g.nodes → is_peer net (place_of g n) ≡ true → is_start g n ≡ false → is_some (originated_at policy.origins p) ≡ true
  originated n node peer late = elim (cases_Option (originated_at policy.origins p)) [
    | inr o ↦ ap is_some o.1
    | inl none ↦
        let origin : Origin (place_of g n) ≡ true = ap (λ (o : ℕ → Bool). o (place_of g n)) same ∙ ap (λ (o : Option LocSet). is_origin_by net o (place_of g n)) none ∙ peer in
        absurd (true≢false (sym (formed.alone n node origin) ∙ late))
  ]

  pub heard_claims : (r peer : ℕ) → IsHeard g r peer → IsClaimedSession net policy p s r peer
  heard_claims r peer h =
      let nodes = step_nodes g h.from h.to on.graph h.step in
      let kind = and_parts (is_peer net (place_of g h.to)) (not (is_start g h.to)) (sym (formed.listeners h.to nodes.1) ∙ h.hears) in
      let late = not-true (is_start g h.to) kind.1 in
      let ended = on.faithful.is_ended h.from nodes.0 in
      let over = run_over h.from h.to ended.0 h.step ended.2 in
      let begins = run_begins g over.0 h.from over.1 (ap (run g) (sym over.3) ∙ ended.2) in
      let target = last_step g (place_of g h.to) over.0 over.2 over.1 over.4 in
      let node = (step_nodes g target.0 over.2 on.graph target.2).1 in
      let after = and_parts _ (not (is_start g over.2)) (formed.links target.0 over.2 target.2) in
      let listens : is_listener g over.2 ≡ true = formed.listeners over.2 node ∙ and_from (is_peer net (place_of g over.2)) (not (is_start g over.2)) (ap (is_peer net) over.5 ∙ kind.0) after.1 in
      let ranked = listeners_ranked net s Origin d.case.external g on.graph on.faithful over.2 node listens in
      let may = ranked_may net s d.case g on.graph on.faithful over.2 node ranked in
      let permitted = ranked_permits net s d.case g on.graph on.faithful (place_of g over.2) over.2 (place_of g h.to ∷ over.0 ∷ over.1) refl may over.4 ranked in
      let names : place_of g over.2 ≡ peer = over.5 ∙ h.at in
      let linked = (and_parts _ (not (is_start g h.to)) (formed.links h.from h.to h.step)).0 in
      let is_r : over.0 ≡ r = sym begins ∙ h.router in
      let path = prefix_permits net policy p s same (place_of g h.to ∷ over.0 ∷ over.1) permitted in
      record {
        at_router = ap (is_router net) (sym h.router) ∙ router_of_peer net rules (place_of g h.from) (place_of g h.to) linked kind.0;
        at_peer = ap (is_peer net) (sym h.at) ∙ kind.0;
        originated = originated h.to nodes.1 kind.0 late;
        from = ap (from_holds s.from) (sym names) ∙ (and_parts (from_holds s.from (place_of g over.2)) (not (Origin (place_of g over.2))) may).0;
        starts = (over.1, subst (λ (k : ℕ). is_permitted net policy p s (k ∷ r ∷ over.1) ≡ true) h.at (subst (λ (k : ℕ). is_permitted net policy p s (place_of g h.to ∷ k ∷ over.1) ≡ true) is_r path));
      }
