-- An outcome for a prefix of a case, of a configuration that is made of graphs: whatever the numbers are, paths are allowed.
use Rattle.std.proofs.Common.{◌≡◌, ℕ, suc, Bool, true, List, ◌∷◌, ◌++◌, Some, None, refl, sym, ap, ◌∙◌, inl, inr, subst}
use Rattle.std.specs.Prelude.{◌&&◌, not, is_some, option_map, slice_get}
use Rattle.std.proofs.lemmas.Bool.{and_parts, cases_Bool}
use Rattle.net_base.specs.Network.{PlainNet, IsNet, is_location, is_peer, is_router}
use Rattle.net_base.specs.Sets.{holds}
use Rattle.net_base.specs.Prefixes.{PlainPrefix}
use Rattle.policy_base.specs.Policies.{PlainPolicy, PlainStatement}
use Rattle.policy_base.specs.Governing.{is_origin}
use Rattle.policy_base.specs.Permitted.{is_permitted, IsClaimedRouter}
use Rattle.graph_base.specs.Runs.{run}
use Rattle.config_base.specs.declared.route.Route.{Route}
use Rattle.config_base.specs.Configs.{PlainConfig}
use Rattle.config_base.specs.Lines.{class_of}
use Rattle.evidence_base.specs.Made.{PlainCaseEvidence, IsConfigOf, AreTags, number_at}
use Rattle.list_law.specs.Members.{IsIn}
use Rattle.outcome_base.specs.Outcomes.{Failures, Outcome, is_dead, is_live, route_at, offered, IsStable}
use Rattle.evidence_law.specs.Faithful.{permits}
use Rattle.evidence_law.specs.Laws.{IsSoundBy}
use Rattle.evidence_law.specs.Passes.{IsCaseGraph}
use Rattle.evidence_law.proofs.Setting.{network_of, alive_of, graph_of, lines_of, lines_at, line_of, setup_of, pairs_of}
use Rattle.evidence_law.proofs.Stability.{stable_lines, offered_lines}
use Rattle.evidence_law.proofs.CaseOrigins.{good, no_case_origin, prefix_permits}
use Rattle.evidence_law.proofs.PeerWalks.{peer_permits}
use Rattle.evidence_law.proofs.GraphForms.{same_run}
use Rattle.evidence_law.proofs.ClaimedPaths.{claimed_permits}
use Rattle.evidence_law.proofs.RunWalks.{runs_are_walks}
use Rattle.evidence_law.proofs.ClassLines.{written}
use Rattle.routing_law.specs.Network as law
use Rattle.routing_law.specs.Lines as line
use Rattle.routing_law.specs.Spells as spelled
use Rattle.routing_law.specs.Laws as laws
use Rattle.routing_law.proofs.Used.{used_paths_are_sound}

-- a prefix of a case, with a stable outcome for it
pub record IsCaseAt (net : PlainNet) (policy : PlainPolicy) (config : PlainConfig) (f : Failures) (p : PlainPrefix) (outcome : Outcome)
    (s : PlainStatement) (cs : List PlainCaseEvidence) (k : ℕ) (c : PlainCaseEvidence) : Type 0 where
  pub rules : IsNet net
  pub made : IsConfigOf net policy cs config
  pub tags : AreTags net cs
  pub of_case : slice_get cs k ≡ Some c
  pub of_class : class_of config p ≡ Some (suc k)
  pub on : IsCaseGraph net s c
  pub same : holds c.case.origins ≡ is_origin net policy p
  pub known : (l : ℕ) → holds c.case.origins l ≡ true → is_location net l ≡ true
  pub announced : (v : ℕ) → is_router net v ≡ true → holds c.case.origins v ≡ true → IsIn c.case.prefixes p
  pub stable : IsStable net policy config f p outcome

module _ {net : PlainNet} {policy : PlainPolicy} {config : PlainConfig} {f : Failures} {p : PlainPrefix} {outcome : Outcome} {s : PlainStatement}
    {cs : List PlainCaseEvidence} {k : ℕ} {c : PlainCaseEvidence} (inst : IsCaseAt net policy config f p outcome s cs k c) where
  abbrev Origin : ℕ → Bool
  Origin = holds c.case.origins

  pub as_lines : line.LinesStable (network_of net Origin) (alive_of net f) (lines_of net config p (suc k)) (lines_at outcome)
  as_lines =
      subst (λ (o : ℕ → Bool). line.LinesStable (network_of net o) (alive_of net f) (lines_of net config p (suc k)) (lines_at outcome))
      (sym inst.same) (stable_lines net policy config f p outcome (suc k) inst.rules inst.of_class inst.stable)

  pub as_written : spelled.Written (network_of net Origin) (graph_of c.graph (number_at c)) (pairs_of c) (lines_of net config p (suc k))
  as_written = written net policy cs config p inst.rules inst.made inst.tags k c inst.of_case inst.of_class inst.on.graph Origin c.case.external inst.on.faithful.formed inst.announced inst.known

  pub used : laws.UsedPaths (setup_of net f c) (pairs_of c) (lines_of net config p (suc k)) (lines_at outcome)
  used = used_paths_are_sound (setup_of net f c) (pairs_of c) (lines_of net config p (suc k)) (lines_at outcome) as_written as_lines

  -- ---- routers

  pub route_line : (r : ℕ) (h : Route) → route_at outcome r ≡ Some h → lines_at outcome r ≡ Some (line_of h)
  route_line r h at = ap (option_map line_of) at

  pub route_good : (r : ℕ) (h : Route) → IsClaimedRouter net policy p s r → route_at outcome r ≡ Some h
      → (permits net Origin s h.path ≡ true) × (law.loop_free h.path ≡ true) × (law.survives (alive_of net f) h.path ≡ true)
  route_good r h claimed at =
      let x = used.routes r (line_of h) claimed.at_router (no_case_origin inst.same r claimed.no_origin) (route_line r h at) in
      let runs : run c.graph (r ∷ x.rest) ≡ Some x.node = ap (run c.graph) (sym x.begins) ∙ sym (same_run c.graph (number_at c) h.path) ∙ x.runs in
      let permitted = claimed_permits net policy p s c inst.same inst.rules inst.on r x.node x.rest claimed runs in
      (subst (λ path. permits net Origin s path ≡ true) (sym x.begins) permitted, x.free, x.lives)

  pub transit_router : (r : ℕ) (h : Route) → (is_router net r && not (is_origin net policy p r)) ≡ true → route_at outcome r ≡ Some h
      → (above : List ℕ) × (is_permitted net policy p s (above ++ h.path) ≡ true)
  transit_router r h who at =
      let parts = and_parts (is_router net r) (not (is_origin net policy p r)) who in
      let x = used.routes r (line_of h) parts.0 (no_case_origin inst.same r parts.1) (route_line r h at) in
      let runs : run c.graph h.path ≡ Some x.node = sym (same_run c.graph (number_at c) h.path) ∙ x.runs in
      let path = runs_are_walks net Origin c.case.external c.graph inst.on.graph inst.on.faithful.formed h.path x.node runs in
      let above = inst.on.faithful.has_no_other h.path path (ap is_some runs) in
      (above.0, prefix_permits net policy p s inst.same (above.0 ++ h.path) above.1)

  -- ---- offers

  -- what stands behind an offer
  offer_parts : (r peer : ℕ) (path : List ℕ) → offered net policy config f p outcome r peer ≡ Some path → (is_router net r ≡ true) × (is_peer net peer ≡ true) × (not (is_dead f peer) ≡ true)
  offer_parts r peer path h = elim (cases_Bool (is_live net f r peer && is_router net r && is_peer net peer)) [
    | inl t ↦
        let last = and_parts (is_live net f r peer && is_router net r) (is_peer net peer) t in
        let first = and_parts (is_live net f r peer) (is_router net r) last.0 in
        (first.1, last.1, (and_parts _ _ first.0).1)
    | inr t ↦ let clash : None ≡ Some path = sym (rw t refl) ∙ h in absurd (cc)
  ]

  pub offer_line : (r peer : ℕ) → is_router net r ≡ true → is_peer net peer ≡ true
      → offered net policy config f p outcome r peer ≡ line.offered (alive_of net f) (lines_of net config p (suc k)) (lines_at outcome) r peer
  offer_line r peer router at_peer = offered_lines net policy config f p outcome (suc k) inst.rules inst.of_class r peer router at_peer

  pub offer_good : (r peer : ℕ) (path : List ℕ) → offered net policy config f p outcome r peer ≡ Some path
      → (permits net Origin s path ≡ true) × (law.loop_free path ≡ true) × (law.survives (alive_of net f) path ≡ true)
  offer_good r peer path h =
      let parts = offer_parts r peer path h in
      let x = used.offers r peer path parts.0 parts.2 (sym (offer_line r peer parts.0 parts.1) ∙ h) in
      let runs : run c.graph (peer ∷ r ∷ x.rest) ≡ Some x.node = ap (run c.graph) (sym x.begins) ∙ sym (same_run c.graph (number_at c) path) ∙ x.runs in
      (subst (λ q. permits net Origin s q ≡ true) (sym x.begins) (peer_permits net s c inst.on peer r x.node x.rest parts.1 runs), x.free, x.lives)

  pub sound_case : IsSoundBy net policy config f p s outcome
  sound_case = record {
    used = λ r h claimed at. let ok = route_good r h claimed at in good net policy p s inst.same f h.path ok.0 ok.1 ok.2;
    offers = λ r peer path at. let ok = offer_good r peer path at in good net policy p s inst.same f path ok.0 ok.1 ok.2;
    transit = λ r h who at. transit_router r h who at;
  }
