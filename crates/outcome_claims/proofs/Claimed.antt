-- What is read off the graph of a prefix's case is what the policy claims for the prefix.
use Rattle.std.proofs.Common.{◌≡◌, ℕ, ◌≤◌, ◌-◌, zero, suc, Bool, true, false, List, [], ◌∷◌, Option, Some, None, refl, sym, ap, ◌∙◌, subst, inl, inr}
use Rattle.std.specs.Prelude.{◌↔◌, ◌==◌, not, filter, option_and_then, slice_get}
use Rattle.std.specs.List.{items_where_true, position}
use Rattle.std.specs.Option.{option_map_or}
use Rattle.std.proofs.lemmas.Bool.{and_parts, eq-eqb, true≢false}
use Rattle.std.proofs.lemmas.List.Quantifiers.{position-Some}
use Rattle.std.proofs.lemmas.Option.{get_or_from_slice_get, slice_get_within}
use Rattle.list_law.specs.Members.{IsIn}
use Rattle.list_law.proofs.Members.{IsIn-filter, IsIn-filter_parts, IsIn-map, IsIn-map_parts, IsIn-nil, list_any-from_IsIn, list_any_member}
use Rattle.list_law.proofs.Options.{option_map_or_equal, none_or_some}
use Rattle.policy_base.specs.declared.limits.TheConstants.{ALTERNATIVES}
use Rattle.net_base.specs.Network.{PlainNet, IsNet, is_peer, joins, linked}
use Rattle.net_base.specs.Prefixes.{PlainPrefix, IsPrefix}
use Rattle.net_base.specs.Sets.{holds}
use Rattle.policy_base.specs.declared.case.Case.{Case}
use Rattle.policy_base.specs.Cases.{case_list}
use Rattle.policy_base.specs.Governing.{is_origin, statement_of}
use Rattle.policy_base.specs.Meaning.{alternative_count, at_last}
use Rattle.policy_base.specs.Permitted.{is_permitted, IsClaimedRouter, IsClaimedSession}
use Rattle.policy_base.specs.Policies.{IsPolicyOf, PlainPolicy, PlainStatement, statement_at}
use Rattle.policy_base.proofs.WalkParts.{at_last-never}
use Rattle.graph_base.specs.Ranked.{IsRankedRouter}
use Rattle.graph_base.specs.Runs.{is_listener, is_start, place_of}
use Rattle.graph_base.proofs.StartsAndSteps.{in_step, step_in, step_nodes}
use Rattle.config_base.specs.Configs.{PlainConfig}
use Rattle.config_base.specs.Lines.{class_of}
use Rattle.evidence_base.specs.Made.{PlainCaseEvidence, case_at}
use Rattle.evidence_law.specs.Passes.{AreWithin, IsCaseGraph, Passes}
use Rattle.evidence_law.proofs.MadeCases.{HasCase, case_or_bare, case_or_nobody}
use Rattle.evidence_law.proofs.PermittedWalks.{permits_parts}
use Rattle.outcome_claims.specs.Claims.{AreClaimed, Sources}
use Rattle.outcome_claims.specs.Marks.{AreMarks, heard_pairs, is_at}
use Rattle.outcome_claims.proofs.Ascending.{picked_ascend}
use Rattle.outcome_claims.proofs.Heard.{IsHeard, claimed_ranks, heard, heard_claims, router_claims}
use Rattle.outcome_claims.proofs.Marking.{picked_in, picked_parts}
use Rattle.outcome_claims.proofs.Sessions.{place_found, router_first}

-- ---- the cases of a policy are within the limits

few_at : (net : PlainNet) (policy : PlainPolicy) (cs : List Case) (room k : ℕ) (c : Case) (s : PlainStatement) → AreWithin net policy room cs
    → slice_get cs k ≡ Some c → statement_at policy c.statement ≡ Some s → alternative_count s.ranked ≤ ALTERNATIVES
few_at net policy [] room k c s within at governs = absurd cc
few_at net policy (b ∷ cs) room zero c s within at governs =
    let same : b ≡ c = cc in
    let one : Some within.0 ≡ Some s = sym within.2 ∙ ap (λ (d : Case). statement_at policy d.statement) same ∙ governs in
    let is : within.0 ≡ s = cc in
    subst (λ (t : PlainStatement). alternative_count t.ranked ≤ ALTERNATIVES) is within.3
few_at net policy (b ∷ cs) room (suc k) c s within at governs = few_at net policy cs (room - within.1) k c s within.6 at governs

-- ---- the case of a prefix

module _ (net : PlainNet) (policy : PlainPolicy) (config : PlainConfig) (cs : List PlainCaseEvidence) (rules : IsNet net)
    (kept : IsPolicyOf net policy) (passes : Passes net policy config cs) (p : PlainPrefix) (prefix : IsPrefix p) where
  abbrev case_found : Option PlainCaseEvidence
  case_found = option_and_then (case_at cs) (class_of config p)

  -- the statement of a prefix's case, which ranks paths
  pub record IsGoverned (d : PlainCaseEvidence) : Type 0 where
    pub s : PlainStatement
    pub governs : statement_of policy p ≡ Some s
    pub on : IsCaseGraph net s d
    pub same : holds d.case.origins ≡ is_origin net policy p
    pub few : alternative_count s.ranked ≤ ALTERNATIVES

  at_case : (s : PlainStatement) → statement_of policy p ≡ Some s → (c : HasCase net policy config cs p s) → IsGoverned c.d
  at_case s governs c = record {
    s = s;
    governs = governs;
    on = passes.made.graphs c.k c.d s c.at c.is.number;
    same = c.is.same;
    few = few_at net policy (case_list net policy) _ c.k c.d.case s passes.limits c.is.at c.is.number;
  }

  pub governed : (d : PlainCaseEvidence) → case_found ≡ Some d → IsGoverned d
  governed d found = elim (case_or_bare net policy config cs rules kept passes.made p prefix) [
    | inr free ↦ absurd (none_or_some case_found d (ap (option_and_then (case_at cs)) free) found)
    | inl there ↦ (
        let c = there.2 in
        let both : Some c.d ≡ Some d = sym (ap (option_and_then (case_at cs)) c.of_class ∙ c.at) ∙ found in
        let same : c.d ≡ d = cc in
        subst IsGoverned same (at_case there.0 there.1 c))
  ]

  -- ---- a prefix without a case

  none_permitted : (s : PlainStatement) → case_found ≡ None → statement_of policy p ≡ Some s → (path : List ℕ) → is_permitted net policy p s path ≡ true → ⊥
  none_permitted s none governs path permitted = elim (case_or_nobody net policy config cs rules kept passes.made p prefix s governs) [
    | inr nobody ↦ (
        let ends = (permits_parts net (is_origin net policy p) s path permitted).1 in
        true≢false (sym (and_parts (at_last (is_origin net policy p) path) _ ends).0 ∙ at_last-never (is_origin net policy p) path nobody.0))
    | inl c ↦ none_or_some case_found c.d none (ap (option_and_then (case_at cs)) c.of_class ∙ c.at)
  ]

  pub none_claimed : (sources : Sources) → case_found ≡ None → ((r : ℕ) → sources.routers r ≡ false) → sources.sessions ≡ [] → AreClaimed net policy p sources
  none_claimed sources none routers sessions = record {
    routers = λ r. (
      λ h. absurd (true≢false (sym h ∙ routers r)),
      λ c. absurd (none_permitted c.0 none c.1 (r ∷ c.2.starts.0) c.2.starts.1),
    );
    sessions = λ r peer. (
      λ h. absurd (no_item (r, peer) (subst (λ (es : List (ℕ × ℕ)). IsIn es (r, peer)) sessions h)),
      λ c. absurd (none_permitted c.0 none c.1 (peer ∷ r ∷ c.2.starts.0) c.2.starts.1),
    );
    order = rw sessions tt;
  }
    where
      no_item : (x : ℕ × ℕ) → IsIn [] x → ⊥
      no_item x h = IsIn-nil x h

  -- ---- a prefix with a case

  module _ (d : PlainCaseEvidence) (case : IsGoverned d) (marks : List Bool) (are : AreMarks net (heard_pairs d.graph) marks) where
    abbrev links : List (ℕ × ℕ)
    links = items_where_true marks net.links

    abbrev hears : ℕ × ℕ → Bool
    hears e = is_listener d.graph e.1

    abbrev ends : ℕ × ℕ → ℕ × ℕ
    ends e = (place_of d.graph e.0, place_of d.graph e.1)

    heard_from : (r peer : ℕ) → IsIn links (r, peer) → IsHeard d.graph r peer
    heard_from r peer h =
        let at = picked_parts marks net.links (r, peer) h in
        let within = slice_get_within net.links at.0 (r, peer) at.1 in
        let pair = list_any_member (is_at net at.0) (heard_pairs d.graph) (sym (are.at at.0 within) ∙ at.2) in
        let step = IsIn-map_parts ends (filter hears d.graph.steps) pair.0 pair.1 in
        let kept_step = IsIn-filter_parts hears d.graph.steps step.0 step.1 in
        let goes = in_step d.graph step.0.0 step.0.1 kept_step.0 in
        let node = (step_nodes d.graph step.0.0 step.0.1 case.on.graph goes).1 in
        let peer_there = (and_parts (is_peer net (place_of d.graph step.0.1)) (not (is_start d.graph step.0.1)) (sym (case.on.faithful.formed.listeners step.0.1 node) ∙ kept_step.1)).0 in
        let place = option_map_or_equal (position (joins pair.0.0 pair.0.1) net.links) at.0 pair.2 in
        let joined = (position-Some (joins pair.0.0 pair.0.1) net.links at.0 (0, 0) place).1 in
        let link = get_or_from_slice_get net.links at.0 (r, peer) (0, 0) at.1 in
        let joins_it : joins (place_of d.graph step.0.0) (place_of d.graph step.0.1) (r, peer) ≡ true = ap (λ (e : ℕ × ℕ). joins e.0 e.1 (r, peer))
        step.2 ∙ sym (ap (joins pair.0.0 pair.0.1) link) ∙ joined in
        let same = router_first net rules at.0 (place_of d.graph step.0.0) (place_of d.graph step.0.1) (r, peer) at.1 joins_it peer_there in
        record { from = step.0.0; to = step.0.1; step = goes; hears = kept_step.1; router = sym same.0; at = sym same.1 }

    heard_in : (r peer : ℕ) → IsHeard d.graph r peer → is_peer net peer ≡ true → IsIn links (r, peer)
    heard_in r peer h peer_there =
        let on_link = (and_parts (linked net (place_of d.graph h.from) (place_of d.graph h.to)) _ (case.on.faithful.formed.links h.from h.to h.step)).0 in
        let joined : linked net r peer ≡ true = sym (ap (λ l. linked net l (place_of d.graph h.to)) h.router ∙ ap (linked net r) h.at) ∙ on_link in
        let found = place_found net rules r peer joined in
        let same = router_first net rules found.0 r peer found.1 found.3 found.4 peer_there in
        let link : found.1 ≡ (r, peer) = λ i. (same.0 i, same.1 i) in
        let step = IsIn-map ends (filter hears d.graph.steps) (h.from, h.to) (IsIn-filter hears d.graph.steps (h.from, h.to) (step_in d.graph h.from h.to h.step) h.hears) in
        let pair : ends (h.from, h.to) ≡ (r, peer) = λ i. (h.router i, h.at i) in
        let within = slice_get_within net.links found.0 found.1 found.3 in
        let marked : is_at net found.0 (r, peer) ≡ true = ap (λ o. option_map_or (λ k. k == found.0) o false) found.2 ∙ eq-eqb found.0 found.0 refl in
        let mark = are.at found.0 within ∙ list_any-from_IsIn (is_at net found.0) (heard_pairs d.graph) (r, peer) (subst (IsIn (heard_pairs d.graph)) pair step) marked in
        picked_in marks net.links found.0 (r, peer) (found.3 ∙ ap Some link) mark

    one_statement : (s : PlainStatement) → statement_of policy p ≡ Some s → s ≡ case.s
    one_statement s governs = let both : Some s ≡ Some case.s = sym governs ∙ case.governs in cc

    pub case_claimed : (sources : Sources) → ((r : ℕ) → (sources.routers r ≡ true) ↔ IsRankedRouter net d.graph r) → sources.sessions ≡ links → AreClaimed net policy p sources
    case_claimed sources ranked sessions = record {
      routers = λ r. (
        λ h. (case.s, case.governs, router_claims net policy p case.s d rules case.on case.same r ((ranked r).0 h)),
        λ c. (ranked r).1 (claimed_ranks net policy p case.s d rules case.on case.same r (subst (λ (s : PlainStatement). IsClaimedRouter net policy p s r) (one_statement c.0 c.1) c.2)),
      );
      sessions = λ r peer. (
        λ h. (case.s, case.governs, heard_claims net policy p case.s d rules case.on case.same r peer (heard_from r peer (subst (λ (es : List (ℕ × ℕ)). IsIn es (r, peer)) sessions h))),
        λ c.
            let claimed = subst (λ (s : PlainStatement). IsClaimedSession net policy p s r peer) (one_statement c.0 c.1) c.2 in
            subst (λ (es : List (ℕ × ℕ)). IsIn es (r, peer)) (sym sessions) (heard_in r peer (heard net policy p case.s d rules case.on case.same r peer claimed) claimed.at_peer),
      );
      order = rw sessions (picked_ascend marks net.links rules.order);
    }
