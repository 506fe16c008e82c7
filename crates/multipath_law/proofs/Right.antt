-- Where the evidence passes, the ways of packets that are spread are right.
use Rattle.std.proofs.Common.{◌≡◌, ℕ, true, false, List, ◌∷◌, length, Some, None, refl, sym, ◌∙◌, inl, inr, subst}
use Rattle.std.specs.Prelude.{◌&&◌, not}
use Rattle.std.proofs.lemmas.Bool.{and_from, and_parts, cases_Bool, not_from_false}
use Rattle.std.proofs.lemmas.Option.{same_Some}
use Rattle.list_law.proofs.Options.{none_or_some}
use Rattle.net_base.specs.Network.{PlainNet, IsNet, is_peer, is_router}
use Rattle.net_base.specs.Prefixes.{PlainPrefix, IsPrefix}
use Rattle.net_base.proofs.RoutersAndPeers.{router_no_peer}
use Rattle.policy_base.specs.Policies.{PlainPolicy, PlainStatement, IsPolicyOf}
use Rattle.policy_base.specs.Governing.{is_origin, statement_of}
use Rattle.policy_base.specs.Walks.{is_loop_free}
use Rattle.graph_base.specs.Runs.{run}
use Rattle.config_base.specs.declared.route.Route.{Route}
use Rattle.config_base.specs.Configs.{PlainConfig}
use Rattle.config_base.specs.Lines.{class_of}
use Rattle.evidence_base.specs.Made.{PlainCaseEvidence, number_at}
use Rattle.outcome_base.specs.Outcomes.{Failures, Outcome, is_live, route_at, given, offered, sent, IsStable}
use Rattle.outcome_base.specs.Right.{IsRightBy, IsRightOutcome}
use Rattle.evidence_law.specs.Passes.{Passes}
use Rattle.evidence_law.proofs.Heard.{no_gift}
use Rattle.evidence_law.proofs.Hops.{lives, offer_parts}
use Rattle.evidence_law.proofs.RightLaw.{passing_evidence_is_right}
use Rattle.settled_law.proofs.SettledLaw.{CaseFound, case_of_class, case_or_bare}
use Rattle.multipath_law.specs.Multipath.{IsTied, IsMember, IsWay, is_up}
use Rattle.multipath_law.specs.Laws.{AreRightWays, SpreadsAreRight, TiedWaysAreRight, TiedWaysHaveNumbers}
use Rattle.multipath_law.specs.Spread.{AreRightSpreads}
use Rattle.multipath_law.proofs.Lengths.{trail_free}
use Rattle.multipath_law.proofs.Ranked.{numbers, offer, session, suffix, used}
use Rattle.multipath_law.proofs.Ways.{way_map, way_trail}

by_statement : (net : PlainNet) (policy : PlainPolicy) (config : PlainConfig) (f : Failures) (p : PlainPrefix) (outcome : Outcome) (s : PlainStatement)
    → statement_of policy p ≡ Some s → IsRightOutcome net policy config f p outcome ≡ IsRightBy net policy config f p s outcome
by_statement net policy config f p outcome s is = rw is refl

-- ---- without a class nobody holds anything but origins, and nobody is offered anything

module _ (net : PlainNet) (policy : PlainPolicy) (config : PlainConfig) (f : Failures) (p : PlainPrefix) (outcome : Outcome) (rules : IsNet net) (free : class_of config p ≡ None) where
  nothing_held : IsStable net policy config f p outcome → (r : ℕ) (h : Route) → (is_router net r && not (is_origin net policy p r)) ≡ true → route_at outcome r ≡ Some h → ⊥
  nothing_held stable r h who at =
      let parts = and_parts (is_router net r) (not (is_origin net policy p r)) who in
      let alive = not_from_false _ (lives net policy config f p outcome rules stable r h at) in
      let by = (stable.chooses r (and_from (is_router net r && not (is_origin net policy p r)) _ who alive)).given_by h at in
      none_or_some (given net policy config f p outcome by.0 r) h (no_gift net policy config f p outcome free by.0 r) by.1

  unsent : (r peer : ℕ) → is_peer net r ≡ false → sent net policy config f p outcome r peer ≡ None
  unsent r peer off = rw (free, off) refl

  no_offer : (r peer : ℕ) → offered net policy config f p outcome r peer ≡ None
  no_offer r peer = elim (cases_Bool (is_live net f r peer && is_router net r && is_peer net peer)) [
    | inl t ↦
        let router = (and_parts (is_live net f r peer) (is_router net r) (and_parts (is_live net f r peer && is_router net r) (is_peer net peer) t).0).1 in
        rw (unsent r peer (router_no_peer net r router), t) refl
    | inr t ↦ rw t refl
  ]

module _ (net : PlainNet) (policy : PlainPolicy) (config : PlainConfig) (cs : List PlainCaseEvidence) (rules : IsNet net) (kept : IsPolicyOf net policy) (passes : Passes net policy config cs)
    (p : PlainPrefix) (f : Failures) (outcome : Outcome) (prefix : IsPrefix p) (stable : IsStable net policy config f p outcome) where
  case_ways : (c : CaseFound net policy config cs rules kept passes f p) → IsRightBy net policy config f p c.s outcome
      → AreRightWays net policy config f p c.s outcome (IsTied net policy config f p outcome)
  case_ways c right = record {
    used = λ r h rest claimed at w free. (
        let u = right.used r h claimed at in
        used net policy config cs rules kept passes f p c outcome stable r h rest claimed at u.0 u.1 w free);
    offers = λ r peer path rest at w free. (offer net policy config cs rules kept passes f p c outcome stable r peer path rest at w free).fine;
    sessions = λ r peer path rest claimed at w free.
        session net policy config cs rules kept passes f p c outcome stable r peer path rest
        (offer net policy config cs rules kept passes f p c outcome stable r peer path rest at w free)
        (right.sessions r peer path claimed at);
    transit = λ r h rest who at w. suffix net policy config cs rules kept passes f p c outcome stable r h rest who at w;
  }

  bare_ways : (s : PlainStatement) → class_of config p ≡ None → AreRightWays net policy config f p s outcome (IsTied net policy config f p outcome)
  bare_ways s free = record {
    used = λ r h rest claimed at w loose.
        absurd (nothing_held net policy config f p outcome rules free stable r h (and_from (is_router net r) (not (is_origin net policy p r)) claimed.at_router claimed.no_origin) at);
    offers = λ r peer path rest at w loose. absurd (none_or_some (offered net policy config f p outcome r peer) path (no_offer net policy config f p outcome rules free r peer) at);
    sessions = λ r peer path rest claimed at w loose. absurd (none_or_some (offered net policy config f p outcome r peer) path (no_offer net policy config f p outcome rules free r peer) at);
    transit = λ r h rest who at w. absurd (nothing_held net policy config f p outcome rules free stable r h who at);
  }

  pub tied_ways : (s : PlainStatement) → statement_of policy p ≡ Some s → length outcome ≡ length net.routers → AreRightWays net policy config f p s outcome (IsTied net policy config f p outcome)
  tied_ways s governs size =
      let right : IsRightBy net policy config f p s outcome =
      subst (λ (T : Type 0). T) (by_statement net policy config f p outcome s governs) (passing_evidence_is_right net policy config cs rules kept passes p f outcome prefix size stable) in
      elim (case_or_bare net policy config cs rules kept passes f p prefix) [
        | inl c ↦
            let same : s ≡ c.s = same_Some s c.s (sym governs ∙ c.governs) in
            subst (λ (t : PlainStatement). AreRightWays net policy config f p t outcome (IsTied net policy config f p outcome)) (sym same)
            (case_ways c (subst (λ (t : PlainStatement). IsRightBy net policy config f p t outcome) same right))
        | inr free ↦ bare_ways s free
      ]

  -- ---- multipath sets

  as_tied : (path : List ℕ) → IsWay (IsMember net policy config f p outcome) (is_up net policy f p) path → IsWay (IsTied net policy config f p outcome) (is_up net policy f p) path
  as_tied path w = way_map (IsMember net policy config f p outcome) (IsTied net policy config f p outcome) (is_up net policy f p) (is_up net policy f p) (λ r z m. m.tied) (λ l e. e) path w

  loose : (r : ℕ) (h : Route) (rest : List ℕ) → is_router net r ≡ true → route_at outcome r ≡ Some h → IsWay (IsMember net policy config f p outcome) (is_up net policy f p) (r ∷ rest)
      → is_loop_free (r ∷ rest) ≡ true
  loose r h rest router at w = trail_free net policy config f p outcome rules stable r h rest router at (way_trail (IsMember net policy config f p outcome) (is_up net policy f p) r rest w)

  pub spreads : (s : PlainStatement) → AreRightWays net policy config f p s outcome (IsTied net policy config f p outcome) → AreRightSpreads net policy config f p s outcome
  spreads s right = record {
    used = λ r h rest claimed at w. right.used r h rest claimed at (as_tied (r ∷ rest) w) (loose r h rest claimed.at_router at w);
    offers = λ r peer path rest at w. (
        let o = offer_parts net policy config f p outcome rules r peer path at in
        right.offers r peer path rest at (as_tied (r ∷ rest) w) (loose r o.route rest o.router o.held w));
    sessions = λ r peer path rest claimed at w. (
        let o = offer_parts net policy config f p outcome rules r peer path at in
        right.sessions r peer path rest claimed at (as_tied (r ∷ rest) w) (loose r o.route rest o.router o.held w));
    transit = λ r h rest who at w. right.transit r h rest who at (as_tied (r ∷ rest) w);
  }

pub tied_ways_are_right : TiedWaysAreRight
tied_ways_are_right net policy config cs rules kept passes p f outcome s prefix governs size stable = tied_ways net policy config cs rules kept passes p f outcome prefix stable s governs size

pub spreads_are_right : SpreadsAreRight
spreads_are_right net policy config cs rules kept passes p f outcome s prefix governs size stable =
    spreads net policy config cs rules kept passes p f outcome prefix stable s (tied_ways net policy config cs rules kept passes p f outcome prefix stable s governs size)

pub tied_ways_have_numbers : TiedWaysHaveNumbers
tied_ways_have_numbers net policy config cs rules kept passes p f outcome k d prefix stable of_class at r h rest who has w =
    let c = case_of_class net policy config cs rules kept passes f p prefix k d of_class at in
    subst (λ (e : PlainCaseEvidence). (n : ℕ) × (run e.graph (r ∷ rest) ≡ Some n) × (number_at e n ≡ h.pref)) c.1
    (numbers net policy config cs rules kept passes f p c.0 outcome stable r h rest who has w)
