-- Where two policies say the same of a prefix that a statement of each governs, an outcome that is right for the one is right for the other.
use Rattle.std.proofs.Common.{◌≡◌, ℕ, true, false, IsTrue, IsSome, List, [], ◌∷◌, ◌++◌, Option, Some, None, sym, ap, ◌∙◌, subst, inl, inr}
use Rattle.std.specs.Prelude.{◌&&◌, not, is_some}
use Rattle.std.specs.List.{list_any}
use Rattle.std.proofs.lemmas.Bool.{and_parts, not-true, or_parts, true≢false}
use Rattle.list_law.proofs.Options.{cases_Option, is_some_from, is_some_parts}
use Rattle.net_base.specs.Network.{PlainNet, IsNet, is_peer, is_router}
use Rattle.net_base.specs.Prefixes.{PlainPrefix}
use Rattle.policy_base.specs.Policies.{PlainPolicy, PlainStatement}
use Rattle.policy_base.specs.Meaning.{at_first, at_last, front, rank_of}
use Rattle.policy_base.specs.Walks.{is_loop_free, is_walk}
use Rattle.policy_base.specs.Governing.{is_origin, is_origin_by, originated_at, statement_of}
use Rattle.policy_base.specs.Permitted.{ends_at_origin, from_holds, is_case_walk, is_permitted, IsClaimedRouter, IsClaimedSession}
use Rattle.config_base.specs.declared.route.Route.{Route}
use Rattle.config_base.specs.Configs.{PlainConfig}
use Rattle.outcome_base.specs.Outcomes.{Failures, Outcome, is_silent, survives, route_at, IsStable, offered}
use Rattle.outcome_base.specs.Right.{IsBest, IsGood, IsPassedOn, IsRightBy}
use Rattle.evidence_law.proofs.Hops.{begins, offer_parts}
use Rattle.impact_law.specs.Impacts.{begin_at}
use Rattle.compare_base.specs.Ranks.{IsAlike}
use Rattle.compare_law.proofs.Origins.{offered_same}
use Rattle.compare_law.proofs.Ranked.{is_some-rank_for, permitted_ranked, rank_for-permitted}

-- the same of the new policy and the old
pub alike_back : (net : PlainNet) (old new : PlainPolicy) (p : PlainPrefix) → IsAlike net old new p → IsAlike net new old p
alike_back net old new p alike = record {
  origins = λ l. sym (alike.origins l);
  permitted = λ path. sym (alike.permitted path);
  order = λ r peer u v a b c d router at_a at_b at_c at_d. (let both = alike.order r peer u v c d a b router at_c at_d at_a at_b in (both.1, both.0));
}

-- a permitted walk begins in the `from` set
permitted_from : (net : PlainNet) (policy : PlainPolicy) (p : PlainPrefix) (s : PlainStatement) (path : List ℕ) → is_permitted net policy p s path ≡ true → at_first (from_holds s.from) path ≡ true
permitted_from net policy p s path is =
    let first = and_parts (is_case_walk net policy p path && at_first (from_holds s.from) path) (is_some (rank_of net s.ranked path)) is in
    (and_parts (is_case_walk net policy p path) (at_first (from_holds s.from) path) first.0).1

-- a peer at which a permitted walk begins is no origin, so the prefix is originated
permitted_originated : (net : PlainNet) (policy : PlainPolicy) (p : PlainPrefix) (s : PlainStatement) (peer r : ℕ) (rest : List ℕ) → is_peer net peer ≡ true
    → is_permitted net policy p s (peer ∷ r ∷ rest) ≡ true → IsSome (originated_at policy.origins p)
permitted_originated net policy p s peer r rest at_peer is =
    let path = peer ∷ r ∷ rest in
    let first = and_parts (is_case_walk net policy p path && at_first (from_holds s.from) path) (is_some (rank_of net s.ranked path)) is in
    let walk = (and_parts (is_case_walk net policy p path) (at_first (from_holds s.from) path) first.0).0 in
    let ends = (and_parts (is_walk net path) (ends_at_origin (is_origin net policy p) path) walk).1 in
    let none = not-true _ (and_parts (at_last (is_origin net policy p) path) (not (list_any (is_origin net policy p) (front path))) ends).1 in
    let outside : is_origin net policy p peer ≡ false = (or_parts (is_origin net policy p peer) (list_any (is_origin net policy p) (front (r ∷ rest))) none).0 in
    elim (cases_Option (originated_at policy.origins p)) [
      | inl bare ↦ absurd (true≢false (sym at_peer ∙ ap (λ o. is_origin_by net o peer) (sym bare) ∙ outside))
      | inr at ↦ is_some_from (originated_at policy.origins p) at.0 at.1
    ]

module _ (net : PlainNet) (old new : PlainPolicy) (f : Failures) (p : PlainPrefix) (s t : PlainStatement) (alike : IsAlike net old new p)
    (at_old : statement_of old p ≡ Some s) (at_new : statement_of new p ≡ Some t) where
  permitted_same : (path : List ℕ) → is_permitted net old p s path ≡ is_permitted net new p t path
  permitted_same path = sym (is_some-rank_for net old p s path at_old) ∙ alike.permitted path ∙ is_some-rank_for net new p t path at_new

  good_there : (path : List ℕ) → IsGood net old f p s path → IsGood net new f p t path
  good_there path is = subst (λ b. IsTrue (b && is_loop_free path && survives net f path)) (permitted_same path) is

  good_here : (path : List ℕ) → IsGood net new f p t path → IsGood net old f p s path
  good_here path is = subst (λ b. IsTrue (b && is_loop_free path && survives net f path)) (sym (permitted_same path)) is

  good_permitted : (path : List ℕ) → IsGood net old f p s path → is_permitted net old p s path ≡ true
  good_permitted path is =
      (and_parts (is_permitted net old p s path) (is_loop_free path) (and_parts (is_permitted net old p s path && is_loop_free path) (survives net f path) is).0).0

  best_there : (r : ℕ) (peer : Option ℕ) (rest : List ℕ) → is_router net r ≡ true → IsGood net old f p s (begin_at r peer ++ rest)
      → IsBest net old f p s (begin_at r peer) (begin_at r peer ++ rest) → IsBest net new f p t (begin_at r peer) (begin_at r peer ++ rest)
  best_there r peer rest router is best =
      let path = begin_at r peer ++ rest in
      let here = good_permitted path is in
      let there : is_permitted net new p t path ≡ true = sym (permitted_same path) ∙ here in
      let n = is_some_parts (rank_of net t.ranked path) (permitted_ranked net new p t path there) in (
        n.0,
        n.1,
        λ more m other ranked.
            (let walk = begin_at r peer ++ more in
            let back = good_here walk other in
            let here_too = good_permitted walk back in
            let there_too : is_permitted net new p t walk ≡ true = sym (permitted_same walk) ∙ here_too in
            let k = is_some_parts (rank_of net s.ranked walk) (permitted_ranked net old p s walk here_too) in
            (alike.order r peer rest more best.0 k.0 n.0 m router
            (rank_for-permitted net old p s path at_old here ∙ best.1) (rank_for-permitted net old p s walk at_old here_too ∙ k.1)
            (rank_for-permitted net new p t path at_new there ∙ n.1) (rank_for-permitted net new p t walk at_new there_too ∙ ranked)).0
            (best.2 more k.0 back k.1)),
      )

  claimed_router : (r : ℕ) → IsClaimedRouter net new p t r → IsClaimedRouter net old p s r
  claimed_router r c =
      let walk : is_permitted net old p s (r ∷ c.starts.0) ≡ true = permitted_same (r ∷ c.starts.0) ∙ c.starts.1 in
      record {
        at_router = c.at_router;
        no_origin = subst (λ b. IsTrue (not b)) (sym (alike.origins r)) c.no_origin;
        from = permitted_from net old p s (r ∷ c.starts.0) walk;
        starts = (c.starts.0, walk);
      }

  claimed_session : (r peer : ℕ) → IsClaimedSession net new p t r peer → IsClaimedSession net old p s r peer
  claimed_session r peer c =
      let walk : is_permitted net old p s (peer ∷ r ∷ c.starts.0) ≡ true = permitted_same (peer ∷ r ∷ c.starts.0) ∙ c.starts.1 in
      record {
        at_router = c.at_router;
        at_peer = c.at_peer;
        originated = permitted_originated net old p s peer r c.starts.0 c.at_peer walk;
        from = permitted_from net old p s (peer ∷ r ∷ c.starts.0) walk;
        starts = (c.starts.0, walk);
      }

  module _ (config : PlainConfig) (outcome : Outcome) (rules : IsNet net) (stable : IsStable net old config f p outcome) (right : IsRightBy net old config f p s outcome) where
    offer : (r peer : ℕ) (path : List ℕ) → offered net new config f p outcome r peer ≡ Some path → offered net old config f p outcome r peer ≡ Some path
    offer r peer path is = offered_same net old new config f p outcome rules alike.origins r peer ∙ is

    other : (r : ℕ) → IsTrue (is_router net r && not (is_origin net new p r)) → IsTrue (is_router net r && not (is_origin net old p r))
    other r who = subst (λ o. IsTrue (is_router net r && not o)) (sym (alike.origins r)) who

    used_there : (r : ℕ) (h : Route) → IsClaimedRouter net new p t r → route_at outcome r ≡ Some h → IsGood net new f p t h.path × IsBest net new f p t (r ∷ []) h.path
    used_there r h claimed at =
        let x = right.used r h (claimed_router r claimed) at in
        let path = begins net old config f p outcome rules stable r h claimed.at_router at in (
          good_there h.path x.0,
          subst (IsBest net new f p t (r ∷ [])) (sym path.1)
              (best_there r None path.0 claimed.at_router (subst (IsGood net old f p s) path.1 x.0) (subst (IsBest net old f p s (r ∷ [])) path.1 x.1)),
        )

    session_there : (r peer : ℕ) (path : List ℕ) → IsClaimedSession net new p t r peer → offered net new config f p outcome r peer ≡ Some path → IsBest net new f p t (peer ∷ r ∷ []) path
    session_there r peer path claimed is =
        let here = offer r peer path is in
        let x = offer_parts net old config f p outcome rules r peer path here in
        let route = begins net old config f p outcome rules stable r x.route x.router x.held in
        let made : path ≡ peer ∷ r ∷ route.0 = x.is ∙ ap (λ (q : List ℕ). peer ∷ q) route.1 in
        subst (IsBest net new f p t (peer ∷ r ∷ [])) (sym made)
        (best_there r (Some peer) route.0 claimed.at_router (subst (IsGood net old f p s) made (right.offers r peer path here))
        (subst (IsBest net old f p s (peer ∷ r ∷ [])) made (right.sessions r peer path (claimed_session r peer claimed) here)))

    passed_there : (r : ℕ) (path : List ℕ) → IsPassedOn net old f p outcome r path → IsPassedOn net new f p outcome r path
    passed_there r path on = record {
      next = on.next;
      rest = on.rest;
      begins = on.begins;
      live = on.live;
      router = on.router;
      peer = λ at_peer. (let x = on.peer at_peer in (subst (λ o. IsTrue (o && not (is_silent f r on.next))) (alike.origins on.next) x.0, x.1));
    }

    pub right_there : IsRightBy net new config f p t outcome
    right_there = record {
      used = used_there;
      offers = λ r peer path is. good_there path (right.offers r peer path (offer r peer path is));
      sessions = session_there;
      unrouted = λ r claimed none rest is. right.unrouted r (claimed_router r claimed) none rest (good_here (r ∷ rest) is);
      unoffered = λ r peer claimed none rest is.
          right.unoffered r peer (claimed_session r peer claimed) (offered_same net old new config f p outcome rules alike.origins r peer ∙ none) rest (good_here (peer ∷ r ∷ rest) is);
      transit = λ r h who at. (let x = right.transit r h (other r who) at in (x.0, sym (permitted_same (x.0 ++ h.path)) ∙ x.1));
      packets = λ r h who at. passed_there r h.path (right.packets r h (other r who) at);
    }
