-- A prefix that no statement governs, beside one whose statement permits nothing.
use Rattle.std.proofs.Common.{◌≡◌, ℕ, true, IsTrue, List, ◌∷◌, ◌++◌, Some, None, sym, ◌∙◌, subst, inl, inr}
use Rattle.std.specs.Prelude.{◌&&◌, not}
use Rattle.std.proofs.lemmas.Bool.{and_from, and_parts, cases_Bool, not_from_false, not-true, true≢false}
use Rattle.list_law.proofs.Options.{cases_Option, none_or_some}
use Rattle.net_base.specs.Network.{PlainNet, IsNet, is_router}
use Rattle.net_base.specs.Prefixes.{PlainPrefix}
use Rattle.policy_base.specs.Policies.{PlainPolicy, PlainStatement}
use Rattle.policy_base.specs.Walks.{is_loop_free}
use Rattle.policy_base.specs.Governing.{is_origin, statement_of}
use Rattle.policy_base.specs.Permitted.{is_permitted}
use Rattle.config_base.specs.declared.route.Route.{Route}
use Rattle.config_base.specs.Configs.{PlainConfig}
use Rattle.outcome_base.specs.Outcomes.{Failures, Outcome, is_dead, survives, route_at, IsStable, offered}
use Rattle.outcome_base.specs.Right.{IsBare, IsGood, IsRightBy}
use Rattle.evidence_law.proofs.Hops.{lives}
use Rattle.compare_base.specs.Ranks.{IsAlike}
use Rattle.compare_law.proofs.Origins.{offered_same}
use Rattle.compare_law.proofs.Ranked.{is_some-rank_for, is_some-rank_for-none}

module _ (net : PlainNet) (old new : PlainPolicy) (config : PlainConfig) (f : Failures) (p : PlainPrefix) (outcome : Outcome) (rules : IsNet net) (alike : IsAlike net old new p) where
  -- both are bare
  pub bare_there : IsBare net old config f p outcome → IsBare net new config f p outcome
  bare_there bare = record {
    routes = λ r h at. subst (λ o. IsTrue (o && not (is_dead f r))) (alike.origins r) (bare.routes r h at);
    offers = λ r peer. sym (offered_same net old new config f p outcome rules alike.origins r peer) ∙ bare.offers r peer;
  }

  -- the new policy alone has a statement
  module _ (t : PlainStatement) (at_old : statement_of old p ≡ None) (at_new : statement_of new p ≡ Some t) (bare : IsBare net old config f p outcome) where
    never : (path : List ℕ) → is_permitted net new p t path ≡ true → ⊥
    never path is = true≢false (sym is ∙ sym (is_some-rank_for net new p t path at_new) ∙ sym (alike.permitted path) ∙ is_some-rank_for-none net old p path at_old)

    unoffered : (r peer : ℕ) (path : List ℕ) → offered net new config f p outcome r peer ≡ Some path → ⊥
    unoffered r peer path is =
        none_or_some (offered net new config f p outcome r peer) path (sym (offered_same net old new config f p outcome rules alike.origins r peer) ∙ bare.offers r peer) is

    unrouted : (r : ℕ) (h : Route) → IsTrue (is_router net r && not (is_origin net new p r)) → route_at outcome r ≡ Some h → ⊥
    unrouted r h who at =
        let other = not-true _ (and_parts (is_router net r) (not (is_origin net new p r)) who).1 in
        let own = (and_parts (is_origin net old p r) (not (is_dead f r)) (bare.routes r h at)).0 in
        true≢false (sym own ∙ alike.origins r ∙ other)

    pub right_of_bare : IsRightBy net new config f p t outcome
    right_of_bare = record {
      used = λ r h claimed at. absurd (never (r ∷ claimed.starts.0) claimed.starts.1);
      offers = λ r peer path is. absurd (unoffered r peer path is);
      sessions = λ r peer path claimed is. absurd (unoffered r peer path is);
      unrouted = λ r claimed none rest is. never (r ∷ claimed.starts.0) claimed.starts.1;
      unoffered = λ r peer claimed none rest is. never (peer ∷ r ∷ claimed.starts.0) claimed.starts.1;
      transit = λ r h who at. absurd (unrouted r h who at);
      packets = λ r h who at. absurd (unrouted r h who at);
    }

  -- the old policy alone has one
  module _ (s : PlainStatement) (at_old : statement_of old p ≡ Some s) (at_new : statement_of new p ≡ None) (stable : IsStable net old config f p outcome)
      (right : IsRightBy net old config f p s outcome) where
    never_here : (path : List ℕ) → is_permitted net old p s path ≡ true → ⊥
    never_here path is = true≢false (sym is ∙ sym (is_some-rank_for net old p s path at_old) ∙ alike.permitted path ∙ is_some-rank_for-none net new p path at_new)

    good_never : (path : List ℕ) → IsGood net old f p s path → ⊥
    good_never path is =
        never_here path (and_parts (is_permitted net old p s path) (is_loop_free path) (and_parts (is_permitted net old p s path && is_loop_free path) (survives net f path) is).0).0

    only_origins : (r : ℕ) (h : Route) → is_router net r ≡ true → route_at outcome r ≡ Some h → is_origin net old p r ≡ true
    only_origins r h router at = elim (cases_Bool (is_origin net old p r)) [
      | inl own ↦ own
      | inr other ↦ (let x = right.transit r h (and_from (is_router net r) (not (is_origin net old p r)) router (not_from_false _ other)) at in absurd (never_here (x.0 ++ h.path) x.1))
    ]

    nothing_offered : (r peer : ℕ) → offered net old config f p outcome r peer ≡ None
    nothing_offered r peer = elim (cases_Option (offered net old config f p outcome r peer)) [
      | inl none ↦ none
      | inr path ↦ absurd (good_never path.0 (right.offers r peer path.0 path.1))
    ]

    pub bare_of_right : ((r : ℕ) (h : Route) → route_at outcome r ≡ Some h → is_router net r ≡ true) → IsBare net new config f p outcome
    bare_of_right routers = record {
      routes = λ r h at.
          and_from (is_origin net new p r) (not (is_dead f r)) (sym (alike.origins r) ∙ only_origins r h (routers r h at) at)
          (not_from_false _ (lives net old config f p outcome rules stable r h at));
      offers = λ r peer. sym (offered_same net old new config f p outcome rules alike.origins r peer) ∙ nothing_offered r peer;
    }
