-- What routers hold and peers hear is allowed after every list of events.
use Rattle.std.proofs.Common.{◌≡◌, ℕ, zero, suc, Bool, true, false, List, [], ◌∷◌, ◌++◌, Option, Some, None, refl, sym, ap, ◌∙◌, inl, inr, subst}
use Rattle.std.specs.Prelude.{is_some, slice_get}
use Rattle.std.proofs.lemmas.Bool.{and_from, and_parts, not-true, true≢false}
use Rattle.net_base.specs.Network.{PlainNet, IsNet, is_peer, is_router}
use Rattle.net_base.specs.Sets.{holds}
use Rattle.net_base.specs.Prefixes.{PlainPrefix, IsPrefix}
use Rattle.policy_base.specs.Policies.{PlainPolicy, PlainStatement, IsPolicyOf}
use Rattle.policy_base.specs.Governing.{is_origin, statement_of}
use Rattle.policy_base.specs.Permitted.{is_permitted, is_allowed, IsClaimedRouter}
use Rattle.policy_base.specs.Walks.{is_loop_free}
use Rattle.graph_base.specs.Runs.{run}
use Rattle.config_base.specs.Configs.{PlainConfig}
use Rattle.config_base.specs.Lines.{class_of}
use Rattle.evidence_base.specs.Made.{PlainCaseEvidence}
use Rattle.outcome_base.specs.Outcomes.{Failures, no_failures}
use Rattle.list_law.proofs.Options.{none_from}
use Rattle.evidence_law.specs.Passes.{Passes}
use Rattle.evidence_law.proofs.CaseOrigins.{prefix_permits}
use Rattle.evidence_law.proofs.ClaimedPaths.{claimed_permits}
use Rattle.evidence_law.proofs.MadeCases.{has_no_class}
use Rattle.evidence_law.proofs.RunWalks.{runs_are_walks}
use Rattle.event_base.specs.declared.event.Event.{Event}
use Rattle.event_law.specs.Kinds.{Each}
use Rattle.settled_law.proofs.SettledLaw.{CaseFound, case_or_bare}
use Rattle.event_law.specs.Laws.{world_after}
use Rattle.event_law.specs.Waiting.{HasRun, IsOnItsWay}
use Rattle.event_law.proofs.Waiting.{held_and_waiting_routes_run, origins_alone_hold_routes}
use Rattle.event_law.specs.Moments.{IsAllowedNow, IsBareNow, IsRightNow, EveryMomentIsRight}

-- a route among messages that are each of a kind is of that kind
pub each_at : {R : Type 0} (P : R → Type 0) (ms : List (Option R)) (i : ℕ) (y : R) → Each P ms → slice_get ms i ≡ Some (Some y) → P y
each_at P [] i y all at = absurd cc
each_at P (m ∷ ms) zero y all at = (let same : m ≡ Some y = cc in all.0 y same)
each_at P (m ∷ ms) (suc i) y all at = each_at P ms i y all.1 at

module _ (net : PlainNet) (policy : PlainPolicy) (config : PlainConfig) (cs : List PlainCaseEvidence) (rules : IsNet net)
    (kept : IsPolicyOf net policy) (passes : Passes net policy config cs) (f : Failures) (p : PlainPrefix)
    (c : CaseFound net policy config cs rules kept passes f p) where
  abbrev Origin : ℕ → Bool
  Origin = holds c.d.case.origins

  pub claimed_allowed : (r n : ℕ) (path : List ℕ) → IsClaimedRouter net policy p c.s r → HasRun c.d r path n → is_allowed net policy p c.s path ≡ true
  claimed_allowed r n path claimed x =
      let permitted = claimed_permits net policy p c.s c.d c.same rules c.on r n x.rest claimed (ap (run c.d.graph) (sym x.begins) ∙ x.runs) in
      let there : is_permitted net policy p c.s path ≡ true =
      subst (λ (q : List ℕ). is_permitted net policy p c.s q ≡ true) (sym x.begins)
      (prefix_permits net policy p c.s c.same (r ∷ x.rest) permitted) in
      and_from (is_permitted net policy p c.s path) (is_loop_free path) there x.free

  -- a path with a run ends a permitted walk
  pub run_ends : (r n : ℕ) (path : List ℕ) → HasRun c.d r path n → (above : List ℕ) × (is_permitted net policy p c.s (above ++ path) ≡ true)
  run_ends r n path x =
      let walk = runs_are_walks net Origin c.d.case.external c.d.graph c.on.graph c.on.faithful.formed path n x.runs in
      let above = c.on.faithful.has_no_other path walk (ap is_some x.runs) in
      (above.0, prefix_permits net policy p c.s c.same (above.0 ++ path) above.1)

  case_now : IsPrefix p → (es : List Event) → IsAllowedNow net policy config p c.s (world_after net policy config p es)
  case_now prefix es =
      let all = held_and_waiting_routes_run net policy config cs rules kept passes p c.s c.k c.d prefix c.governs c.of_class c.at es in
      record {
        own = λ r h own at. (all.route r h at).own own;
        claimed = λ r h claimed at.
            let x = (all.route r h at).other (not-true _ claimed.no_origin) in
            claimed_allowed r x.0 h.path claimed x.1;
        transit = λ r h other at.
            let x = (all.route r h at).other (not-true _ other) in
            run_ends r x.0 h.path x.1;
        heard = λ r peer m who at. (all.heard r peer m at).allowed who;
        waiting = λ r peer i m who at. (each_at (IsOnItsWay net policy p c.s c.d r peer) ((world_after net policy config p es).queue r peer) i m (all.queue r peer) at).allowed who;
      }

module _ (net : PlainNet) (policy : PlainPolicy) (config : PlainConfig) (p : PlainPrefix) (free : class_of config p ≡ None) (es : List Event) where
  bare_now : IsBareNow net policy config p (world_after net policy config p es)
  bare_now =
      let all = origins_alone_hold_routes net policy config p free es in
      record {
        routes = λ r h at. all.route r h at;
        heard = λ r x router. none_from ((world_after net policy config p es).heard r x) (λ m at. true≢false (sym router ∙ (all.heard r x m at).0));
        waiting =
            λ r x i m router at. true≢false
            (sym router ∙ (each_at (λ m. (is_router net r ≡ false) × (is_origin net policy p r ≡ true)) ((world_after net policy config p es).queue r x) i m (all.queue r x) at).0);
      }

  -- without a class nobody but an origin has anything
  empty_now : (s : PlainStatement) → IsAllowedNow net policy config p s (world_after net policy config p es)
  empty_now s =
      let all = origins_alone_hold_routes net policy config p free es in
      record {
        own = λ r h own at. (all.route r h at).1;
        claimed = λ r h claimed at. absurd (true≢false (sym (all.route r h at).0 ∙ not-true _ claimed.no_origin));
        transit = λ r h other at. absurd (true≢false (sym (all.route r h at).0 ∙ not-true _ other));
        heard = λ r peer m who at. absurd (true≢false (sym (and_parts (is_router net r) (is_peer net peer) who).0 ∙ (all.heard r peer m at).0));
        waiting = λ r peer i m who at. absurd (true≢false (sym (and_parts (is_router net r) (is_peer net peer) who).0
            ∙ (each_at (λ m. (is_router net r ≡ false) × (is_origin net policy p r ≡ true)) ((world_after net policy config p es).queue r peer) i m (all.queue r peer) at).0));
      }

module _ (net : PlainNet) (policy : PlainPolicy) (config : PlainConfig) (cs : List PlainCaseEvidence) (rules : IsNet net)
    (kept : IsPolicyOf net policy) (passes : Passes net policy config cs) (p : PlainPrefix) (prefix : IsPrefix p) (es : List Event) where
  governed_now : (s : PlainStatement) → statement_of policy p ≡ Some s → IsAllowedNow net policy config p s (world_after net policy config p es)
  governed_now s governs = elim (case_or_bare net policy config cs rules kept passes no_failures p prefix) [
    | inr free ↦ empty_now net policy config p free es s
    | inl c ↦
        let found : Some c.s ≡ Some s = sym c.governs ∙ governs in
        let same : c.s ≡ s = cc in
        subst (λ (z : PlainStatement). IsAllowedNow net policy config p z (world_after net policy config p es)) same (case_now net policy config cs rules kept passes no_failures p c prefix es)
  ]

  pub right_now : IsRightNow net policy config p (world_after net policy config p es)
  right_now = go (statement_of policy p) refl
    where
      go : (o : Option PlainStatement) → statement_of policy p ≡ o → IsRightNow net policy config p (world_after net policy config p es)
      go None is = rw is (bare_now net policy config p (has_no_class net policy config cs rules kept passes.made p prefix is) es)
      go (Some s) is = rw is (governed_now s is)

pub every_moment_is_right : EveryMomentIsRight
every_moment_is_right net policy config cs rules kept passes p prefix es = right_now net policy config cs rules kept passes p prefix es
