-- A cut moves the routes that go over it, and no others.
use Rattle.std.proofs.Common.{◌≡◌, ℕ, true, false, List, length, Some, sym, ap, ◌∙◌, inl, inr, subst}
use Rattle.std.specs.Prelude.{◌&&◌, not}
use Rattle.std.proofs.lemmas.Bool.{and_from, and_parts, cases_Bool, not-true, not_from_false, true≢false}
use Rattle.list_law.proofs.Options.{none_or_some}
use Rattle.net_base.specs.Network.{PlainNet, IsNet, is_router}
use Rattle.net_base.specs.Prefixes.{PlainPrefix, IsPrefix}
use Rattle.policy_base.specs.Policies.{PlainPolicy, IsPolicyOf}
use Rattle.policy_base.specs.Governing.{is_origin}
use Rattle.config_base.specs.declared.route.Route.{Route}
use Rattle.config_base.specs.Configs.{PlainConfig}
use Rattle.evidence_base.specs.Made.{PlainCaseEvidence}
use Rattle.evidence_law.specs.Passes.{Passes}
use Rattle.evidence_law.proofs.Heard.{no_gift}
use Rattle.evidence_law.proofs.Hops.{lives, own_path}
use Rattle.outcome_base.specs.Outcomes.{Failures, Outcome, ends_heard, given, is_dead, passes_live, route_at}
use Rattle.settled_law.specs.Settled.{IsFullyStable}
use Rattle.settled_law.proofs.Greatest.{numbers_are_greatest}
use Rattle.settled_law.proofs.SettledLaw.{case_or_bare, settled_outcomes_are_one}
use Rattle.impact_law.specs.Cuts.{is_cut, with_cut}
use Rattle.impact_law.specs.declared.impact.Cut.{Cut}
use Rattle.drain_report.specs.Laws.{CutsOffRoutesMoveNothing, CutsOnARouteMoveIt}
use Rattle.drain_report.specs.Uses.{IsOffRoutes, goes_over}
use Rattle.drain_report.proofs.Cutting.{alone_off, surviving_off}
use Rattle.drain_report.proofs.Keeping.{after as left, after-size, others_hold, still_settled}

module _ (net : PlainNet) (policy : PlainPolicy) (config : PlainConfig) (cs : List PlainCaseEvidence) (rules : IsNet net) (fits : IsPolicyOf net policy) (passes : Passes net policy config cs)
    (p : PlainPrefix) (f : Failures) (cut : Cut) (prefix : IsPrefix p) where
  -- ---- nothing goes over the cut

  module _ (before after : Outcome) (size : length before ≡ length net.routers) (settled : IsFullyStable net policy config f p before) (off : IsOffRoutes net before cut)
      (after_size : length after ≡ length net.routers) (resettled : IsFullyStable net policy config (with_cut cut f) p after) where
    pub settles_left : after ≡ left net policy config f p rules cut before size settled
    settles_left =
        settled_outcomes_are_one net policy config cs rules fits passes p (with_cut cut f) prefix after (left net policy config f p rules cut before size settled) after_size
        (after-size net policy config f p rules cut before size settled) resettled (still_settled net policy config f p rules cut before size settled off)

    pub keeps : (r : ℕ) → is_cut cut r ≡ false → route_at after r ≡ route_at before r
    keeps r other = ap (λ (o : Outcome). route_at o r) settles_left ∙ others_hold net policy config f p rules cut before size settled r other

  -- ---- a route goes over it

  -- in what settles where the cut comes besides no other router's route goes over it
  module _ (after : Outcome) (settled : IsFullyStable net policy config (with_cut cut f) p after) where
    chosen_off : (r : ℕ) (h : Route) → is_router net r ≡ true → is_origin net policy p r ≡ false → route_at after r ≡ Some h → goes_over cut h.path ≡ false
    chosen_off r h router other at = elim (case_or_bare net policy config cs rules fits passes (with_cut cut f) p prefix) [
      | inl c ↦
          let greatest = numbers_are_greatest net policy config cs rules fits passes p (with_cut cut f) after c.k c.d prefix settled.stable c.of_class c.at in
          let own = greatest.own r h (and_from (is_router net r) (not (is_origin net policy p r)) router (not_from_false _ other)) at in
          surviving_off cut f h.path (and_parts (passes_live (with_cut cut f) h.path) (ends_heard net (with_cut cut f) h.path) own.2).0
      | inr free ↦
          let chooses = and_from (is_router net r) (not (is_origin net policy p r)) router (not_from_false _ other) in
          let alive = not_from_false _ (lives net policy config (with_cut cut f) p after rules settled.stable r h at) in
          let by = (settled.stable.chooses r (and_from (is_router net r && not (is_origin net policy p r)) (not (is_dead (with_cut cut f) r)) chooses alive)).given_by h at in
          absurd (none_or_some (given net policy config (with_cut cut f) p after by.0 r) h (no_gift net policy config (with_cut cut f) p after free by.0 r) by.1)
    ]

    pub held_off : (r : ℕ) (h : Route) → is_router net r ≡ true → is_cut cut r ≡ false → route_at after r ≡ Some h → goes_over cut h.path ≡ false
    held_off r h router off at = elim (cases_Bool (is_origin net policy p r)) [
      | inl own ↦
          subst (λ (q : List ℕ). goes_over cut q ≡ false) (sym (own_path net policy config (with_cut cut f) p after rules settled.stable r h router own at)) (alone_off cut r off)
      | inr other ↦ chosen_off r h router other at
    ]

pub cuts_off_routes_move_nothing : CutsOffRoutesMoveNothing
cuts_off_routes_move_nothing net policy config cs rules fits passes p f cut before after prefix size after_size settled resettled off = λ r other.
    keeps net policy config cs rules fits passes p f cut prefix before after size settled off after_size resettled r (not-true _ (and_parts (is_router net r) (not (is_cut cut r)) other).1)

pub cuts_on_a_route_move_it : CutsOnARouteMoveIt
cuts_on_a_route_move_it net policy config cs rules fits passes p f cut before after prefix settled resettled r h other at over = λ same.
    let who = and_parts (is_router net r) (not (is_cut cut r)) other in
    true≢false (sym over ∙ held_off net policy config cs rules fits passes p f cut prefix after resettled r h who.0 (not-true _ who.1) (same ∙ at))
