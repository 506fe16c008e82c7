-- Where no other router's route goes over a cut, the same routes but those of a cut router settle where it comes besides.
use Rattle.std.proofs.Common.{◌≡◌, ℕ, true, false, List, ◌∷◌, length, Option, Some, None, refl, sym, ap, ◌∙◌, inl, inr, subst, arith}
use Rattle.std.specs.Prelude.{◌&&◌, ◌||◌, not, if◌then◌else◌}
use Rattle.std.specs.Option.{option_and_then}
use Rattle.std.proofs.lemmas.Bool.{and_from, and_parts, cases_Bool, cond-false, cond-true, ltb-false, not-true, not_from_false, or_parts}
use Rattle.std.proofs.lemmas.Option.{slice_get_past}
use Rattle.net_base.specs.Network.{PlainNet, IsNet, is_router}
use Rattle.net_base.specs.Prefixes.{PlainPrefix}
use Rattle.policy_base.specs.Policies.{PlainPolicy}
use Rattle.policy_base.specs.Governing.{is_origin}
use Rattle.config_base.specs.declared.route.Route.{Route}
use Rattle.config_base.specs.Configs.{PlainConfig}
use Rattle.outcome_base.specs.Outcomes.{Failures, Outcome, is_dead, is_live, given, route_at, sent}
use Rattle.evidence_law.proofs.Existence.{held, held_none, outcome-size, outcome_of, unheld}
use Rattle.evidence_law.proofs.Hops.{comes_begins, given_parts}
use Rattle.settled_law.specs.Settled.{IsFullyStable}
use Rattle.impact_law.specs.Cuts.{is_cut, with_cut}
use Rattle.impact_law.specs.declared.impact.Cut.{Cut}
use Rattle.impact_law.specs.declared.impact.Cut.TheVariants.{Link, Router}
use Rattle.drain_report.specs.Uses.{IsOffRoutes, goes_over}
use Rattle.drain_report.proofs.Cutting.{cuts_flip, cuts_off, dead_with, live_from, live_parts, spares_ends, step_off}

-- ---- what is sent and given

-- a cut changes what a neighbour sends by its route alone
pub same_sent : (net : PlainNet) (policy : PlainPolicy) (config : PlainConfig) (cut : Cut) (f : Failures) (p : PlainPrefix) (a b : Outcome) (z r : ℕ) → route_at a z ≡ route_at b z
    → sent net policy config (with_cut cut f) p a z r ≡ sent net policy config f p b z r
same_sent net policy config (Link x y) f p a b z r e = rw e refl
same_sent net policy config (Router x) f p a b z r e = rw e refl

same_given : (net : PlainNet) (policy : PlainPolicy) (config : PlainConfig) (f g : Failures) (p : PlainPrefix) (a b : Outcome) (z r : ℕ) → is_live net g z r ≡ true → is_live net f z r ≡ true
    → sent net policy config g p a z r ≡ sent net policy config f p b z r → given net policy config g p a z r ≡ given net policy config f p b z r
same_given net policy config f g p a b z r one other same = rw (same, one, other) refl

-- nobody but a router holds a route
pub none_outside : (net : PlainNet) (outcome : Outcome) (r : ℕ) → length outcome ≡ length net.routers → is_router net r ≡ false → route_at outcome r ≡ None
none_outside net outcome r size other = ap (option_and_then (λ (o : Option Route). o)) (slice_get_past outcome r (omega (arith, ltb-false _ _ other, size)))

module _ (net : PlainNet) (policy : PlainPolicy) (config : PlainConfig) (f : Failures) (p : PlainPrefix) (rules : IsNet net) (cut : Cut) (before : Outcome)
    (size : length before ≡ length net.routers) (settled : IsFullyStable net policy config f p before) where
  abbrev g : Failures
  g = with_cut cut f

  abbrev left : ℕ → Option Route
  left r = if is_cut cut r then None else route_at before r

  -- what is left of the outcome: a cut router has no route
  abbrev pub after : Outcome
  after = outcome_of net left

  pub after-size : length after ≡ length net.routers
  after-size = outcome-size net left

  cut_holds : (r : ℕ) → is_cut cut r ≡ true → route_at after r ≡ None
  cut_holds r at = held_none net left r (λ _. cond-true (is_cut cut r) None (route_at before r) at)

  pub others_hold : (r : ℕ) → is_cut cut r ≡ false → route_at after r ≡ route_at before r
  others_hold r off = elim (cases_Bool (is_router net r)) [
    | inl router ↦ held net left r router ∙ cond-false (is_cut cut r) None (route_at before r) off
    | inr other ↦ unheld net left r other ∙ sym (none_outside net before r size other)
  ]

  -- what is given over what the cut spares is what was given
  spared : (z r : ℕ) → is_live net f z r ≡ true → cuts_off cut z r ≡ false → given net policy config g p after z r ≡ given net policy config f p before z r
  spared z r live off =
      same_given net policy config f g p after before z r (live_from net cut f z r live off) live
      (same_sent net policy config cut f p after before z r (others_hold z (spares_ends cut z r off).0))

  -- no more is given than was given
  up : (z r : ℕ) (h : Route) → given net policy config g p after z r ≡ Some h → given net policy config f p before z r ≡ Some h
  up z r h by =
      let live = live_parts net cut f z r (given_parts net policy config g p after rules z r h by).live in
      sym (spared z r live.0 live.1) ∙ by

  module _ (off : IsOffRoutes net before cut) where
    -- and each route that is held is given as it was
    down : (z r : ℕ) (h : Route) → is_router net r ≡ true → is_cut cut r ≡ false → route_at before r ≡ Some h
        → given net policy config f p before z r ≡ Some h → given net policy config g p after z r ≡ Some h
    down z r h router other at by =
        let x = given_parts net policy config f p before rules z r h by in
        let y = comes_begins net policy config f p before rules settled.stable z r x.path x.comes in
        let begins : h.path ≡ r ∷ z ∷ y.0 = x.begins ∙ ap (λ (q : List ℕ). r ∷ q) y.1 in
        let clear = off r h (and_from (is_router net r) (not (is_cut cut r)) router (not_from_false _ other)) at in
        let apart = step_off cut r z y.0 (subst (λ (q : List ℕ). goes_over cut q ≡ false) begins clear) in
        spared z r x.live (cuts_flip cut z r ∙ apart) ∙ by

    -- who lives still isn't cut, and lived
    lives : (r : ℕ) → not (is_dead g r) ≡ true → (is_cut cut r ≡ false) × (not (is_dead f r) ≡ true)
    lives r h =
        let parts = or_parts (is_cut cut r) (is_dead f r) (sym (dead_with cut f r) ∙ not-true _ h) in
        (parts.0, not_from_false _ parts.1)

    abbrev IsChooser : Failures → ℕ → Type 0
    IsChooser e r = (is_router net r && not (is_origin net policy p r) && not (is_dead e r)) ≡ true

    was_chooser : (r : ℕ) → IsChooser g r → (is_router net r ≡ true) × (is_cut cut r ≡ false) × IsChooser f r
    was_chooser r who =
        let parts = and_parts (is_router net r && not (is_origin net policy p r)) (not (is_dead g r)) who in
        let alive = lives r parts.1 in
        ((and_parts (is_router net r) (not (is_origin net policy p r)) parts.0).0, alive.0, and_from (is_router net r && not (is_origin net policy p r)) (not (is_dead f r)) parts.0 alive.1)

    pub still_settled : IsFullyStable net policy config g p after
    still_settled = record {
      stable =
          record {
            dead = λ r dead. elim (cases_Bool (is_cut cut r)) [
              | inl at ↦ cut_holds r at
              | inr other ↦ others_hold r other ∙ settled.stable.dead r (ap (λ b. b || is_dead f r) (sym other) ∙ sym (dead_with cut f r) ∙ dead)
            ];
            own = λ r who.
                let parts = and_parts (is_router net r && is_origin net policy p r) (not (is_dead g r)) who in
                let alive = lives r parts.1 in
                others_hold r alive.0 ∙ settled.stable.own r (and_from (is_router net r && is_origin net policy p r) (not (is_dead f r)) parts.0 alive.1);
            chooses = λ r who.
                let was = was_chooser r who in
                let chose = settled.stable.chooses r was.2 in
                record {
                  given_by = λ h at.
                      let held = sym (others_hold r was.1) ∙ at in
                      let by = chose.given_by h held in
                      (by.0, down by.0 r h was.0 was.1 held by.1);
                  best = λ z k by. (let x = chose.best z k (up z r k by) in (x.0, others_hold r was.1 ∙ x.1, x.2));
                };
          };
      first = λ r z h k who at by. (let was = was_chooser r who in settled.first r z h k was.2 (sym (others_hold r was.1) ∙ at) (up z r k by));
    }
