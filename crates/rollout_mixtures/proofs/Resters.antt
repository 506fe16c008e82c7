-- Who rests in a world: who isn't a router that is up, and origins with their own routes.
use Rattle.std.proofs.Common.{◌≡◌, ℕ, true, false, not, Option, Some, None, refl, ap, ◌∙◌, inl, inr}
use Rattle.std.specs.Prelude.{is_some}
use Rattle.std.proofs.lemmas.Bool.{and_from, and_left, and_parts, and_right, both_ways, cond-false, cond-true, not-false, not-true, not_from_false, not_from_true, or_from, or_left, or_parts, or_right, true_from_ne_false}
use Rattle.list_law.proofs.Options.{cases_Option, none_or_some, when_parts}
use Rattle.net_base.specs.Network.{PlainNet, is_router}
use Rattle.net_base.specs.Prefixes.{PlainPrefix}
use Rattle.policy_base.specs.Policies.{PlainPolicy}
use Rattle.policy_base.specs.Governing.{is_origin}
use Rattle.config_base.specs.declared.route.Route.{Route}
use Rattle.config_base.specs.Configs.{PlainConfig}
use Rattle.config_base.specs.Lines.{own_route}
use Rattle.event_base.specs.Speaking.{chosen_by, speakers_of}
use Rattle.event_base.specs.World.{Speakers, World, running}
use Rattle.rest_law.specs.Orders.{at_rest, rests}
use Rattle.rest_law.proofs.Choosers.{chosen_own, chosen_parts, no_origin, untaken}

no_more : (o : Option Route) → is_some o ≡ false → o ≡ None
no_more None h = refl
no_more (Some y) h = absurd (cc)

module _ (net : PlainNet) (policy : PlainPolicy) (config : PlainConfig) (p : PlainPrefix) (w : World Route) (r : ℕ) where
  abbrev X : Speakers Route
  X = speakers_of net policy config p

  abbrev own : Option Route
  own = chosen_by net policy config p r (λ u. None)

  choose_none : is_origin net policy p r ≡ false → own ≡ None
  choose_none other = elim (cases_Option own) [
    | inl none ↦ none
    | inr h ↦ (let a = chosen_parts net policy config p r (λ u. None) h.0 other h.1 in absurd (none_or_some _ h.0 (untaken net policy config p r a.0) a.1))
  ]

  pub chooser_parts : rests X w r ≡ false → (is_router net r ≡ true) × (w.down r ≡ false) × (is_origin net policy p r ≡ false)
  chooser_parts h =
      let a = or_parts (not (running X w r)) (is_some own) h in
      let b = and_parts (is_router net r) (not (w.down r)) (not-false (running X w r) a.0) in
      (b.0, not-true (w.down r) b.1, no_origin net policy config p r (no_more own a.1))

  runs : is_router net r ≡ true → w.down r ≡ false → running X w r ≡ true
  runs router up = and_from (is_router net r) (not (w.down r)) router (not_from_false (w.down r) up)

  pub is_chooser : is_router net r ≡ true → w.down r ≡ false → is_origin net policy p r ≡ false → rests X w r ≡ false
  is_chooser router up other = or_from (not (running X w r)) (is_some own) (not_from_true (running X w r) (runs router up)) (ap is_some (choose_none other))

  pub own_rests : is_origin net policy p r ≡ true → rests X w r ≡ true
  own_rests origin = or_right (not (running X w r)) (is_some own) (ap is_some (chosen_own net policy config p r (λ u. None) origin))

  pub own_at_rest : is_router net r ≡ true → w.down r ≡ false → is_origin net policy p r ≡ true → at_rest X w r ≡ Some (own_route net config p r)
  own_at_rest router up origin = cond-true (running X w r) own None (runs router up) ∙ chosen_own net policy config p r (λ u. None) origin

  pub rester_origin : rests X w r ≡ true → is_router net r ≡ true → w.down r ≡ false → is_origin net policy p r ≡ true
  rester_origin t router up = true_from_ne_false (is_origin net policy p r) (λ other. both_ways (rests X w r) (is_chooser router up other) t)

  pub peer_rests : is_router net r ≡ false → rests X w r ≡ true
  peer_rests off = or_left (not (running X w r)) (is_some own) (ap not (and_left (is_router net r) (not (w.down r)) off))

  pub dead_rests : w.down r ≡ true → rests X w r ≡ true
  dead_rests down = or_left (not (running X w r)) (is_some own) (ap not (and_right (is_router net r) (not (w.down r)) (not_from_true (w.down r) down)))

  -- what is down is at rest without a route
  pub down_at_rest : w.down r ≡ true → at_rest X w r ≡ None
  down_at_rest down = cond-false (running X w r) own None (and_right (is_router net r) (not (w.down r)) (not_from_true (w.down r) down))

  pub at_rest_up : (y : Route) → at_rest X w r ≡ Some y → (is_router net r ≡ true) × (w.down r ≡ false)
  at_rest_up y e =
      let b = and_parts (is_router net r) (not (w.down r)) (when_parts (running X w r) own y e).0 in
      (b.0, not-true (w.down r) b.1)
