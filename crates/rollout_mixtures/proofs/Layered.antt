-- Where no message waits, a mixture holds two layers.
use Rattle.std.proofs.Common.{◌≡◌, ℕ, Bool, true, false, ◌||◌, List, [], ◌∷◌, Option, Some, None, sym, ap, ◌∙◌, inl, inr}
use Rattle.std.specs.Option.{option_or}
use Rattle.std.proofs.lemmas.Bool.{both_ways, cases_Bool, or_left}
use Rattle.list_law.proofs.Options.{cases_Option, none_or_some}
use Rattle.net_base.specs.declared.numbers.Tag.{Tag}
use Rattle.net_base.specs.Network.{IsNet, is_router}
use Rattle.net_base.specs.Prefixes.{IsPrefix}
use Rattle.policy_base.specs.Policies.{IsPolicyOf}
use Rattle.config_base.specs.declared.route.Route.{Route}
use Rattle.evidence_base.specs.Made.{PlainCaseEvidence}
use Rattle.outcome_base.specs.Outcomes.{Failures, route_at}
use Rattle.evidence_law.specs.Passes.{Passes}
use Rattle.evidence_law.proofs.RightLaw.{passing_evidence_is_right}
use Rattle.event_base.specs.Steps.{IsQuiet}
use Rattle.event_base.specs.World.{World}
use Rattle.event_law.specs.Kept.{IsKept}
use Rattle.event_law.specs.Kinds.{AreKinds}
use Rattle.event_law.specs.Scenarios.{IsScenarioOf, scenario_of}
use Rattle.rest_law.specs.Laws.{each_round}
use Rattle.rest_law.specs.Orders.{at_rest, rests}
use Rattle.rest_law.specs.Rest.{rounds_enough}
use Rattle.rest_law.specs.Ways.{each_way}
use Rattle.rest_law.proofs.Present.{quiet_stays, rounds_go_on}
use Rattle.rest_law.proofs.Trails.{IsHolding, IsSaying}
use Rattle.rollout_base.specs.Mixtures.{after, begins, mixed}
use Rattle.rollout_rest.proofs.Rest.{holds_trails, keeps}
use Rattle.rollout_mixtures.specs.Layered.{AreLayers, FailBesides, RestingMixturesAreLayered}
use Rattle.rollout_mixtures.proofs.Resters.{dead_rests, down_at_rest, own_at_rest, rester_origin}
use Rattle.rollout_mixtures.proofs.Rest.{S, after_downs, cut_scenario, earlier, enough, holds, holds_new, holds_old, holds_rest, later, linked_listed, off1_router, off2_router, speak, two_of}
use Rattle.rollout_mixtures.proofs.Setting.{cut_off, out_own}
use Rattle.rollout_mixtures.proofs.Settles.{Settles}
use Rattle.rollout_mixtures.proofs.Two.{Two, earlier_side, flipped, has_new, has_old, later_side, off1, off1_from, off2, off2_from, w1, w2, waits}

module _ (k : Two) (rules : IsNet k.s.net) (prefix : IsPrefix k.s.p) (cs ds : List PlainCaseEvidence) (lawful : IsPolicyOf k.s.net k.old.policy) (passes : Passes k.s.net k.old.policy k.old.config cs)
    (lawful' : IsPolicyOf k.s.net k.new.policy) (passes' : Passes k.s.net k.new.policy k.new.config ds) (both : (a b : ℕ) → k.s.w.cut a b ≡ k.s.w.cut b a)
    (down : (r : ℕ) → k.s.w.down r ≡ true → is_router k.s.net r ≡ true) (f : Failures) (scenario : IsScenarioOf k.s.net k.s.w f) where
  abbrev two : Settles k.s.net k.new.policy k.new.config k.s.p (w2 k) (scenario_of k.s.net (w2 k))
  two = later k rules prefix cs ds lawful passes lawful' passes' both down

  abbrev out2 : ℕ → Option Route
  out2 = route_at two.outcome

  abbrev one : Settles k.s.net k.old.policy k.old.config k.s.p (w1 k out2) (scenario_of k.s.net (w1 k out2))
  one = earlier k rules prefix cs ds lawful passes lawful' passes' both down out2

  abbrev out1 : ℕ → Option Route
  out1 = route_at one.outcome

  -- what fails besides
  besides : (off deaf : ℕ → Bool) → ((r : ℕ) → off r ≡ true → is_router k.s.net r ≡ true) → FailBesides k.s.net f off deaf (scenario_of k.s.net (cut_off off deaf k.s.w))
  besides off deaf outside =
      let cut = cut_scenario k both down off deaf outside in
      record {
        routers = λ l. cut.dead l ∙ ap (λ (b : Bool). b || off l) (sym (scenario.dead l));
        links = λ a b on. cut.links a b on ∙ sym (scenario.links a b on);
        sessions = λ r q on. cut.silent r q on ∙ ap (λ (b : Bool). b || deaf r) (sym (scenario.silent r q on));
      }

  -- ---- what rests holds the old route, where the new side has none

  dead_holds : (r : ℕ) → k.s.w.down r ≡ true → at_rest (S k out2 two.order out1 one.order) k.s.w r ≡ out1 r
  dead_holds r dead =
      down_at_rest k.s.net (k.s.m r).policy (k.s.m r).config k.s.p k.s.w r dead
      ∙ sym (one.order.rested r (dead_rests k.s.net k.old.policy k.old.config k.s.p (w1 k out2) r off)
      ∙ down_at_rest k.s.net k.old.policy k.old.config k.s.p (w1 k out2) r off)
    where
      off : (k.s.w.down r || off1 k out2 r) ≡ true
      off = or_left (k.s.w.down r) (off1 k out2 r) dead

  origin_holds : (r : ℕ) → is_router k.s.net r ≡ true → k.s.w.down r ≡ false → rests (S k out2 two.order out1 one.order) k.s.w r ≡ true → out2 r ≡ None
      → at_rest (S k out2 two.order out1 one.order) k.s.w r ≡ out1 r
  origin_holds r router up rest none =
      let origin = rester_origin k.s.net (k.s.m r).policy (k.s.m r).config k.s.p k.s.w r rest router up in
      elim (cases_Bool (flipped k r)) [
        | inl flips ↦ (
            let a = (k.between r).after flips in
            let on = off2_from k r a.1 (λ not_yet. absurd (both_ways (flipped k r) not_yet flips)) in
            absurd (none_or_some (out2 r) _ none (out_own k.s k.new (has_new k) (waits k) (off2 k) (later_side k) out2 two.order r router up on (sym a.0.origin ∙ origin))))
        | inr not_yet ↦ (
            let a = (k.between r).before not_yet in
            let mine = sym a.0.origin ∙ origin in
            let on = off1_from k out2 r a.1 (λ flips. absurd (both_ways (flipped k r) not_yet flips)) none in
            own_at_rest k.s.net (k.s.m r).policy (k.s.m r).config k.s.p k.s.w r router up origin
            ∙ ap (λ (t : Tag). Some (record { path = r ∷ []; tag = t; pref = 0 })) (a.0.own mine)
            ∙ sym (out_own k.s k.old (has_old k) (flipped k) (off1 k out2) (earlier_side k out2) out1 one.order r router up on mine))
      ]

  layered : (r : ℕ) → is_router k.s.net r ≡ true → holds k out2 two.order out1 one.order r ≡ option_or (out2 r) (out1 r)
  layered r router = elim (cases_Option (out2 r)) [
    | inr y ↦ holds_new k out2 two.order out1 one.order r y.0 y.1 ∙ sym (ap (λ (z : Option Route). option_or z (out1 r)) y.1)
    | inl none ↦
        elim (cases_Bool (rests (S k out2 two.order out1 one.order) k.s.w r)) [
          | inr other ↦ holds_old k out2 two.order out1 one.order r other none
          | inl rest ↦ holds_rest k out2 two.order out1 one.order r rest ∙ elim (cases_Bool (k.s.w.down r)) [
            | inl dead ↦ dead_holds r dead
            | inr up ↦ origin_holds r router up rest none
          ]
        ]
        ∙ sym (ap (λ (z : Option Route). option_or z (out1 r)) none)
  ]

  -- ---- where no message waits

  module _ (kept : IsKept (mixed k.s.net k.s.says k.s.p k.s.m) k.s.w) (trails : AreKinds (IsHolding k.s.net) (IsSaying k.s.net) k.s.w) (quiet : IsQuiet k.s.w) where
    at_rest_holds : (r : ℕ) → k.s.w.route r ≡ holds k out2 two.order out1 one.order r
    at_rest_holds r =
        let net = S k out2 two.order out1 one.order in
        let rounds = each_round net (each_way k.s.net.links) (rounds_enough k.s.net) k.s.w in
        let go = rounds_go_on net (speak k out2 two.order out1 one.order rules kept trails) (each_way k.s.net.links) (linked_listed k out2 two.order out1 one.order rules kept trails) (rounds_enough k.s.net) k.s.w kept in
        sym (ap (λ (v : World Route). v.route r) (quiet_stays net k.s.w rounds quiet)) ∙ (enough k out2 two.order out1 one.order rules kept trails rounds go).1 r

    are_layers : AreLayers k.s.net k.s.p k.old k.new k.s.m k.between f k.s.w.route
    are_layers = record {
      later = two.outcome;
      new_failures = scenario_of k.s.net (w2 k);
      new_fails = besides (off2 k) (waits k) (off2_router k);
      new_settled = two.full;
      new_right = passing_evidence_is_right k.s.net k.new.policy k.new.config ds rules lawful' passes' k.s.p (scenario_of k.s.net (w2 k)) two.outcome prefix two.size two.full.stable;
      earlier = one.outcome;
      old_failures = scenario_of k.s.net (w1 k out2);
      old_fails = besides (off1 k out2) (flipped k) (off1_router k out2);
      old_settled = one.full;
      old_right = passing_evidence_is_right k.s.net k.old.policy k.old.config cs rules lawful passes k.s.p (scenario_of k.s.net (w1 k out2)) one.outcome prefix one.size one.full.stable;
      held = λ r router. at_rest_holds r ∙ layered r router;
    }

pub resting_mixtures_are_layered : RestingMixturesAreLayered
resting_mixtures_are_layered net says p old new cs ds m es f rules lawful passes lawful' passes' prefix above peers old_says new_says between scenario quiet =
    let kept = keeps net says p m es rules in
    let k = two_of net says p old new cs ds (after net says p es (begins net says p m)) rules lawful passes lawful' passes' prefix above peers old_says new_says between in
    are_layers k rules prefix cs ds lawful passes lawful' passes' kept.both (after_downs net says p m es) f scenario kept (holds_trails net says p m es rules) quiet
