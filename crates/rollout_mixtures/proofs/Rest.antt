-- Mixtures come to rest.
use Rattle.std.proofs.Common.{◌≡◌, ℕ, Bool, true, false, eqb, List, [], ◌∷◌, length, IsTrue, Option, Some, None, refl, sym, ap, ◌∙◌, inl, inr}
use Rattle.std.specs.Prelude.{if◌then◌else◌}
use Rattle.std.specs.List.{list_any}
use Rattle.std.specs.Option.{option_or}
use Rattle.std.proofs.lemmas.Bool.{and_parts, both_ways, cases_Bool, cond-false, cond-true, eq-eqb, ltb-true, or_cases, or_parts}
use Rattle.list_law.proofs.Members.{list_any-from_IsIn}
use Rattle.net_base.specs.Locations.{numbers_below}
use Rattle.net_base.specs.Network.{PlainNet, IsNet, is_peer, is_router, linked}
use Rattle.net_base.specs.Prefixes.{PlainPrefix, IsPrefix}
use Rattle.net_base.specs.declared.numbers.Tag.{Tag}
use Rattle.net_base.proofs.NumbersBelow.{slice_get-numbers_below}
use Rattle.policy_base.specs.Policies.{IsPolicyOf}
use Rattle.policy_base.specs.Governing.{is_origin}
use Rattle.config_base.specs.declared.route.Route.{Route}
use Rattle.evidence_base.specs.Made.{PlainCaseEvidence}
use Rattle.outcome_base.specs.Outcomes.{route_at}
use Rattle.evidence_law.specs.Passes.{Passes}
use Rattle.event_base.specs.Speaking.{speakers_of}
use Rattle.event_base.specs.Steps.{IsQuiet, run}
use Rattle.event_base.specs.World.{Speakers}
use Rattle.event_law.specs.Kept.{AreSpeakers, IsKept}
use Rattle.event_law.specs.Kinds.{AreKinds}
use Rattle.event_law.specs.Scenarios.{IsScenarioOf, scenario_of}
use Rattle.event_law.proofs.Downs.{AreDown, choose_again-down, happens-down}
use Rattle.event_law.proofs.Scenario.{is_scenario}
use Rattle.rest_law.specs.Laws.{Lists, each_round}
use Rattle.rest_law.specs.Orders.{at_rest, rests}
use Rattle.rest_law.specs.Rest.{rounds_enough}
use Rattle.rest_law.specs.Rounds.{AreRounds, deliveries, stretch}
use Rattle.rest_law.specs.Ways.{each_way}
use Rattle.rest_law.proofs.Ended.{ways_listed}
use Rattle.rest_law.proofs.Ending.{HasOrder, trails_end}
use Rattle.rest_law.proofs.Fair.{fair_rounds, rounds_before}
use Rattle.rest_law.proofs.Present.{rounds_go_on}
use Rattle.rest_law.proofs.Trails.{IsHolding, IsSaying}
use Rattle.rollout_base.specs.Mixtures.{Change, Change as change, Mixture, Part, Running, after, begins, mixed, with_part}
use Rattle.rollout_law.proofs.Speaking.{are_speakers}
use Rattle.rollout_rest.proofs.Mixed.{mixed_choosers, mixed_trails, taken_in}
use Rattle.rollout_rest.proofs.Rest.{holds_trails, keeps}
use Rattle.rollout_mixtures.specs.Between.{IsAbove, IsBetween}
use Rattle.rollout_mixtures.specs.Laws.{ComesToAnEnd, MixturesComeToRest}
use Rattle.rollout_mixtures.proofs.Alone.{alone}
use Rattle.rollout_mixtures.proofs.Earlier.{then_old}
use Rattle.rollout_mixtures.proofs.Later.{AnOrder, starts2, walk2}
use Rattle.rollout_mixtures.proofs.Resters.{own_at_rest, rester_origin}
use Rattle.rollout_mixtures.proofs.Setting.{cut_off, out_own, out_up}
use Rattle.rollout_mixtures.proofs.Settles.{Settles, settles}
use Rattle.rollout_mixtures.proofs.Two.{Two, flipped, has_new, later_side, off1, off2, off2_parts, w1, w2, waits}

-- nobody but routers is ever down
downs : (net : PlainNet) (says : ℕ → Bool) (p : PlainPrefix) (cs : List Change) (s : Running) → AreDown (mixed net says p s.runs) s.world.down → AreDown (mixed net says p s.runs) (after net says p cs s).world.down
downs net says p [] s d = d
downs net says p (change.event e ∷ cs) s d = downs net says p cs (record { runs = s.runs; world = _ }) (happens-down (mixed net says p s.runs) e s.world d)
downs net says p (change.load l ∷ cs) s d =
    let next = with_part l.router l.part s.runs in
    downs net says p cs (record { runs = next; world = _ }) (λ r t. d r (sym (ap (λ (f : ℕ → Bool). f r) (choose_again-down (mixed net says p next) l.router s.world)) ∙ t))

pub after_downs : (net : PlainNet) (says : ℕ → Bool) (p : PlainPrefix) (m : Mixture) (es : List Change) (r : ℕ)
    → (after net says p es (begins net says p m)).world.down r ≡ true → is_router net r ≡ true
after_downs net says p m es = downs net says p es (begins net says p m) (λ r t. absurd (both_ways false refl t))

module _ (k : Two) (out2 : ℕ → Option Route) (order2 : HasOrder k.s.net k.new.policy k.new.config k.s.p (w2 k) out2)
    (out1 : ℕ → Option Route) (order1 : HasOrder k.s.net k.old.policy k.old.config k.s.p (w1 k out2) out1) where
  abbrev pub S : Speakers Route
  S = mixed k.s.net k.s.says k.s.p k.s.m

  -- what rests, and else the new side's routes, and the old side's where it has none
  abbrev pub holds : ℕ → Option Route
  holds r = if rests S k.s.w r then at_rest S k.s.w r else option_or (out2 r) (out1 r)

  pub holds_rest : (r : ℕ) → rests S k.s.w r ≡ true → holds r ≡ at_rest S k.s.w r
  holds_rest r t = cond-true (rests S k.s.w r) (at_rest S k.s.w r) (option_or (out2 r) (out1 r)) t

  pub holds_new : (r : ℕ) (y : Route) → out2 r ≡ Some y → holds r ≡ Some y
  holds_new r y e = elim (cases_Bool (rests S k.s.w r)) [
    | inr other ↦ cond-false (rests S k.s.w r) (at_rest S k.s.w r) (option_or (out2 r) (out1 r)) other ∙ ap (λ (z : Option Route). option_or z (out1 r)) e
    | inl rest ↦ (
        let up = out_up k.s k.new (has_new k) (waits k) (off2 k) (later_side k) out2 order2 r y e in
        let origin = rester_origin k.s.net (k.s.m r).policy (k.s.m r).config k.s.p k.s.w r rest up.0 up.1 in
        elim (cases_Bool (flipped k r)) [
          | inl flips ↦ (
              let starts = ((k.between r).after flips).0 in
              let mine = sym starts.origin ∙ origin in
              holds_rest r rest ∙ own_at_rest k.s.net (k.s.m r).policy (k.s.m r).config k.s.p k.s.w r up.0 up.1 origin
              ∙ ap (λ (t : Tag). Some (record { path = r ∷ []; tag = t; pref = 0 })) (starts.own mine)
              ∙ sym (out_own k.s k.new (has_new k) (waits k) (off2 k) (later_side k) out2 order2 r up.0 up.1 up.2 mine) ∙ e)
          | inr not_yet ↦ absurd (both_ways (is_origin k.s.net k.old.policy k.s.p r)
              (or_parts (is_origin k.s.net k.old.policy k.s.p r) (is_origin k.s.net k.new.policy k.s.p r) ((off2_parts k r up.0 up.2).1 not_yet)).0
              (sym ((k.between r).before not_yet).0.origin ∙ origin))
        ])
  ]

  pub holds_old : (r : ℕ) → rests S k.s.w r ≡ false → out2 r ≡ None → holds r ≡ out1 r
  holds_old r other none = cond-false (rests S k.s.w r) (at_rest S k.s.w r) (option_or (out2 r) (out1 r)) other ∙ ap (λ (z : Option Route). option_or z (out1 r)) none

  listed : (u : ℕ) → is_router k.s.net u ≡ true → list_any (eqb u) (numbers_below (length k.s.net.routers)) ≡ true
  listed u router =
      list_any-from_IsIn (eqb u) (numbers_below (length k.s.net.routers)) u
      (u, slice_get-numbers_below (length k.s.net.routers) u (ltb-true u (length k.s.net.routers) router)) (eq-eqb u u refl)

  an_order : AnOrder k out2 order2 holds holds_rest holds_new (rests S k.s.w)
  an_order =
      walk2 k out2 order2 holds holds_rest holds_new
      (λ T inv. then_old k out2 order2 holds holds_rest holds_new out1 order1 holds_old inv.closed (numbers_below (length k.s.net.routers)) listed T inv)
      order2.routers (rests (speakers_of k.s.net k.new.policy k.new.config k.s.p) (w2 k)) (rests S k.s.w) (starts2 k out2 order2 holds holds_rest holds_new) order2.order

  module _ (rules : IsNet k.s.net) (kept : IsKept S k.s.w) (trails : AreKinds (IsHolding k.s.net) (IsSaying k.s.net) k.s.w) where
    pub speak : AreSpeakers S
    speak = are_speakers k.s.net k.s.says k.s.p k.s.m rules

    pub enough : (ds : List (ℕ × ℕ)) → AreRounds S (rounds_enough k.s.net) k.s.w ds → IsQuiet (run S (deliveries ds) k.s.w) × ((r : ℕ) → (run S (deliveries ds) k.s.w).route r ≡ holds r)
    enough ds rounds =
        trails_end k.s.net S (taken_in k.s.net k.s.p k.s.m) k.s.w holds an_order.0 ds speak (mixed_choosers k.s.net k.s.says k.s.p k.s.m rules) (mixed_trails k.s.net k.s.says k.s.p k.s.m)
        (λ r t. ltb-true r (length k.s.net.routers) t) kept trails holds_rest an_order.1 rounds

    pub linked_listed : (a b : ℕ) → linked k.s.net a b ≡ true → Lists (each_way k.s.net.links) a b
    linked_listed a b on = ways_listed k.s.net.links a b on

    pub ends : ComesToAnEnd k.s.net k.s.says k.s.p k.s.m k.s.w
    ends = record {
      outcome = holds;
      rounds = enough;
      reached =
          let ds = each_round S (each_way k.s.net.links) (rounds_enough k.s.net) k.s.w in
          (ds, (enough ds (rounds_go_on S speak (each_way k.s.net.links) linked_listed (rounds_enough k.s.net) k.s.w kept)).0);
      fair = λ schedule fair.
          let far = fair_rounds S speak schedule fair (each_way k.s.net.links) linked_listed (rounds_enough k.s.net) k.s.w kept 0 in
          (far.0, λ n le. enough (stretch schedule 0 n) (rounds_before S schedule (rounds_enough k.s.net) far.0 n k.s.w le far.1));
    }

-- who is off is a router
pub off2_router : (k : Two) (r : ℕ) → off2 k r ≡ true → is_router k.s.net r ≡ true
off2_router k r t = (and_parts (is_router k.s.net r) _ t).0

pub off1_router : (k : Two) (out2 : ℕ → Option Route) (r : ℕ) → off1 k out2 r ≡ true → is_router k.s.net r ≡ true
off1_router k out2 r t = (and_parts (is_router k.s.net r) _ t).0

-- what is down, cut and silent where besides these are off, and those hear no peers
module _ (k : Two) (both : (a b : ℕ) → k.s.w.cut a b ≡ k.s.w.cut b a) (down : (r : ℕ) → k.s.w.down r ≡ true → is_router k.s.net r ≡ true) where
  pub cut_scenario : (off deaf : ℕ → Bool) → ((r : ℕ) → off r ≡ true → is_router k.s.net r ≡ true)
      → IsScenarioOf k.s.net (cut_off off deaf k.s.w) (scenario_of k.s.net (cut_off off deaf k.s.w))
  cut_scenario off deaf outside = is_scenario k.s.net (cut_off off deaf k.s.w) both (λ r t. elim (or_cases (k.s.w.down r) (off r) t) [
    | inl a ↦ down r a
    | inr b ↦ outside r b
  ])

  pub later_scenario : IsScenarioOf k.s.net (w2 k) (scenario_of k.s.net (w2 k))
  later_scenario = cut_scenario (off2 k) (waits k) (off2_router k)

  pub earlier_scenario : (out2 : ℕ → Option Route) → IsScenarioOf k.s.net (w1 k out2) (scenario_of k.s.net (w1 k out2))
  earlier_scenario out2 = cut_scenario (off1 k out2) (flipped k) (off1_router k out2)

-- each side's own network has an order in what the mixture leaves to it
module _ (k : Two) (rules : IsNet k.s.net) (prefix : IsPrefix k.s.p) (cs ds : List PlainCaseEvidence) (lawful : IsPolicyOf k.s.net k.old.policy) (passes : Passes k.s.net k.old.policy k.old.config cs)
    (lawful' : IsPolicyOf k.s.net k.new.policy) (passes' : Passes k.s.net k.new.policy k.new.config ds) (both : (a b : ℕ) → k.s.w.cut a b ≡ k.s.w.cut b a)
    (down : (r : ℕ) → k.s.w.down r ≡ true → is_router k.s.net r ≡ true) where
  pub later : Settles k.s.net k.new.policy k.new.config k.s.p (w2 k) (scenario_of k.s.net (w2 k))
  later = settles k.s.net k.new.policy k.new.config ds rules lawful' passes' k.s.p prefix (w2 k) (scenario_of k.s.net (w2 k)) (later_scenario k both down)

  pub earlier : (out2 : ℕ → Option Route) → Settles k.s.net k.old.policy k.old.config k.s.p (w1 k out2) (scenario_of k.s.net (w1 k out2))
  earlier out2 = settles k.s.net k.old.policy k.old.config cs rules lawful passes k.s.p prefix (w1 k out2) (scenario_of k.s.net (w1 k out2)) (earlier_scenario k both down out2)

  pub comes_to_an_end : IsKept (mixed k.s.net k.s.says k.s.p k.s.m) k.s.w → AreKinds (IsHolding k.s.net) (IsSaying k.s.net) k.s.w → ComesToAnEnd k.s.net k.s.says k.s.p k.s.m k.s.w
  comes_to_an_end kept trails =
      let out2 = route_at later.outcome in
      let one = earlier out2 in
      ends k out2 later.order (route_at one.outcome) one.order rules kept trails

-- a world after events and loads, and its two sides
abbrev pub two_of : (net : PlainNet) (says : ℕ → Bool) (p : PlainPrefix) (old new : Part) (cs ds : List PlainCaseEvidence) (s : Running) → IsNet net
    → IsPolicyOf net old.policy → Passes net old.policy old.config cs → IsPolicyOf net new.policy → Passes net new.policy new.config ds → IsPrefix p → IsAbove net p old new
    → ((a : ℕ) → IsTrue (says a) → IsTrue (is_peer net a))
    → ((a : ℕ) → is_router net a ≡ false → IsTrue (is_origin net old.policy p a) → IsTrue (says a))
    → ((a : ℕ) → is_router net a ≡ false → IsTrue (is_origin net new.policy p a) → IsTrue (says a))
    → ((r : ℕ) → IsBetween net p old new r (s.runs r)) → Two
two_of net says p old new cs ds s rules lawful passes lawful' passes' prefix above peers old_says new_says between = record {
  s = record { net = net; says = says; p = p; m = s.runs; w = s.world; peers = peers };
  old = old;
  new = new;
  between = between;
  above = above;
  old_says = old_says;
  new_says = new_says;
  old_alone = alone net p old cs rules lawful passes prefix;
  new_alone = alone net p new ds rules lawful' passes' prefix;
}

pub mixtures_come_to_rest : MixturesComeToRest
mixtures_come_to_rest net says p old new cs ds m es rules lawful passes lawful' passes' prefix above peers old_says new_says between =
    let kept = keeps net says p m es rules in
    let k = two_of net says p old new cs ds (after net says p es (begins net says p m)) rules lawful passes lawful' passes' prefix above peers old_says new_says between in
    comes_to_an_end k rules prefix cs ds lawful passes lawful' passes' kept.both (after_downs net says p m es) kept (holds_trails net says p m es rules)
