-- Where routers read one part's routes as it does, the order in which its network settles is theirs, whatever else is still on its way.
use Rattle.std.proofs.Common.{◌≡◌, ℕ, Bool, true, false, not, ◌||◌, List, [], ◌∷◌, Option, Some, None, sym, ap, ◌∙◌, subst, inl, inr}
use Rattle.std.specs.Prelude.{is_some, if◌then◌else◌}
use Rattle.std.proofs.lemmas.Bool.{and_left, and_parts, cases_Bool, cond-false, eqb-true, not-false, or_cases, or_left, or_parts}
use Rattle.list_law.proofs.Options.{none_or_some}
use Rattle.net_base.specs.declared.numbers.Tag.{Tag}
use Rattle.net_base.specs.Network.{PlainNet, is_router}
use Rattle.net_base.specs.Prefixes.{PlainPrefix}
use Rattle.config_base.specs.declared.route.Route.{Route}
use Rattle.event_base.specs.Speaking.{taken_by}
use Rattle.event_base.specs.World.{Speakers, World, at, running}
use Rattle.event_law.specs.Kinds.{Held, IsKind}
use Rattle.event_law.proofs.First.{NoLater}
use Rattle.event_law.proofs.KindsKept.{held-cond, held-none}
use Rattle.rest_law.specs.Orders.{Comes, Comes as comes, IsFirst, IsOrder, IsUnreached, Takes, at_rest, rests, said}
use Rattle.rollout_base.specs.Lines.{ReadsAs}
use Rattle.rollout_base.specs.Mixtures.{Mixture, Part, all_run, announced_if, mixed}
use Rattle.rollout_law.proofs.Reading.{Sent, Tagged, chooses_alike, sends_alike, tagged, takes_alike}
use Rattle.rollout_law.proofs.Speaking.{taken_parts}
use Rattle.rollout_rest.proofs.Mixed.{taken_in}

module _ (net : PlainNet) (says : ℕ → Bool) (p : PlainPrefix) (x : Part) (m : Mixture) (reads : (r : ℕ) → ReadsAs net p x r (m r)) where
  abbrev S : Speakers Route
  S = mixed net says p m

  -- all run the part itself
  abbrev B : Speakers Route
  B = mixed net says p (all_run x)

  abbrev Of : ℕ → Route → Type 0
  Of = Tagged net says p x

  abbrev On : ℕ → ℕ → Route → Type 0
  On = Sent net says p x

  abbrev kind : IsKind B Of On
  kind = tagged net says p x

  -- its tags are a kind that these routers keep too
  pub readers_keep : IsKind S Of On
  readers_keep = record {
    exports = λ a b o router held. subst (Held (On a b)) (sym (sends_alike net says p x m reads a b o held)) (kind.exports a b o router held);
    announces = kind.announces;
    chooses = λ r offer router held. subst (Held (Of r)) (sym (chooses_alike net says p x m reads r offer router held)) (kind.chooses r offer router held);
  }

  module _ (w : World Route) where
    -- ---- who rests, and with what

    own_alike : (r : ℕ) → is_router net r ≡ true → S.choose r (λ u. None) ≡ B.choose r (λ u. None)
    own_alike r router = chooses_alike net says p x m reads r (λ u. None) router (λ u. held-none (On u r))

    pub rests_alike : (r : ℕ) → rests S w r ≡ rests B w r
    rests_alike r = elim (cases_Bool (is_router net r)) [
      | inl router ↦ ap (λ (o : Option Route). not (running B w r) || is_some o) (own_alike r router)
      | inr off ↦ (
          let stops : not (running B w r) ≡ true = ap not (and_left (is_router net r) (not (w.down r)) off) in
          or_left (not (running B w r)) (is_some (S.choose r (λ u. None))) stops ∙ sym (or_left (not (running B w r)) (is_some (B.choose r (λ u. None))) stops))
    ]

    pub at_rest_alike : (r : ℕ) → at_rest S w r ≡ at_rest B w r
    at_rest_alike r = elim (cases_Bool (is_router net r)) [
      | inl router ↦ ap (λ (o : Option Route). if running B w r then o else None) (own_alike r router)
      | inr off ↦ (
          let stops : running B w r ≡ false = and_left (is_router net r) (not (w.down r)) off in
          cond-false (running B w r) (S.choose r (λ u. None)) None stops ∙ sym (cond-false (running B w r) (B.choose r (λ u. None)) None stops))
    ]

    at_rest_held : (r : ℕ) → Held (Of r) (at_rest B w r)
    at_rest_held r =
        held-cond (Of r) (running B w r) (B.choose r (λ u. None)) None
        (λ runs. kind.chooses r (λ u. None) (and_parts (is_router net r) (not (w.down r)) runs).0 (λ u. held-none (On u r)))
        (λ stops. held-none (Of r))

    -- ---- what is said and taken

    said_alike : (a b : ℕ) (o : Option Route) → Held (Of a) o → said S w a b o ≡ said B w a b o
    said_alike a b o held = ap (λ (z : Option Route). if is_router net a then z else (if w.silent b a then None else announced_if says a)) (sends_alike net says p x m reads a b o held)

    said_held : (a b : ℕ) (o : Option Route) → Held (Of a) o → Held (On a b) (said B w a b o)
    said_held a b o held =
        held-cond (On a b) (is_router net a) (B.export a b o) (if w.silent b a then None else announced_if says a)
        (λ router. kind.exports a b o router held)
        (λ off. held-cond (On a b) (w.silent b a) None (announced_if says a) (λ mute. held-none (On a b)) (λ speaks. kind.announces a b off))

    taken_alike : (v u : ℕ) (o : Option Route) → is_router net v ≡ true → Held (Of u) o → taken_in net p m v u (said S w u v o) ≡ taken_by net x.config p v u (said B w u v o)
    taken_alike v u o router held = ap (taken_in net p m v u) (said_alike u v o held) ∙ takes_alike net says p x m reads v u (said B w u v o) router (said_held u v o held)

    taken_held : (v u : ℕ) (o : Option Route) (h : Route) → taken_by net x.config p v u o ≡ Some h → Of v h
    taken_held v u o h e =
        let k = taken_parts net x.config p v u o h e in
        inr (u, k.0.path, k.0.tag, k.1.1, k.3 ∙ ap (λ (t : Tag). Some (t, k.1.1)) (ap (λ (g : Route). g.tag) k.4))

    -- ---- the order

    abbrev own_takes : Takes Route
    own_takes r u o = taken_by net x.config p r u o

    module _ (outcome : ℕ → Option Route) where
      -- those that are settled hold routes of its tags, and the others are routers
      record Settled (T : ℕ → Bool) : Type 0 where
        pub held : (z : ℕ) → T z ≡ true → Held (Of z) (outcome z)
        pub router : (z : ℕ) → T z ≡ false → is_router net z ≡ true

      comes_alike : (T : ℕ → Bool) → Settled T → (v u : ℕ) (h : Route) → is_router net v ≡ true → Comes S w (taken_in net p m) outcome T v u h → Comes B w own_takes outcome T v u h × Of v h
      comes_alike T all v u h router (comes.settled among on t) =
          let mine = sym (taken_alike v u (outcome u) router (all.held u among)) ∙ t in
          (comes.settled among on mine, taken_held v u (said B w u v (outcome u)) h mine)
      comes_alike T all v u h router (comes.further {z = z} {g = g} other c on t) =
          let before = comes_alike T all u z g (all.router u other) c in
          let held : Held (Of u) (Some g) = λ y e. (let same : g ≡ y = cc in subst (Of u) same before.1) in
          let mine = sym (taken_alike v u (Some g) router held) ∙ t in
          (comes.further {z = z} {g = g} other before.0 on mine, taken_held v u (said B w u v (Some g)) h mine)

      with_it : (T : ℕ → Bool) (v : ℕ) → Settled T → Held (Of v) (outcome v) → Settled (λ z. T z || at v z)
      with_it T v all held = record {
        held = λ z t. elim (or_cases (T z) (at v z) t) [
          | inl before ↦ all.held z before
          | inr here ↦ subst (λ (y : ℕ). Held (Of y) (outcome y)) (sym (eqb-true z v here)) held
        ];
        router = λ z f. all.router z (or_parts (T z) (at v z) f).0;
      }

      order_alike : (vs : List ℕ) (T : ℕ → Bool) → Settled T → IsOrder B w own_takes (NoLater net) outcome T vs → IsOrder S w (taken_in net p m) (NoLater net) outcome T vs
      order_alike [] T all order = order
      order_alike (v ∷ vs) T all order = elim order.1 [
        | inl f ↦ (
            let takes_it = taken_alike v f.giver (outcome f.giver) router (all.held f.giver f.among) ∙ f.takes_it in
            let held : Held (Of v) (outcome v) = λ y e. (
            let same : f.route ≡ y = (let both : Some f.route ≡ Some y = sym f.holds ∙ e in cc) in
            subst (Of v) same (taken_held v f.giver (said B w f.giver v (outcome f.giver)) f.route f.takes_it)) in
            let first : IsFirst S w (taken_in net p m) (NoLater net) outcome T v = record {
              giver = f.giver;
              route = f.route;
              holds = f.holds;
              among = f.among;
              lives = f.lives;
              takes_it = takes_it;
              first = λ u h c later. f.first u h (comes_alike T all v u h router c).0 later;
            } in
            (order.0, inl first, order_alike vs (λ z. T z || at v z) (with_it T v all held) order.2))
        | inr n ↦ (
            let held : Held (Of v) (outcome v) = λ y e. absurd (none_or_some (outcome v) y n.holds e) in
            let unreached : IsUnreached S w (taken_in net p m) (NoLater net) outcome T v = record { holds = n.holds; never = λ u h c. n.never u h (comes_alike T all v u h router c).0 } in
            (order.0, inr unreached, order_alike vs (λ z. T z || at v z) (with_it T v all held) order.2))
      ]
        where
          router : is_router net v ≡ true
          router = all.router v order.0

      -- an order of its network is one of theirs
      pub order_of_readers : ((r : ℕ) → rests B w r ≡ true → outcome r ≡ at_rest B w r) → (vs : List ℕ) → IsOrder B w own_takes (NoLater net) outcome (rests B w) vs
          → IsOrder S w (taken_in net p m) (NoLater net) outcome (rests S w) vs
      order_of_readers rested vs order =
          let at_first : Settled (rests B w) = record {
            held = λ z t. subst (Held (Of z)) (sym (rested z t)) (at_rest_held z);
            router = λ z f.
                let runs = not-false (running B w z) (or_parts (not (running B w z)) (is_some (B.choose z (λ u. None))) f).0 in
                (and_parts (is_router net z) (not (w.down z)) runs).0;
          } in
          subst (λ (T : ℕ → Bool). IsOrder S w (taken_in net p m) (NoLater net) outcome T vs) (λ i r. sym (rests_alike r) i) (order_alike vs (rests B w) at_first order)
