-- The routers that come to hold new routes settle first, as in the network of the new side alone.
use Rattle.std.proofs.Common.{◌≡◌, ℕ, ◌<◌, ◌≤◌, Bool, true, false, ◌||◌, ◌⊎◌, List, [], ◌∷◌, Option, Some, None, sym, ap, ◌∙◌, subst, inl, inr, arith}
use Rattle.std.proofs.lemmas.Bool.{both_ways, cases_Bool, eqb-true, false_from_ne_true, not_from_true, or_cases, or_from, or_left, or_parts, or_right}
use Rattle.list_law.proofs.Options.{cases_Option, none_or_some}
use Rattle.net_base.specs.Network.{is_router}
use Rattle.policy_base.specs.Governing.{is_origin}
use Rattle.config_base.specs.declared.route.Route.{Route}
use Rattle.config_base.specs.Lines.{own_route}
use Rattle.event_base.specs.Speaking.{speakers_of, taken_by}
use Rattle.event_base.specs.World.{Speakers, World, at, live}
use Rattle.event_law.proofs.First.{NoLater}
use Rattle.rest_law.specs.Orders.{Comes, Comes as comes, IsFirst, IsOrder, IsUnreached, Takes, at_rest, rests, said}
use Rattle.rest_law.proofs.Ending.{HasOrder}
use Rattle.rollout_base.specs.Lines.{GivesTag}
use Rattle.rollout_base.specs.Mixtures.{mixed}
use Rattle.rollout_law.proofs.Speaking.{exported_none, taken_none}
use Rattle.rollout_rest.proofs.Mixed.{taken_in}
use Rattle.rollout_mixtures.proofs.Orders.{Closed, closed_at_first, closed_on, comes_lives, nothing_taken}
use Rattle.rollout_mixtures.proofs.Resters.{chooser_parts, is_chooser, own_at_rest, own_rests, peer_rests, rester_origin}
use Rattle.rollout_mixtures.proofs.Setting.{given_by_lines, live_down, out_own, out_tags, out_up, peer_comes, peer_gives, peer_goes, router_comes, router_goes, up_of}
use Rattle.rollout_mixtures.proofs.Sides.{Given, given_of, given_tag}
use Rattle.rollout_mixtures.proofs.Two.{Two, earlier_side, flipped, has_new, has_old, later_side, off1, off2, off2_from, off2_parts, w2, waits}

module _ (k : Two) (out2 : ℕ → Option Route) (order2 : HasOrder k.s.net k.new.policy k.new.config k.s.p (w2 k) out2) (o : ℕ → Option Route)
    (o_rest : (r : ℕ) → rests (mixed k.s.net k.s.says k.s.p k.s.m) k.s.w r ≡ true → o r ≡ at_rest (mixed k.s.net k.s.says k.s.p k.s.m) k.s.w r)
    (o_new : (r : ℕ) (y : Route) → out2 r ≡ Some y → o r ≡ Some y) where
  abbrev pub S : Speakers Route
  S = mixed k.s.net k.s.says k.s.p k.s.m

  abbrev pub tS : Takes Route
  tS = taken_in k.s.net k.s.p k.s.m

  abbrev pub w : World Route
  w = k.s.w

  abbrev pub N : Speakers Route
  N = speakers_of k.s.net k.new.policy k.new.config k.s.p

  abbrev pub tN : Takes Route
  tN r u m = taken_by k.s.net k.new.config k.s.p r u m

  abbrev pub New : ℕ → Route → Type 0
  New v h = Given k.s.net k.s.p k.new v h

  abbrev pub Old : ℕ → Route → Type 0
  Old v h = Given k.s.net k.s.p k.old v h

  abbrev pub AnOrder : (ℕ → Bool) → Type 0
  AnOrder T = (vs : List ℕ) × IsOrder S w tS (NoLater k.s.net) o T vs

  abbrev pub ClosedN : (ℕ → Bool) → Type 0
  ClosedN T = Closed N (w2 k) tN (NoLater k.s.net) out2 (exported_none k.s.net k.new.config k.s.p) (taken_none k.s.net k.new.config k.s.p) T

  -- T2 is settled on the new side; of these T has those that hold something there, and who rests
  pub record Inv (T2 T : ℕ → Bool) : Type 0 where
    pub rest : (z : ℕ) → rests S w z ≡ true → T z ≡ true
    pub rest2 : (z : ℕ) → rests N (w2 k) z ≡ true → T2 z ≡ true
    pub firsts : (z : ℕ) (y : Route) → T2 z ≡ true → out2 z ≡ Some y → T z ≡ true
    pub back : (z : ℕ) → T z ≡ true → (rests S w z ≡ true) ⊎ ((T2 z ≡ true) × ((y : Route) × (out2 z ≡ Some y)))
    pub closed : ClosedN T2

  -- who chooses and originates nothing takes part, if a new line leads to it
  pub part2 : (v : ℕ) → is_origin k.s.net (k.s.m v).policy k.s.p v ≡ false → has_new k v ≡ true → is_origin k.s.net k.new.policy k.s.p v ≡ false → off2 k v ≡ false
  part2 v other has none =
      off2_from k v has (λ not_yet. or_from (is_origin k.s.net k.old.policy k.s.p v) (is_origin k.s.net k.new.policy k.s.p v) (sym ((k.between v).before not_yet).0.origin ∙ other) none)

  flipped_on : (v : ℕ) → flipped k v ≡ true → off2 k v ≡ false
  flipped_on v flips = off2_from k v ((k.between v).after flips).1 (λ not_yet. absurd (both_ways (flipped k v) not_yet flips))

  pub new_from : (u v : ℕ) (y h : Route) → is_router k.s.net u ≡ true → is_router k.s.net v ≡ true → is_origin k.s.net (k.s.m v).policy k.s.p v ≡ false → off2 k u ≡ false
      → GivesTag k.s.net k.s.p k.new u y.tag → live S w u v ≡ true → tS v u (said S w u v (Some y)) ≡ Some h
      → (live N (w2 k) u v ≡ true) × (tN v u (said N (w2 k) u v (Some y)) ≡ Some h) × New v h
  new_from u v y h from to other on gives up t =
      router_comes k.s k.new (has_new k) (waits k) (off2 k) (later_side k) u v y h from to on gives up (λ has none. part2 v other has none) t

  pub out2_up : (r : ℕ) (y : Route) → out2 r ≡ Some y → (is_router k.s.net r ≡ true) × (w.down r ≡ false) × (off2 k r ≡ false)
  out2_up r y e = out_up k.s k.new (has_new k) (waits k) (off2 k) (later_side k) out2 order2 r y e

  pub tags2 : (r : ℕ) (y : Route) → out2 r ≡ Some y → GivesTag k.s.net k.s.p k.new r y.tag
  tags2 r y e = out_tags k.s k.new (has_new k) (waits k) (off2 k) (later_side k) out2 order2 r y e

  -- an own route that has flipped is the new side's
  pub own2 : (r : ℕ) → is_router k.s.net r ≡ true → w.down r ≡ false → flipped k r ≡ true → is_origin k.s.net (k.s.m r).policy k.s.p r ≡ true
      → (is_origin k.s.net k.new.policy k.s.p r ≡ true) × (out2 r ≡ Some (own_route k.s.net k.new.config k.s.p r))
  own2 r router up flips origin =
      let mine = sym ((k.between r).after flips).0.origin ∙ origin in
      (mine, out_own k.s k.new (has_new k) (waits k) (off2 k) (later_side k) out2 order2 r router up (flipped_on r flips) mine)

  -- one that hasn't has the old side's tag
  pub own1 : (r : ℕ) → flipped k r ≡ false → is_origin k.s.net (k.s.m r).policy k.s.p r ≡ true → GivesTag k.s.net k.s.p k.old r (own_route k.s.net (k.s.m r).config k.s.p r).tag
  own1 r not_yet origin =
      let starts = ((k.between r).before not_yet).0 in
      let mine = sym starts.origin ∙ origin in
      inl (mine, sym (starts.own mine))

  module _ (T2 T : ℕ → Bool) (inv : Inv T2 T) where
    chooser : (v : ℕ) → T v ≡ false → (is_router k.s.net v ≡ true) × (w.down v ≡ false) × (is_origin k.s.net (k.s.m v).policy k.s.p v ≡ false)
    chooser v f = chooser_parts k.s.net (k.s.m v).policy (k.s.m v).config k.s.p w v (false_from_ne_true (rests S w v) (λ t. both_ways (T v) f (inv.rest v t)))

    abbrev Comes_new : ℕ → ℕ → Route → Type 0
    Comes_new v u h = Comes N (w2 k) tN out2 T2 v u h

    settled_new : (u v : ℕ) (y h : Route) → T2 u ≡ true → out2 u ≡ Some y → T v ≡ false → live S w u v ≡ true → tS v u (said S w u v (o u)) ≡ Some h → Comes_new v u h × New v h
    settled_new u v y h among e off up t =
        let a = out2_up u y e in
        let c = chooser v off in
        let b = new_from u v y h a.0 c.0 c.2 a.2 (tags2 u y e) up (sym (ap (λ (z : Option Route). tS v u (said S w u v z)) (o_new u y e)) ∙ t) in
        (comes.settled among b.0 (ap (λ (z : Option Route). tN v u (said N (w2 k) u v z)) e ∙ b.1), b.2)

    from_rester : (u v : ℕ) (h : Route) → is_router k.s.net u ≡ true → rests S w u ≡ true → T v ≡ false → live S w u v ≡ true → tS v u (said S w u v (o u)) ≡ Some h
        → (Comes_new v u h × New v h) ⊎ Old v h
    from_rester u v h from rest off up t =
        let alive = up_of k.s k.new (has_new k) (waits k) (off2 k) (later_side k) u v up in
        let origin = rester_origin k.s.net (k.s.m u).policy (k.s.m u).config k.s.p w u rest from alive in
        elim (cases_Bool (flipped k u)) [
          | inl flips ↦ (
              let own = own2 u from alive flips origin in
              inl (settled_new u v (own_route k.s.net k.new.config k.s.p u) h (inv.rest2 u (own_rests k.s.net k.new.policy k.new.config k.s.p (w2 k) u own.0)) own.1 off up t))
          | inr not_yet ↦ (
              let holds : o u ≡ Some (own_route k.s.net (k.s.m u).config k.s.p u) = o_rest u rest ∙ own_at_rest k.s.net (k.s.m u).policy (k.s.m u).config k.s.p w u from alive origin in
              inr (given_by_lines k.s k.old (has_old k) (flipped k) (off1 k out2) (earlier_side k out2) u v (own_route k.s.net (k.s.m u).config k.s.p u) h from (chooser v off).0
              (own1 u not_yet origin) (sym (ap (λ (z : Option Route). tS v u (said S w u v z)) holds) ∙ t)))
        ]

    from_peer : (u v : ℕ) (h : Route) → is_router k.s.net u ≡ false → T v ≡ false → live S w u v ≡ true → tS v u (said S w u v (o u)) ≡ Some h → (Comes_new v u h × New v h) ⊎ Old v h
    from_peer u v h off_net off up t = elim (cases_Bool (flipped k v)) [
      | inl flips ↦ (
          let hears : waits k v ≡ false = not_from_true (flipped k v) flips in
          let a = peer_comes k.s k.new (has_new k) (waits k) (off2 k) (later_side k) u v (o u) (out2 u) h off_net hears (flipped_on v flips) up t in
          inl (comes.settled (inv.rest2 u (peer_rests k.s.net k.new.policy k.new.config k.s.p (w2 k) u off_net)) a.0 a.1, a.2))
      | inr not_yet ↦ inr (peer_gives k.s k.old (has_old k) (flipped k) (off1 k out2) (earlier_side k out2) u v (o u) h off_net not_yet t)
    ]

    -- what comes to an open router is new, and comes on the new side, or an old line gave it
    conv : (v u : ℕ) (h : Route) → T v ≡ false → Comes S w tS o T v u h → (Comes_new v u h × New v h) ⊎ Old v h
    conv v u h off (comes.settled among up t) = elim (cases_Bool (is_router k.s.net u)) [
      | inr off_net ↦ from_peer u v h off_net off up t
      | inl from ↦ elim (inv.back u among) [
        | inl rest ↦ from_rester u v h from rest off up t
        | inr known ↦ inl (settled_new u v known.1.0 h known.0 known.1.1 off up t)
      ]
    ]
    conv v u h off (comes.further {z = z} {g = g} other c up t) = further (conv u z g other c)
      where
        further : (Comes_new u z g × New u g) ⊎ Old u g → (Comes_new v u h × New v h) ⊎ Old v h
        further (inr gives) =
            inr (given_by_lines k.s k.old (has_old k) (flipped k) (off1 k out2) (earlier_side k out2) u v g h (chooser u other).0 (chooser v off).0 (given_tag k.s.net k.s.p k.old u g gives) t)
        further (inl a) =
            let on = live_down k.s k.new (has_new k) (waits k) (off2 k) (later_side k) z u
            (comes_lives N (w2 k) tN (NoLater k.s.net) out2 (exported_none k.s.net k.new.config k.s.p) (taken_none k.s.net k.new.config k.s.p) T2 u z g a.0) in
            let b = new_from u v g h (chooser u other).0 (chooser v off).0 (chooser v off).2 on.2 (given_tag k.s.net k.s.p k.new u g a.1) up t in
            inl (comes.further {z = z} {g = g} (open2 on.2 a.0) a.0 b.0 b.1, b.2)
          where
            open2 : off2 k u ≡ false → Comes_new u z g → T2 u ≡ false
            open2 on d = false_from_ne_true (T2 u) (λ t2. elim (cases_Option (out2 u)) [
              | inr y ↦ both_ways (T u) other (inv.firsts u y.0 t2 y.1)
              | inl none ↦ inv.closed u z g none (false_from_ne_true (rests N (w2 k) u) (λ rest.
                  let c = chooser u other in
                  let down = or_from (w.down u) (off2 k u) c.1 on in
                  let origin = rester_origin k.s.net k.new.policy k.new.config k.s.p (w2 k) u rest c.0 down in
                  none_or_some (out2 u) (own_route k.s.net k.new.config k.s.p u) none
                  (order2.rested u rest ∙ own_at_rest k.s.net k.new.policy k.new.config k.s.p (w2 k) u c.0 down origin))) t2 d
            ])

    -- who is first on the new side is first in the mixture
    module _ (v : ℕ) (off : T2 v ≡ false) (f : IsFirst N (w2 k) tN (NoLater k.s.net) out2 T2 v) where
      alone2 : (is_router k.s.net v ≡ true) × (((w2 k).down v ≡ false) × (is_origin k.s.net k.new.policy k.s.p v ≡ false))
      alone2 = (let c = chooser_parts k.s.net k.new.policy k.new.config k.s.p (w2 k) v (false_from_ne_true (rests N (w2 k) v) (λ t. both_ways (T2 v) off (inv.rest2 v t))) in (c.0, (c.1, c.2)))

      lives : (live S w f.giver v ≡ true) × (off2 k f.giver ≡ false) × (off2 k v ≡ false)
      lives = live_down k.s k.new (has_new k) (waits k) (off2 k) (later_side k) f.giver v f.lives

      no_origin_here : is_origin k.s.net (k.s.m v).policy k.s.p v ≡ false
      no_origin_here = elim (cases_Bool (flipped k v)) [
        | inl flips ↦ ((k.between v).after flips).0.origin ∙ alone2.1.1
        | inr not_yet ↦ ((k.between v).before not_yet).0.origin ∙ (or_parts (is_origin k.s.net k.old.policy k.s.p v) (is_origin k.s.net k.new.policy k.s.p v) ((off2_parts k v alone2.0 lives.2).1 not_yet)).0
      ]

      pub first_off : T v ≡ false
      first_off = false_from_ne_true (T v) (λ t. elim (inv.back v t) [
        | inl rest ↦ both_ways (rests S w v) (is_chooser k.s.net (k.s.m v).policy (k.s.m v).config k.s.p w v alone2.0 (or_parts (w.down v) (off2 k v) alone2.1.0).0 no_origin_here) rest
        | inr known ↦ both_ways (T2 v) off known.0
      ])

      giver_holds : is_router k.s.net f.giver ≡ true → (y : Route) × (out2 f.giver ≡ Some y)
      giver_holds router = elim (cases_Option (out2 f.giver)) [
        | inr y ↦ y
        | inl none ↦ absurd (none_or_some (tN v f.giver (said N (w2 k) f.giver v (out2 f.giver))) f.route
            (ap (λ (z : Option Route). tN v f.giver (said N (w2 k) f.giver v z)) none
            ∙ nothing_taken N (w2 k) tN (NoLater k.s.net) out2 (exported_none k.s.net k.new.config k.s.p) (taken_none k.s.net k.new.config k.s.p) f.giver v router) f.takes_it)
      ]

      among : T f.giver ≡ true
      among = elim (cases_Bool (is_router k.s.net f.giver)) [
        | inr off_net ↦ inv.rest f.giver (peer_rests k.s.net (k.s.m f.giver).policy (k.s.m f.giver).config k.s.p w f.giver off_net)
        | inl router ↦ (let y = giver_holds router in inv.firsts f.giver y.0 f.among y.1)
      ]

      takes_it : tS v f.giver (said S w f.giver v (o f.giver)) ≡ Some f.route
      takes_it = elim (cases_Bool (is_router k.s.net f.giver)) [
        | inr off_net ↦ peer_goes k.s k.new (has_new k) (waits k) (off2 k) (later_side k) f.giver v (out2 f.giver) (o f.giver) f.route off_net f.takes_it
        | inl router ↦ (
            let y = giver_holds router in
            ap (λ (z : Option Route). tS v f.giver (said S w f.giver v z)) (o_new f.giver y.0 y.1)
            ∙ router_goes k.s k.new (has_new k) (waits k) (off2 k) (later_side k) f.giver v y.0 f.route router alone2.0 lives.1 lives.2 (tags2 f.giver y.0 y.1)
            (sym (ap (λ (z : Option Route). tN v f.giver (said N (w2 k) f.giver v z)) y.1) ∙ f.takes_it))
      ]

      -- an old route comes later
      later_than : (u : ℕ) (h : Route) → Old v h → NoLater k.s.net (u, h) (f.giver, f.route) → ⊥
      later_than u h b late =
          let g = given_of k.s.net k.s.p k.new v f.giver (said N (w2 k) f.giver v (out2 f.giver)) f.route f.takes_it in
          let less : h.pref < f.route.pref = k.above v b.0 g.0 b.1 g.1 b.2 g.2 (h.tag, h.pref) (f.route.tag, f.route.pref) b.3 g.3 in
          let least : f.route.pref ≤ h.pref = late.higher in
          absurd (omega (arith, less, least))

      pub is_first : IsFirst S w tS (NoLater k.s.net) o T v
      is_first = record {
        giver = f.giver;
        route = f.route;
        holds = o_new v f.route f.holds;
        among = among;
        lives = lives.0;
        takes_it = takes_it;
        first = λ u h c later. elim (conv v u h first_off c) [
          | inl a ↦ f.first u h a.0 later
          | inr b ↦ absurd (later_than u h b later)
        ];
      }

  -- ---- one after another

  step_on : (T2 : ℕ → Bool) (v : ℕ) → T2 v ≡ false → ((z : ℕ) → rests N (w2 k) z ≡ true → T2 z ≡ true)
      → IsFirst N (w2 k) tN (NoLater k.s.net) out2 T2 v ⊎ IsUnreached N (w2 k) tN (NoLater k.s.net) out2 T2 v → ClosedN T2 → ClosedN (λ z. T2 z || at v z)
  step_on T2 v off rest2 step closed =
      let router = (chooser_parts k.s.net k.new.policy k.new.config k.s.p (w2 k) v (false_from_ne_true (rests N (w2 k) v) (λ t. both_ways (T2 v) off (rest2 v t)))).0 in
      closed_on N (w2 k) tN (NoLater k.s.net) out2 (exported_none k.s.net k.new.config k.s.p) (taken_none k.s.net k.new.config k.s.p) T2 v router off step closed

  with_first : (T2 T : ℕ → Bool) (v : ℕ) → Inv T2 T → (y : Route) → out2 v ≡ Some y → ClosedN (λ z. T2 z || at v z) → Inv (λ z. T2 z || at v z) (λ z. T z || at v z)
  with_first T2 T v inv y holds closed = record {
    rest = λ z t. or_left (T z) (at v z) (inv.rest z t);
    rest2 = λ z t. or_left (T2 z) (at v z) (inv.rest2 z t);
    firsts = λ z h t e. elim (or_cases (T2 z) (at v z) t) [
      | inl before ↦ or_left (T z) (at v z) (inv.firsts z h before e)
      | inr here ↦ or_right (T z) (at v z) here
    ];
    back = λ z t. elim (or_cases (T z) (at v z) t) [
      | inl before ↦ elim (inv.back z before) [
        | inl rest ↦ inl rest
        | inr known ↦ inr (or_left (T2 z) (at v z) known.0, known.1)
      ]
      | inr here ↦ inr (or_right (T2 z) (at v z) here, (y, ap out2 (eqb-true z v here) ∙ holds))
    ];
    closed = closed;
  }

  without : (T2 T : ℕ → Bool) (v : ℕ) → Inv T2 T → out2 v ≡ None → ClosedN (λ z. T2 z || at v z) → Inv (λ z. T2 z || at v z) T
  without T2 T v inv none closed = record {
    rest = inv.rest;
    rest2 = λ z t. or_left (T2 z) (at v z) (inv.rest2 z t);
    firsts = λ z h t e. elim (or_cases (T2 z) (at v z) t) [
      | inl before ↦ inv.firsts z h before e
      | inr here ↦ absurd (none_or_some (out2 z) h (ap out2 (eqb-true z v here) ∙ none) e)
    ];
    back = λ z t. elim (inv.back z t) [
      | inl rest ↦ inl rest
      | inr known ↦ inr (or_left (T2 z) (at v z) known.0, known.1)
    ];
    closed = closed;
  }

  -- all that hold new routes, and then whatever order the rest has
  pub walk2 : ((T : ℕ → Bool) → Inv (λ z. true) T → AnOrder T) → (vs : List ℕ) (T2 T : ℕ → Bool) → Inv T2 T → IsOrder N (w2 k) tN (NoLater k.s.net) out2 T2 vs → AnOrder T
  walk2 more [] T2 T inv order = more T (subst (λ (Q : ℕ → Bool). Inv Q T) (λ i z. order z i) inv)
  walk2 more (v ∷ vs) T2 T inv order =
      let closed = step_on T2 v order.0 inv.rest2 order.1 inv.closed in
      elim order.1 [
        | inl f ↦ (
            let rest = walk2 more vs (λ z. T2 z || at v z) (λ z. T z || at v z) (with_first T2 T v inv f.route f.holds closed) order.2 in
            (v ∷ rest.0, (first_off T2 T inv v order.0 f, inl (is_first T2 T inv v order.0 f), rest.1)))
        | inr n ↦ walk2 more vs (λ z. T2 z || at v z) T (without T2 T v inv n.holds closed) order.2
      ]

  pub starts2 : Inv (rests N (w2 k)) (rests S w)
  starts2 = record {
    rest = λ z t. t;
    rest2 = λ z t. t;
    firsts = λ z y t e.
        let up = out2_up z y e in
        let origin = rester_origin k.s.net k.new.policy k.new.config k.s.p (w2 k) z t up.0 (or_from (w.down z) (off2 k z) up.1 up.2) in
        own_rests k.s.net (k.s.m z).policy (k.s.m z).config k.s.p w z (elim (cases_Bool (flipped k z)) [
          | inl flips ↦ ((k.between z).after flips).0.origin ∙ origin
          | inr not_yet ↦ absurd (both_ways (is_origin k.s.net k.new.policy k.s.p z)
              (or_parts (is_origin k.s.net k.old.policy k.s.p z) (is_origin k.s.net k.new.policy k.s.p z) ((off2_parts k z up.0 up.2).1 not_yet)).1 origin)
        ]);
    back = λ z t. inl t;
    closed = closed_at_first N (w2 k) tN (NoLater k.s.net) out2 (exported_none k.s.net k.new.config k.s.p) (taken_none k.s.net k.new.config k.s.p);
  }
