-- Once the holders of new routes are settled, the others settle as in the network of the old side alone.
use Rattle.std.proofs.Common.{◌≡◌, ℕ, Bool, true, false, ◌||◌, ◌⊎◌, eqb, List, [], ◌∷◌, Option, Some, None, refl, sym, ap, ◌∙◌, subst, inl, inr}
use Rattle.std.specs.List.{list_any}
use Rattle.std.proofs.lemmas.Bool.{both_ways, cases_Bool, eqb-true, false_from_ne_true, not_from_true, or_cases, or_from, or_left, or_parts, or_right, true_from_ne_false}
use Rattle.list_law.proofs.Options.{cases_Option, none_or_some}
use Rattle.net_base.specs.declared.numbers.Tag.{Tag}
use Rattle.net_base.specs.Network.{is_router}
use Rattle.policy_base.specs.Governing.{is_origin}
use Rattle.config_base.specs.declared.route.Route.{Route}
use Rattle.config_base.specs.Lines.{own_route}
use Rattle.event_base.specs.Speaking.{speakers_of, taken_by}
use Rattle.event_base.specs.World.{Speakers, World, at, live}
use Rattle.event_law.proofs.First.{NoLater}
use Rattle.rest_law.specs.Orders.{Comes, Comes as comes, IsFirst, IsOrder, IsUnreached, Takes, at_rest, rests, said}
use Rattle.rest_law.proofs.Ending.{HasOrder}
use Rattle.rollout_base.specs.Lines.{GivesTag}
use Rattle.rollout_base.specs.Mixtures.{mixed}
use Rattle.rollout_law.proofs.Speaking.{exported_none, taken_none}
use Rattle.rollout_mixtures.proofs.Later.{AnOrder, ClosedN, Inv, N, S, new_from, out2_up, own2, tN, tS, tags2}
use Rattle.rollout_mixtures.proofs.Orders.{comes_lives, nothing_taken}
use Rattle.rollout_mixtures.proofs.Resters.{chooser_parts, dead_rests, is_chooser, own_at_rest, own_rests, peer_rests, rester_origin}
use Rattle.rollout_mixtures.proofs.Setting.{live_down, out_own, out_tags, out_up, peer_comes, peer_goes, router_comes, router_goes, up_of}
use Rattle.rollout_mixtures.proofs.Sides.{Given, given_tag}
use Rattle.rollout_mixtures.proofs.Two.{Two, earlier_side, flipped, has_new, has_old, later_side, off1, off1_from, off1_parts, off2, off2_from, off2_parts, w1, w2, waits}

module _ (k : Two) (out2 : ℕ → Option Route) (order2 : HasOrder k.s.net k.new.policy k.new.config k.s.p (w2 k) out2) (o : ℕ → Option Route)
    (o_rest : (r : ℕ) → rests (mixed k.s.net k.s.says k.s.p k.s.m) k.s.w r ≡ true → o r ≡ at_rest (mixed k.s.net k.s.says k.s.p k.s.m) k.s.w r)
    (o_new : (r : ℕ) (y : Route) → out2 r ≡ Some y → o r ≡ Some y)
    (out1 : ℕ → Option Route) (order1 : HasOrder k.s.net k.old.policy k.old.config k.s.p (w1 k out2) out1)
    (o_old : (r : ℕ) → rests (mixed k.s.net k.s.says k.s.p k.s.m) k.s.w r ≡ false → out2 r ≡ None → o r ≡ out1 r) where
  abbrev Sm : Speakers Route
  Sm = S k out2 order2 o o_rest o_new

  abbrev tm : Takes Route
  tm = tS k out2 order2 o o_rest o_new

  abbrev wm : World Route
  wm = k.s.w

  abbrev O : Speakers Route
  O = speakers_of k.s.net k.old.policy k.old.config k.s.p

  abbrev tO : Takes Route
  tO r u m = taken_by k.s.net k.old.config k.s.p r u m

  abbrev Nm : Speakers Route
  Nm = N k out2 order2 o o_rest o_new

  abbrev tn : Takes Route
  tn = tN k out2 order2 o o_rest o_new

  abbrev Old_gives : ℕ → Route → Type 0
  Old_gives v h = Given k.s.net k.s.p k.old v h

  abbrev Order_from : (ℕ → Bool) → Type 0
  Order_from T = AnOrder k out2 order2 o o_rest o_new T

  record Inv1 (T1 T : ℕ → Bool) : Type 0 where
    pub rest : (z : ℕ) → rests Sm wm z ≡ true → T z ≡ true
    pub holders : (z : ℕ) (y : Route) → out2 z ≡ Some y → T z ≡ true
    pub rest1 : (z : ℕ) → rests O (w1 k out2) z ≡ true → T1 z ≡ true
    pub ups : (z : ℕ) → T1 z ≡ true → rests O (w1 k out2) z ≡ false → T z ≡ true
    pub back : (z : ℕ) → T z ≡ true → ((y : Route) × (out2 z ≡ Some y)) ⊎ (T1 z ≡ true)

  -- an own route of the old side is the router's own in the mixture
  old_rester : (u : ℕ) → is_router k.s.net u ≡ true → wm.down u ≡ false → off1 k out2 u ≡ false → rests O (w1 k out2) u ≡ true → rests Sm wm u ≡ true
  old_rester u router up on rest =
      let origin = rester_origin k.s.net k.old.policy k.old.config k.s.p (w1 k out2) u rest router (or_from (wm.down u) (off1 k out2 u) up on) in
      own_rests k.s.net (k.s.m u).policy (k.s.m u).config k.s.p wm u (elim (cases_Bool (flipped k u)) [
        | inr not_yet ↦ ((k.between u).before not_yet).0.origin ∙ origin
        | inl flips ↦ absurd (both_ways (is_origin k.s.net k.old.policy k.s.p u)
            (or_parts (is_origin k.s.net k.old.policy k.s.p u) (is_origin k.s.net k.new.policy k.s.p u) ((off1_parts k out2 u router on).1 flips)).0 origin)
      ])

  waiting_on : (u : ℕ) → flipped k u ≡ false → out2 u ≡ None → off1 k out2 u ≡ false
  waiting_on u not_yet none = off1_from k out2 u ((k.between u).before not_yet).1 (λ flips. absurd (both_ways (flipped k u) not_yet flips)) none

  -- who holds no new route holds what it has on the old side
  holds_old : (u : ℕ) → is_router k.s.net u ≡ true → wm.down u ≡ false → out2 u ≡ None → o u ≡ out1 u
  holds_old u router up none = elim (cases_Bool (rests Sm wm u)) [
    | inr other ↦ o_old u other none
    | inl rest ↦ (
        let origin = rester_origin k.s.net (k.s.m u).policy (k.s.m u).config k.s.p wm u rest router up in
        elim (cases_Bool (flipped k u)) [
          | inl flips ↦ absurd (none_or_some (out2 u) (own_route k.s.net k.new.config k.s.p u) none (own2 k out2 order2 o o_rest o_new u router up flips origin).1)
          | inr not_yet ↦ (
              let starts = ((k.between u).before not_yet).0 in
              let mine = sym starts.origin ∙ origin in
              o_rest u rest ∙ own_at_rest k.s.net (k.s.m u).policy (k.s.m u).config k.s.p wm u router up origin
              ∙ ap (λ (t : Tag). Some (record { path = u ∷ []; tag = t; pref = 0 })) (starts.own mine)
              ∙ sym (out_own k.s k.old (has_old k) (flipped k) (off1 k out2) (earlier_side k out2) out1 order1 u router up (waiting_on u not_yet none) mine))
        ])
  ]

  module _ (closed : ClosedN k out2 order2 o o_rest o_new (λ z. true)) (T1 T : ℕ → Bool) (inv : Inv1 T1 T) where
    chooser : (v : ℕ) → T v ≡ false → (is_router k.s.net v ≡ true) × (wm.down v ≡ false) × (is_origin k.s.net (k.s.m v).policy k.s.p v ≡ false)
    chooser v f = chooser_parts k.s.net (k.s.m v).policy (k.s.m v).config k.s.p wm v (false_from_ne_true (rests Sm wm v) (λ t. both_ways (T v) f (inv.rest v t)))

    unheld : (v : ℕ) → T v ≡ false → out2 v ≡ None
    unheld v f = elim (cases_Option (out2 v)) [
      | inl none ↦ none
      | inr y ↦ absurd (both_ways (T v) f (inv.holders v y.0 y.1))
    ]

    -- nothing new comes to who isn't settled
    nothing_new : (v u : ℕ) (h : Route) → T v ≡ false → live Nm (w2 k) u v ≡ true → tn v u (said Nm (w2 k) u v (out2 u)) ≡ Some h → ⊥
    nothing_new v u h off up t =
        let c = chooser v off in
        let on = (live_down k.s k.new (has_new k) (waits k) (off2 k) (later_side k) u v up).2 in
        let other : is_origin k.s.net k.new.policy k.s.p v ≡ false = elim (cases_Bool (flipped k v)) [
          | inl flips ↦ sym ((k.between v).after flips).0.origin ∙ c.2
          | inr not_yet ↦ (or_parts (is_origin k.s.net k.old.policy k.s.p v) (is_origin k.s.net k.new.policy k.s.p v) ((off2_parts k v c.0 on).1 not_yet)).1
        ] in
        closed v u h (unheld v off) (is_chooser k.s.net k.new.policy k.new.config k.s.p (w2 k) v c.0 (or_from (wm.down v) (off2 k v) c.1 on) other) refl (comes.settled refl up t)

    old_from : (u v : ℕ) (y h : Route) → is_router k.s.net u ≡ true → T v ≡ false → off1 k out2 u ≡ false → GivesTag k.s.net k.s.p k.old u y.tag → live Sm wm u v ≡ true → tm v u (said Sm wm u v (Some y)) ≡ Some h
        → (live O (w1 k out2) u v ≡ true) × (tO v u (said O (w1 k out2) u v (Some y)) ≡ Some h) × Old_gives v h
    old_from u v y h from off on gives up t =
        let c = chooser v off in
        router_comes k.s k.old (has_old k) (flipped k) (off1 k out2) (earlier_side k out2) u v y h from c.0 on gives up
        (λ has none. off1_from k out2 v has (λ flips. or_from (is_origin k.s.net k.old.policy k.s.p v) (is_origin k.s.net k.new.policy k.s.p v) none
        (sym ((k.between v).after flips).0.origin ∙ c.2)) (unheld v off)) t

    abbrev Comes_old : ℕ → ℕ → Route → Type 0
    Comes_old v u h = Comes O (w1 k out2) tO out1 T1 v u h

    from_peer : (u v : ℕ) (h : Route) → is_router k.s.net u ≡ false → T v ≡ false → live Sm wm u v ≡ true → tm v u (said Sm wm u v (o u)) ≡ Some h → Comes_old v u h × Old_gives v h
    from_peer u v h off_net off up t = elim (cases_Bool (flipped k v)) [
      | inl flips ↦ (
          let on = off2_from k v ((k.between v).after flips).1 (λ not_yet. absurd (both_ways (flipped k v) not_yet flips)) in
          let a = peer_comes k.s k.new (has_new k) (waits k) (off2 k) (later_side k) u v (o u) (out2 u) h off_net (not_from_true (flipped k v) flips) on up t in
          absurd (nothing_new v u h off a.0 a.1))
      | inr not_yet ↦ (
          let a = peer_comes k.s k.old (has_old k) (flipped k) (off1 k out2) (earlier_side k out2) u v (o u) (out1 u) h off_net not_yet (waiting_on v not_yet (unheld v off)) up t in
          (comes.settled (inv.rest1 u (peer_rests k.s.net k.old.policy k.old.config k.s.p (w1 k out2) u off_net)) a.0 a.1, a.2))
    ]

    from_router : (u v : ℕ) (h : Route) → is_router k.s.net u ≡ true → T u ≡ true → T v ≡ false → live Sm wm u v ≡ true → tm v u (said Sm wm u v (o u)) ≡ Some h → Comes_old v u h × Old_gives v h
    from_router u v h from among off up t = elim (cases_Option (out2 u)) [
      | inr y ↦ (
          let a = out2_up k out2 order2 o o_rest o_new u y.0 y.1 in
          let c = chooser v off in
          let b = new_from k out2 order2 o o_rest o_new u v y.0 h a.0 c.0 c.2 a.2 (tags2 k out2 order2 o o_rest o_new u y.0 y.1) up
          (sym (ap (λ (z : Option Route). tm v u (said Sm wm u v z)) (o_new u y.0 y.1)) ∙ t) in
          absurd (nothing_new v u h off b.0 (ap (λ (z : Option Route). tn v u (said Nm (w2 k) u v z)) y.1 ∙ b.1)))
      | inl none ↦ (
          let alive = up_of k.s k.old (has_old k) (flipped k) (off1 k out2) (earlier_side k out2) u v up in
          let mine = sym (ap (λ (z : Option Route). tm v u (said Sm wm u v z)) (holds_old u from alive none)) ∙ t in
          elim (cases_Option (out1 u)) [
            | inl nor ↦ absurd (none_or_some (tm v u (said Sm wm u v (out1 u))) h
                (ap (λ (z : Option Route). tm v u (said Sm wm u v z)) nor
                ∙ nothing_taken Sm wm tm (NoLater k.s.net) o (λ a b. exported_none k.s.net (k.s.m a).config k.s.p a b) (λ a b. taken_none k.s.net (k.s.m a).config k.s.p a b) u v from) mine)
            | inr y ↦ (
                let on = out_up k.s k.old (has_old k) (flipped k) (off1 k out2) (earlier_side k out2) out1 order1 u y.0 y.1 in
                let gives = out_tags k.s k.old (has_old k) (flipped k) (off1 k out2) (earlier_side k out2) out1 order1 u y.0 y.1 in
                let b = old_from u v y.0 h from off on.2 gives up (sym (ap (λ (z : Option Route). tm v u (said Sm wm u v z)) y.1) ∙ mine) in
                let t1 : T1 u ≡ true = elim (inv.back u among) [
                  | inl held ↦ absurd (none_or_some (out2 u) held.0 none held.1)
                  | inr t1 ↦ t1
                ] in
                (comes.settled t1 b.0 (ap (λ (z : Option Route). tO v u (said O (w1 k out2) u v z)) y.1 ∙ b.1), b.2))
          ])
    ]

    -- what comes to an open router is old, and comes on the old side
    conv : (v u : ℕ) (h : Route) → T v ≡ false → Comes Sm wm tm o T v u h → Comes_old v u h × Old_gives v h
    conv v u h off (comes.settled among up t) = elim (cases_Bool (is_router k.s.net u)) [
      | inr off_net ↦ from_peer u v h off_net off up t
      | inl from ↦ from_router u v h from among off up t
    ]
    conv v u h off (comes.further {z = z} {g = g} other c up t) =
        let a = conv u z g other c in
        let on = (live_down k.s k.old (has_old k) (flipped k) (off1 k out2) (earlier_side k out2) z u
        (comes_lives O (w1 k out2) tO (NoLater k.s.net) out1 (exported_none k.s.net k.old.config k.s.p) (taken_none k.s.net k.old.config k.s.p) T1 u z g a.0)).2 in
        let b = old_from u v g h (chooser u other).0 off on (given_tag k.s.net k.s.p k.old u g a.1) up t in
        let open1 : T1 u ≡ false = false_from_ne_true (T1 u) (λ t1. elim (cases_Bool (rests O (w1 k out2) u)) [
          | inl rest ↦ both_ways (T u) other (inv.rest u (old_rester u (chooser u other).0 (chooser u other).1 on rest))
          | inr chooses ↦ both_ways (T u) other (inv.ups u t1 chooses)
        ]) in
        (comes.further {z = z} {g = g} open1 a.0 b.0 b.1, b.2)

    -- who is next on the old side
    module _ (v : ℕ) (off : T1 v ≡ false) where
      chooses : (is_router k.s.net v ≡ true) × (((w1 k out2).down v ≡ false) × (is_origin k.s.net k.old.policy k.s.p v ≡ false))
      chooses =
          (let c = chooser_parts k.s.net k.old.policy k.old.config k.s.p (w1 k out2) v (false_from_ne_true (rests O (w1 k out2) v) (λ t. both_ways (T1 v) off (inv.rest1 v t))) in
          (c.0, (c.1, c.2)))

      parts : (has_old k v ≡ true) × (flipped k v ≡ true → (is_origin k.s.net k.old.policy k.s.p v || is_origin k.s.net k.new.policy k.s.p v) ≡ false) × (out2 v ≡ None)
      parts = off1_parts k out2 v chooses.0 (or_parts (wm.down v) (off1 k out2 v) chooses.1.0).1

      unrested : rests Sm wm v ≡ false
      unrested =
          is_chooser k.s.net (k.s.m v).policy (k.s.m v).config k.s.p wm v chooses.0 (or_parts (wm.down v) (off1 k out2 v) chooses.1.0).0 (elim (cases_Bool (flipped k v)) [
            | inl flips ↦ ((k.between v).after flips).0.origin ∙ (or_parts (is_origin k.s.net k.old.policy k.s.p v) (is_origin k.s.net k.new.policy k.s.p v) (parts.1 flips)).1
            | inr not_yet ↦ ((k.between v).before not_yet).0.origin ∙ chooses.1.1
          ])

      open_here : T v ≡ false
      open_here = false_from_ne_true (T v) (λ t. elim (inv.back v t) [
        | inl held ↦ none_or_some (out2 v) held.0 parts.2 held.1
        | inr t1 ↦ both_ways (T1 v) off t1
      ])

      same_here : o v ≡ out1 v
      same_here = o_old v unrested parts.2

      unreached : IsUnreached O (w1 k out2) tO (NoLater k.s.net) out1 T1 v → IsUnreached Sm wm tm (NoLater k.s.net) o T v
      unreached n = record { holds = same_here ∙ n.holds; never = λ u h c. n.never u h (conv v u h open_here c).0 }

      module _ (f : IsFirst O (w1 k out2) tO (NoLater k.s.net) out1 T1 v) where
        lives : (live Sm wm f.giver v ≡ true) × (off1 k out2 f.giver ≡ false) × (off1 k out2 v ≡ false)
        lives = live_down k.s k.old (has_old k) (flipped k) (off1 k out2) (earlier_side k out2) f.giver v f.lives

        alive : wm.down f.giver ≡ false
        alive = up_of k.s k.old (has_old k) (flipped k) (off1 k out2) (earlier_side k out2) f.giver v lives.0

        giver_holds : is_router k.s.net f.giver ≡ true → (y : Route) × (out1 f.giver ≡ Some y)
        giver_holds router = elim (cases_Option (out1 f.giver)) [
          | inr y ↦ y
          | inl none ↦ absurd (none_or_some (tO v f.giver (said O (w1 k out2) f.giver v (out1 f.giver))) f.route
              (ap (λ (z : Option Route). tO v f.giver (said O (w1 k out2) f.giver v z)) none
              ∙ nothing_taken O (w1 k out2) tO (NoLater k.s.net) out1 (exported_none k.s.net k.old.config k.s.p) (taken_none k.s.net k.old.config k.s.p) f.giver v router) f.takes_it)
        ]

        among : T f.giver ≡ true
        among = elim (cases_Bool (is_router k.s.net f.giver)) [
          | inr off_net ↦ inv.rest f.giver (peer_rests k.s.net (k.s.m f.giver).policy (k.s.m f.giver).config k.s.p wm f.giver off_net)
          | inl router ↦ elim (cases_Bool (rests O (w1 k out2) f.giver)) [
            | inl rest ↦ inv.rest f.giver (old_rester f.giver router alive lives.1 rest)
            | inr other ↦ inv.ups f.giver f.among other
          ]
        ]

        takes_it : tm v f.giver (said Sm wm f.giver v (o f.giver)) ≡ Some f.route
        takes_it = elim (cases_Bool (is_router k.s.net f.giver)) [
          | inr off_net ↦ peer_goes k.s k.old (has_old k) (flipped k) (off1 k out2) (earlier_side k out2) f.giver v (out1 f.giver) (o f.giver) f.route off_net f.takes_it
          | inl router ↦ (
              let y = giver_holds router in
              let none = (off1_parts k out2 f.giver router lives.1).2 in
              ap (λ (z : Option Route). tm v f.giver (said Sm wm f.giver v z)) (holds_old f.giver router alive none ∙ y.1)
              ∙ router_goes k.s k.old (has_old k) (flipped k) (off1 k out2) (earlier_side k out2) f.giver v y.0 f.route router chooses.0 lives.1 lives.2
              (out_tags k.s k.old (has_old k) (flipped k) (off1 k out2) (earlier_side k out2) out1 order1 f.giver y.0 y.1)
              (sym (ap (λ (z : Option Route). tO v f.giver (said O (w1 k out2) f.giver v z)) y.1) ∙ f.takes_it))
        ]

        is_first : IsFirst Sm wm tm (NoLater k.s.net) o T v
        is_first = record {
          giver = f.giver;
          route = f.route;
          holds = same_here ∙ f.holds;
          among = among;
          lives = lives.0;
          takes_it = takes_it;
          first = λ u h c later. f.first u h (conv v u h open_here c).0 later;
        }

    -- who takes no part on the old side, and holds no new route, is never reached
    left_out : (v : ℕ) → T v ≡ false → T1 v ≡ true → IsUnreached Sm wm tm (NoLater k.s.net) o T v
    left_out v off t1 =
        let c = chooser v off in
        let rest : rests O (w1 k out2) v ≡ true = true_from_ne_false (rests O (w1 k out2) v) (λ other. both_ways (T v) off (inv.ups v t1 other)) in
        let never : off1 k out2 v ≡ false → ⊥ = λ on. both_ways (T v) off (inv.rest v (old_rester v c.0 c.1 on rest)) in
        record {
          holds = holds_old v c.0 c.1 (unheld v off) ∙ elim (cases_Option (out1 v)) [
            | inl none ↦ none
            | inr y ↦ absurd (never (out_up k.s k.old (has_old k) (flipped k) (off1 k out2) (earlier_side k out2) out1 order1 v y.0 y.1).2)
          ];
          never = λ u h d. never (live_down k.s k.old (has_old k) (flipped k) (off1 k out2) (earlier_side k out2) u v
              (comes_lives O (w1 k out2) tO (NoLater k.s.net) out1 (exported_none k.s.net k.old.config k.s.p) (taken_none k.s.net k.old.config k.s.p) T1 v u h (conv v u h off d).0)).2;
        }

  -- ---- one after another

  with_it : (T1 T : ℕ → Bool) (v : ℕ) → Inv1 T1 T → Inv1 (λ z. T1 z || at v z) (λ z. T z || at v z)
  with_it T1 T v inv = record {
    rest = λ z t. or_left (T z) (at v z) (inv.rest z t);
    holders = λ z y e. or_left (T z) (at v z) (inv.holders z y e);
    rest1 = λ z t. or_left (T1 z) (at v z) (inv.rest1 z t);
    ups = λ z t other. elim (or_cases (T1 z) (at v z) t) [
      | inl before ↦ or_left (T z) (at v z) (inv.ups z before other)
      | inr here ↦ or_right (T z) (at v z) here
    ];
    back = λ z t. elim (or_cases (T z) (at v z) t) [
      | inl before ↦ elim (inv.back z before) [
        | inl held ↦ inl held
        | inr t1 ↦ inr (or_left (T1 z) (at v z) t1)
      ]
      | inr here ↦ inr (or_right (T1 z) (at v z) here)
    ];
  }

  left_in : (T : ℕ → Bool) (v : ℕ) → Inv1 (λ z. true) T → Inv1 (λ z. true) (λ z. T z || at v z)
  left_in T v inv = record {
    rest = λ z t. or_left (T z) (at v z) (inv.rest z t);
    holders = λ z y e. or_left (T z) (at v z) (inv.holders z y e);
    rest1 = λ z t. refl;
    ups = λ z t other. or_left (T z) (at v z) (inv.ups z t other);
    back = λ z t. inr refl;
  }

  module _ (closed : ClosedN k out2 order2 o o_rest o_new (λ z. true)) (all : List ℕ) (listed : (u : ℕ) → is_router k.s.net u ≡ true → list_any (eqb u) all ≡ true) where
    finish : (vs : List ℕ) (T : ℕ → Bool) → Inv1 (λ z. true) T → ((u : ℕ) → T u ≡ false → list_any (eqb u) vs ≡ true) → Order_from T
    finish [] T inv there = ([], λ u. true_from_ne_false (T u) (λ f. both_ways false refl (there u f)))
    finish (v ∷ vs) T inv there = elim (cases_Bool (T v)) [
      | inl known ↦ finish vs T inv (λ u f. elim (or_cases (eqb u v) (list_any (eqb u) vs) (there u f)) [
        | inl here ↦ absurd (both_ways (T u) f (ap T (eqb-true u v here) ∙ known))
        | inr later ↦ later
      ])
      | inr off ↦ (
          let rest = finish vs (λ z. T z || at v z) (left_in T v inv) (λ u f.
          let parts = or_parts (T u) (at v u) f in
          elim (or_cases (eqb u v) (list_any (eqb u) vs) (there u parts.0)) [
            | inl here ↦ absurd (both_ways (at v u) parts.1 here)
            | inr later ↦ later
          ]) in
          (v ∷ rest.0, (off, inr (left_out closed (λ z. true) T inv v off refl), rest.1)))
    ]

    walk1 : (vs : List ℕ) (T1 T : ℕ → Bool) → Inv1 T1 T → IsOrder O (w1 k out2) tO (NoLater k.s.net) out1 T1 vs → Order_from T
    walk1 [] T1 T inv order =
        let done : Inv1 (λ z. true) T = subst (λ (Q : ℕ → Bool). Inv1 Q T) (λ i z. order z i) inv in
        finish all T done (λ u f. listed u (chooser closed (λ z. true) T done u f).0)
    walk1 (v ∷ vs) T1 T inv order =
        let rest = walk1 vs (λ z. T1 z || at v z) (λ z. T z || at v z) (with_it T1 T v inv) order.2 in
        let here : IsFirst Sm wm tm (NoLater k.s.net) o T v ⊎ IsUnreached Sm wm tm (NoLater k.s.net) o T v = elim order.1 [
          | inl f ↦ inl (is_first closed T1 T inv v order.0 f)
          | inr n ↦ inr (unreached closed T1 T inv v order.0 n)
        ] in
        (v ∷ rest.0, (open_here closed T1 T inv v order.0, here, rest.1))

    -- after all that hold new routes
    pub then_old : (T : ℕ → Bool) → Inv k out2 order2 o o_rest o_new (λ z. true) T → Order_from T
    then_old T inv = walk1 order1.routers (rests O (w1 k out2)) T (record {
      rest = inv.rest;
      holders = λ z y e. inv.firsts z y refl e;
      rest1 = λ z t. t;
      ups = λ z t other. absurd (both_ways (rests O (w1 k out2) z) other t);
      back = λ z t. elim (inv.back z t) [
        | inr known ↦ inl known.1
        | inl rest ↦ resting z rest
      ];
    }) order1.order
      where
        resting : (z : ℕ) → rests Sm wm z ≡ true → ((y : Route) × (out2 z ≡ Some y)) ⊎ (rests O (w1 k out2) z ≡ true)
        resting z rest = elim (cases_Bool (is_router k.s.net z)) [
          | inr off_net ↦ inr (peer_rests k.s.net k.old.policy k.old.config k.s.p (w1 k out2) z off_net)
          | inl router ↦ elim (cases_Bool (wm.down z)) [
            | inl down ↦ inr (dead_rests k.s.net k.old.policy k.old.config k.s.p (w1 k out2) z (or_left (wm.down z) (off1 k out2 z) down))
            | inr up ↦ (
                let origin = rester_origin k.s.net (k.s.m z).policy (k.s.m z).config k.s.p wm z rest router up in
                elim (cases_Bool (flipped k z)) [
                  | inl flips ↦ inl (own_route k.s.net k.new.config k.s.p z, (own2 k out2 order2 o o_rest o_new z router up flips origin).1)
                  | inr not_yet ↦ inr (own_rests k.s.net k.old.policy k.old.config k.s.p (w1 k out2) z (sym ((k.between z).before not_yet).0.origin ∙ origin))
                ])
          ]
        ]
