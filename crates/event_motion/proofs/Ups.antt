-- A link or a router that comes up is its moves.
use Rattle.std.proofs.Common.{◌≡◌, ℕ, Bool, true, false, ◌⊎◌, List, [], ◌∷◌, ◌++◌, map, Option, None, refl, sym, ap, ◌∙◌, inl, inr}
use Rattle.std.specs.Prelude.{◌&&◌, ◌||◌, not, ◌==◌, option_map, if◌then◌else◌}
use Rattle.std.proofs.lemmas.Bool.{and_from, and_parts, cases_Bool, cond-true, cond-false, eq-eqb, eqb-true, or_cases, or_left, or_right}
use Rattle.std.proofs.lemmas.List.Folds.{list_any-append}
use Rattle.list_law.proofs.Members.{IsIn-map, IsIn-map_parts, list_any-from_IsIn, list_any_member}
use Rattle.list_law.proofs.Truth.{same_tests}
use Rattle.net_base.specs.Locations.{neighbours}
use Rattle.net_base.specs.Network.{PlainNet, IsNet, linked}
use Rattle.net_base.specs.Prefixes.{PlainPrefix}
use Rattle.net_base.proofs.Links.{linked_flips}
use Rattle.net_base.proofs.Neighbours.{linked_neighbour}
use Rattle.policy_base.specs.Policies.{PlainPolicy}
use Rattle.config_base.specs.declared.route.Route.{Route}
use Rattle.config_base.specs.Configs.{PlainConfig}
use Rattle.event_base.specs.declared.event.Event.TheVariants.{LinkUp, RouterUp}
use Rattle.event_base.specs.Steps.{step}
use Rattle.event_base.specs.World.{World, at, choose_again, is, joins, live, tell, touches, with_cut, with_down}
use Rattle.event_law.specs.Kept.{AreSpeakers, IsKept}
use Rattle.event_law.proofs.Keeping.{live_same_cut, live_same_down}
use Rattle.event_law.proofs.Quiet.{are_speakers}
use Rattle.outcome_base.specs.Announcements.{FullRoute}
use Rattle.motion_law.specs.Events.{held_alone, sent_alone}
use Rattle.motion_law.specs.Motion.{Motion, Move, Move as move, cut_is, down_is, live_in, moved}
use Rattle.event_motion.specs.Playing.{Corresponds, after, again, moves_of, sends, ways_from, ways_to}
use Rattle.event_motion.proofs.Again.{AreAlike, Plays, plays, plays_again, plays_on}
use Rattle.event_motion.proofs.Picks.{AreGone}
use Rattle.event_motion.proofs.Says.{S}
use Rattle.event_motion.proofs.Sends.{among, apart, here, sends-named, sends_tell, tell-plain}
use Rattle.event_motion.proofs.Forgetting.{both_ways_of, cut_dead, down_dead}

module _ (net : PlainNet) (policy : PlainPolicy) (config : PlainConfig) (p : PlainPrefix) where
  module _ (rules : IsNet net) (e : World Route) (w : Motion) (k : IsKept (S net policy config p) e) (a : AreAlike net policy config p rules e w) where
    abbrev Played : World Route → List Move → Type 0
    Played d ms = Plays net policy config p rules d ms w

    abbrev alive : World Route → ℕ → ℕ → Bool
    alive d x y = live (S net policy config p) d x y

    abbrev So : List Move → Motion → Motion
    So = after net policy config p

    abbrev Alike : World Route → Motion → Type 0
    Alike = Corresponds net policy config p

    abbrev c : Corresponds net policy config p e w
    c = a.same

    abbrev speak : AreSpeakers (S net policy config p)
    speak = are_speakers net policy config p rules

    -- where these directions were dead, to begin them anew changes nothing
    module _ (q : ℕ → ℕ → Bool) (was : (x y : ℕ) → q x y ≡ true → alive e x y ≡ false) where
      anew_list : (x y : ℕ) → (if q x y then [] else w.queue x y) ≡ map (option_map sent_alone) (e.queue x y)
      anew_list x y = elim (cases_Bool (q x y)) [
        | inl t ↦ cond-true (q x y) [] (w.queue x y) t ∙ ap (map (option_map sent_alone)) (sym (k.empty x y (was x y t)).0)
        | inr f ↦ cond-false (q x y) [] (w.queue x y) f ∙ c.queue x y
      ]

      anew_heard : (x y : ℕ) → (if q x y then None else w.heard x y) ≡ option_map sent_alone (e.heard x y)
      anew_heard x y = elim (cases_Bool (q x y)) [
        | inl t ↦ cond-true (q x y) None (w.heard x y) t ∙ ap (option_map sent_alone) (sym (k.empty x y (was x y t)).1)
        | inr f ↦ cond-false (q x y) None (w.heard x y) f ∙ c.heard x y
      ]

      anew_queued : (x y : ℕ) → (if q x y then None else w.queued x y) ≡ option_map sent_alone (e.queued x y)
      anew_queued x y = elim (cases_Bool (q x y)) [
        | inl t ↦ cond-true (q x y) None (w.queued x y) t ∙ ap (option_map sent_alone) (sym (k.empty x y (was x y t)).2)
        | inr f ↦ cond-false (q x y) None (w.queued x y) f ∙ c.queued x y
      ]

    pub link_up : (x y : ℕ) → e.cut x y ≡ true → Played (step (S net policy config p) (LinkUp x y) e) (moves_of net policy config p (LinkUp x y) w)
    link_up x y was_cut =
        plays net policy config p rules e (tell (S net policy config p) (joins x y) d) (move.link_up x y ∷ sends net policy config p ds) w a (tt, sends-named net policy config p ds v)
        (sends_tell net policy config p ds (joins x y) d v same a.plain (λ u z owing. both_ways_of x y u z)) (tell-plain net policy config p (joins x y) d a.plain) gone
      where
        ds : List (ℕ × ℕ)
        ds = (x, y) ∷ (y, x) ∷ []

        d : World Route
        d = with_cut (S net policy config p) x y false e

        v : Motion
        v = moved net policy config p (move.link_up x y) w

        was : (u z : ℕ) → joins x y u z ≡ true → alive e u z ≡ false
        was u z t = cut_dead (linked net u z) (e.cut u z) (not (e.down u) && not (e.down z)) (cut (or_cases (is x y u z) (is y x u z) t))
          where
            cut : (is x y u z ≡ true) ⊎ (is y x u z ≡ true) → e.cut u z ≡ true
            cut (inl s) = here e.cut x y u z s ∙ was_cut
            cut (inr s) = here e.cut y x u z s ∙ k.both y x ∙ was_cut

        anew : ℕ → ℕ → Bool
        anew u z = joins x y u z && live_in net policy config p (cut_is x y false w) u z

        was_anew : (u z : ℕ) → anew u z ≡ true → alive e u z ≡ false
        was_anew u z t = was u z (and_parts (joins x y u z) _ t).0

        same : Alike d v
        same = record {
          down = c.down;
          cut = λ u z. ap (λ b. if joins x y u z then false else b) (c.cut u z);
          says = c.says;
          queue = anew_list anew was_anew;
          heard = anew_heard anew was_anew;
          queued = anew_queued anew was_anew;
          route = c.route;
        }

        gone : AreGone net policy config p rules d
        gone u z off = elim (cases_Bool (joins x y u z)) [
          | inl t ↦ a.gone u z (was u z t)
          | inr f ↦ a.gone u z (sym (live_same_cut (S net policy config p) speak x y u z false e f) ∙ off)
        ]

    pub router_up : (r : ℕ) → e.down r ≡ true → Played (step (S net policy config p) (RouterUp r) e) (moves_of net policy config p (RouterUp r) w)
    router_up r was_down =
        plays_on net policy config p rules (step (S net policy config p) (RouterUp r) e) (move.router_up r ∷ []) (again net policy config p v r ++ sends net policy config p ds) w (tt, tt)
        (plays_on net policy config p rules (step (S net policy config p) (RouterUp r) e) (again net policy config p v r) (sends net policy config p ds) v two.0 three)
      where
        ds : List (ℕ × ℕ)
        ds = ways_from net policy config p r ++ ways_to net policy config p r

        d : World Route
        d = with_down (S net policy config p) r false e

        v : Motion
        v = moved net policy config p (move.router_up r) w

        was : (u z : ℕ) → touches r u z ≡ true → alive e u z ≡ false
        was u z t = down_dead r u z (linked net u z) (e.cut u z) e.down was_down t

        anew : ℕ → ℕ → Bool
        anew u z = touches r u z && live_in net policy config p (down_is r false w) u z

        was_anew : (u z : ℕ) → anew u z ≡ true → alive e u z ≡ false
        was_anew u z t = was u z (and_parts (touches r u z) _ t).0

        same : Alike d v
        same = record {
          down = λ l. ap (λ b. if at r l then false else b) (c.down l);
          cut = c.cut;
          says = c.says;
          queue = anew_list anew was_anew;
          heard = anew_heard anew was_anew;
          queued = anew_queued anew was_anew;
          route = λ l. ap (λ (q : Option FullRoute). if at r l then None else q) (c.route l) ∙ apart (option_map held_alone) (at r l) None (e.route l);
        }

        gone : AreGone net policy config p rules d
        gone u z off = elim (cases_Bool (touches r u z)) [
          | inl t ↦ a.gone u z (was u z t)
          | inr f ↦ a.gone u z (sym (live_same_down (S net policy config p) speak r false e u z f) ∙ off)
        ]

        one : Played d (move.router_up r ∷ [])
        one = plays net policy config p rules e d (move.router_up r ∷ []) w a (tt, tt) same a.plain gone

        two : Plays net policy config p rules (choose_again (S net policy config p) r d) (again net policy config p v r) v
        two = plays_again net policy config p rules d v r one.1

        near : (u z : ℕ) → linked net u z ≡ true → touches r u z ≡ among ds u z
        near u z on = same_tests (touches r u z) (among ds u z) (λ t. list_any-append hit (ways_from net policy config p r) (ways_to net policy config p r) ∙ forth (or_cases (u == r) (z == r) t))
            (λ t. back (or_cases (among (ways_from net policy config p r) u z) (among (ways_to net policy config p r) u z) (sym (list_any-append hit (ways_from net policy config p r) (ways_to net policy config p r)) ∙ t)))
          where
            hit : ℕ × ℕ → Bool
            hit q = is q.0 q.1 u z

            forth : ((u == r) ≡ true) ⊎ ((z == r) ≡ true) → (among (ways_from net policy config p r) u z || among (ways_to net policy config p r) u z) ≡ true
            forth (inl i) =
                let n = linked_neighbour net r z rules (ap (λ l. linked net l z) (sym (eqb-true u r i)) ∙ on) in
                or_left _ (among (ways_to net policy config p r) u z)
                (list_any-from_IsIn hit (ways_from net policy config p r) (r, z) (IsIn-map (λ x. (r, x)) (neighbours net r) z n) (and_from (u == r) (z == z) i (eq-eqb z z refl)))
            forth (inr i) =
                let n = linked_neighbour net r u rules (ap (λ l. linked net l u) (sym (eqb-true z r i)) ∙ linked_flips net z u ∙ on) in
                or_right (among (ways_from net policy config p r) u z) _
                (list_any-from_IsIn hit (ways_to net policy config p r) (u, r) (IsIn-map (λ x. (x, r)) (neighbours net r) u n) (and_from (u == u) (z == r) (eq-eqb u u refl) i))

            back : (among (ways_from net policy config p r) u z ≡ true) ⊎ (among (ways_to net policy config p r) u z ≡ true) → touches r u z ≡ true
            back (inl t) =
                let m = list_any_member hit (ways_from net policy config p r) t in
                let n = IsIn-map_parts (λ x. (r, x)) (neighbours net r) m.0 m.1 in
                let first : r ≡ m.0.0 = ap (λ (q : ℕ × ℕ). q.0) n.2 in
                or_left (u == r) (z == r) (ap (λ i. u == i) first ∙ (and_parts (u == m.0.0) (z == m.0.1) m.2).0)
            back (inr t) =
                let m = list_any_member hit (ways_to net policy config p r) t in
                let n = IsIn-map_parts (λ x. (x, r)) (neighbours net r) m.0 m.1 in
                let second : r ≡ m.0.1 = ap (λ (q : ℕ × ℕ). q.1) n.2 in
                or_right (u == r) (z == r) (ap (λ i. z == i) second ∙ (and_parts (u == m.0.0) (z == m.0.1) m.2).1)

        three : Plays net policy config p rules (tell (S net policy config p) (touches r) (choose_again (S net policy config p) r d)) (sends net policy config p ds) (So (again net policy config p v r) v)
        three =
            let b = two.1 in
            let d2 = choose_again (S net policy config p) r d in
            plays net policy config p rules d2 (tell (S net policy config p) (touches r) d2) (sends net policy config p ds) (So (again net policy config p v r) v) b
            (sends-named net policy config p ds (So (again net policy config p v r) v))
            (sends_tell net policy config p ds (touches r) d2 (So (again net policy config p v r) v) b.same b.plain (λ u z owing. near u z (and_parts (linked net u z) _ (and_parts _ _ owing).0).0))
            (tell-plain net policy config p (touches r) d2 b.plain) b.gone
