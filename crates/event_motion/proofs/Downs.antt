-- A link or a router that goes down is its moves.
use Rattle.std.proofs.Common.{◌≡◌, ℕ, Bool, true, false, ◌⊎◌, List, [], ◌∷◌, map, Option, None, refl, sym, ap, ◌∙◌, subst, inl, inr}
use Rattle.std.specs.Prelude.{◌&&◌, not, ◌==◌, option_map, if◌then◌else◌}
use Rattle.std.proofs.lemmas.Bool.{and_from, and_left, and_parts, cases_Bool, cond-true, cond-false, eq-eqb, eqb-true, false_from_ne_true, or_cases, or_left, or_parts, true≢false}
use Rattle.list_law.proofs.Members.{IsIn-map, IsIn-map_parts, list_any-from_IsIn, list_any_member}
use Rattle.net_base.specs.Locations.{neighbours}
use Rattle.net_base.specs.Network.{PlainNet, IsNet, linked}
use Rattle.net_base.specs.Prefixes.{PlainPrefix}
use Rattle.net_base.proofs.Neighbours.{linked_neighbour}
use Rattle.policy_base.specs.Policies.{PlainPolicy}
use Rattle.config_base.specs.declared.route.Route.{Route}
use Rattle.config_base.specs.Configs.{PlainConfig}
use Rattle.event_base.specs.declared.event.Event.TheVariants.{LinkDown, RouterDown}
use Rattle.event_base.specs.Steps.{step}
use Rattle.event_base.specs.World.{World, at, each_again as all_again, emptied, is, joins, live, touches, with_cut, with_down}
use Rattle.event_law.specs.Kept.{AreSpeakers, IsKept}
use Rattle.event_law.proofs.Keeping.{live_same_cut, live_same_down}
use Rattle.event_law.proofs.Quiet.{are_speakers}
use Rattle.outcome_base.specs.Announcements.{Announcements, FullRoute, Sent}
use Rattle.motion_law.specs.Events.{held_alone, sent_alone}
use Rattle.motion_law.specs.Motion.{Motion, Move, Move as move, live_in, moved}
use Rattle.event_motion.specs.Playing.{Corresponds, after, each_again, hears, moves_of, ways_from}
use Rattle.event_motion.proofs.Again.{AreAlike, Plays, plays, plays_each, plays_on}
use Rattle.event_motion.proofs.Picks.{AreGone}
use Rattle.event_motion.proofs.Says.{ArePlain, IsPlain, S}
use Rattle.event_motion.proofs.Sends.{among, apart}
use Rattle.event_motion.proofs.Forgetting.{HaveForgot, both_ways_of, cut_dead, down_dead, have_forgot, hears-named}

out_twice : {A : Type 0} (b : Bool) (n x : A) → (if b then n else (if b then n else x)) ≡ (if b then n else x)
out_twice true n x = refl
out_twice false n x = refl

none_out : (b : Bool) (o : Option Route) → IsPlain o → IsPlain (if b then None else o)
none_out true o p = λ m h. absurd (cc)
none_out false o p = p

module _ (net : PlainNet) (policy : PlainPolicy) (config : PlainConfig) (p : PlainPrefix) where
  module _ (rules : IsNet net) (e : World Route) (w : Motion) (k : IsKept (S net policy config p) e) (a : AreAlike net policy config p rules e w) where
    abbrev Played : World Route → List Move → Type 0
    Played d ms = Plays net policy config p rules d ms w

    abbrev alive : World Route → ℕ → ℕ → Bool
    alive d x y = live (S net policy config p) d x y

    abbrev So : List Move → Motion → Motion
    So = after net policy config p

    abbrev Alike : World Route → Motion → Type 0
    Alike = Corresponds net policy config p

    abbrev c : Corresponds net policy config p e w
    c = a.same

    abbrev speak : AreSpeakers (S net policy config p)
    speak = are_speakers net policy config p rules

    module _ (q : ℕ → ℕ → Bool) (d : World Route) where
      -- directions that are emptied, of which the others are live as before
      gone_out : ((x y : ℕ) → q x y ≡ false → alive d x y ≡ alive e x y) → d.heard ≡ e.heard → AreGone net policy config p rules (emptied (S net policy config p) q d)
      gone_out same heard x y off = elim (cases_Bool (q x y)) [
        | inl t ↦ cond-true (q x y) None (d.heard x y) t
        | inr f ↦ cond-false (q x y) None (d.heard x y) f ∙ ap (λ (h : ℕ → ℕ → Option Route). h x y) heard ∙ a.gone x y (sym (same x y f) ∙ off)
      ]

      plain_out : d.queued ≡ e.queued → ArePlain (emptied (S net policy config p) q d)
      plain_out queued x y = none_out (q x y) (d.queued x y) (subst (λ (h : ℕ → ℕ → Option Route). IsPlain (h x y)) (sym queued) (a.plain x y))

    pub link_down : (x y : ℕ) → Played (step (S net policy config p) (LinkDown x y) e) (moves_of net policy config p (LinkDown x y) w)
    link_down x y =
        plays_on net policy config p rules (all_again (S net policy config p) (x ∷ y ∷ []) d) ms (each_again net policy config p (So ms w) (x ∷ y ∷ [])) w one.0
        (plays_each net policy config p rules (x ∷ y ∷ []) d (So ms w) one.1)
      where
        ds : List (ℕ × ℕ)
        ds = (x, y) ∷ (y, x) ∷ []

        ms : List Move
        ms = move.link_down x y ∷ hears net policy config p ds

        d : World Route
        d = emptied (S net policy config p) (joins x y) (with_cut (S net policy config p) x y true e)

        v : Motion
        v = moved net policy config p (move.link_down x y) w

        dead : (u z : ℕ) → among ds u z ≡ true → live_in net policy config p v u z ≡ false
        dead u z t =
            cut_dead (linked net u z) (if joins x y u z then true else w.cut u z) (not (w.down u) && not (w.down z))
            (cond-true (joins x y u z) true (w.cut u z) (both_ways_of x y u z ∙ t))

        h : HaveForgot (among ds) v (So (hears net policy config p ds) v)
        h = have_forgot net policy config p ds v dead

        same : Alike d (So ms w)
        same = record {
          down = λ r. ap (λ (f : ℕ → Bool). f r) h.down ∙ c.down r;
          cut = λ u z. ap (λ (f : ℕ → ℕ → Bool). f u z) h.cut ∙ ap (λ b. if joins x y u z then true else b) (c.cut u z);
          says = λ u z. ap (λ (f : Announcements). f u z) h.says ∙ c.says u z;
          queue = λ u z.
              h.queue u z ∙ ap (λ b. if b then [] else (if joins x y u z then [] else w.queue u z)) (sym (both_ways_of x y u z)) ∙ out_twice (joins x y u z) [] (w.queue u z)
              ∙ ap (λ (q : List (Option Sent)). if joins x y u z then [] else q) (c.queue u z) ∙ apart (map (option_map sent_alone)) (joins x y u z) [] (e.queue u z);
          heard = λ u z.
              h.heard u z ∙ ap (λ b. if b then None else w.heard u z) (sym (both_ways_of x y u z))
              ∙ ap (λ (q : Option Sent). if joins x y u z then None else q) (c.heard u z) ∙ apart (option_map sent_alone) (joins x y u z) None (e.heard u z);
          queued = λ u z.
              h.queued u z ∙ ap (λ b. if b then None else (if joins x y u z then None else w.queued u z)) (sym (both_ways_of x y u z)) ∙ out_twice (joins x y u z) None (w.queued u z)
              ∙ ap (λ (q : Option Sent). if joins x y u z then None else q) (c.queued u z) ∙ apart (option_map sent_alone) (joins x y u z) None (e.queued u z);
          route = λ r. ap (λ (f : ℕ → Option FullRoute). f r) h.route ∙ c.route r;
        }

        one : Played d ms
        one =
            plays net policy config p rules e d ms w a (tt, hears-named net policy config p ds v) same (plain_out (joins x y) (with_cut (S net policy config p) x y true e) refl)
            (gone_out (joins x y) (with_cut (S net policy config p) x y true e) (λ u z f. live_same_cut (S net policy config p) speak x y u z true e f) refl)

    pub router_down : (r : ℕ) → Played (step (S net policy config p) (RouterDown r) e) (moves_of net policy config p (RouterDown r) w)
    router_down r =
        plays_on net policy config p rules (all_again (S net policy config p) (neighbours net r) d) ms (each_again net policy config p (So ms w) (neighbours net r)) w one.0
        (plays_each net policy config p rules (neighbours net r) d (So ms w) one.1)
      where
        ds : List (ℕ × ℕ)
        ds = ways_from net policy config p r

        ms : List Move
        ms = move.router_down r ∷ hears net policy config p ds

        d : World Route
        d = emptied (S net policy config p) (touches r) (with_down (S net policy config p) r true e)

        v : Motion
        v = moved net policy config p (move.router_down r) w

        begins : (u z : ℕ) → among ds u z ≡ true → touches r u z ≡ true
        begins u z t =
            let m = list_any_member (λ (q : ℕ × ℕ). is q.0 q.1 u z) ds t in
            let n = IsIn-map_parts (λ x. (r, x)) (neighbours net r) m.0 m.1 in
            let first : r ≡ m.0.0 = ap (λ (q : ℕ × ℕ). q.0) n.2 in
            or_left (u == r) (z == r) (ap (λ i. u == i) first ∙ (and_parts (u == m.0.0) (z == m.0.1) m.2).0)

        dead : (u z : ℕ) → among ds u z ≡ true → live_in net policy config p v u z ≡ false
        dead u z t = down_dead r u z (linked net u z) (w.cut u z) (λ l. if at r l then true else w.down l) (cond-true (at r r) true (w.down r) (eq-eqb r r refl)) (begins u z t)

        h : HaveForgot (among ds) v (So (hears net policy config p ds) v)
        h = have_forgot net policy config p ds v dead

        -- of what touches r nothing is left
        out : {A : Type 0} (u z : ℕ) (n x : A) → (if among ds u z then n else (if touches r u z then n else x)) ≡ (if touches r u z then n else x)
        out u z n x = elim (cases_Bool (among ds u z)) [
          | inl t ↦ cond-true (among ds u z) n (if touches r u z then n else x) t ∙ sym (cond-true (touches r u z) n x (begins u z t))
          | inr f ↦ cond-false (among ds u z) n (if touches r u z then n else x) f
        ]

        heard : (u z : ℕ) → (if among ds u z then None else (if at r z then None else w.heard u z)) ≡ option_map sent_alone (if touches r u z then None else e.heard u z)
        heard u z = elim (cases_Bool (touches r u z)) [
          | inr f ↦ (
              let parts = or_parts (u == r) (z == r) f in
              let off : among ds u z ≡ false = false_from_ne_true (among ds u z) (λ t. true≢false (sym (begins u z t) ∙ f)) in
              cond-false (among ds u z) None (if at r z then None else w.heard u z) off ∙ cond-false (at r z) None (w.heard u z) parts.1 ∙ c.heard u z
              ∙ ap (option_map sent_alone) (sym (cond-false (touches r u z) None (e.heard u z) f)))
          | inl t ↦ none t (cases_Bool (among ds u z)) (cases_Bool (at r z)) ∙ ap (option_map sent_alone) (sym (cond-true (touches r u z) None (e.heard u z) t))
        ]
          where
            none : touches r u z ≡ true → (among ds u z ≡ true) ⊎ (among ds u z ≡ false) → (at r z ≡ true) ⊎ (at r z ≡ false) → (if among ds u z then None else (if at r z then None else w.heard u z)) ≡ None
            none t (inl i) j = cond-true (among ds u z) None (if at r z then None else w.heard u z) i
            none t (inr i) (inl j) = cond-false (among ds u z) None (if at r z then None else w.heard u z) i ∙ cond-true (at r z) None (w.heard u z) j
            none t (inr i) (inr j) =
                let unheard : e.heard u z ≡ None = elim (cases_Bool (linked net u z)) [
                  | inr off ↦ a.gone u z (and_left (linked net u z) _ off)
                  | inl on ↦ absurd (true≢false (sym (member on (or_cases (u == r) (z == r) t)) ∙ i))
                ] in
                cond-false (among ds u z) None (if at r z then None else w.heard u z) i ∙ cond-false (at r z) None (w.heard u z) j ∙ c.heard u z ∙ ap (option_map sent_alone) unheard
              where
                member : linked net u z ≡ true → ((u == r) ≡ true) ⊎ ((z == r) ≡ true) → among ds u z ≡ true
                member on (inr k) = absurd (true≢false (sym k ∙ j))
                member on (inl k) =
                    let n = linked_neighbour net r z rules (ap (λ l. linked net l z) (sym (eqb-true u r k)) ∙ on) in
                    list_any-from_IsIn (λ (q : ℕ × ℕ). is q.0 q.1 u z) ds (r, z) (IsIn-map (λ x. (r, x)) (neighbours net r) z n) (and_from (u == r) (z == z) k (eq-eqb z z refl))

        same : Alike d (So ms w)
        same = record {
          down = λ l. ap (λ (f : ℕ → Bool). f l) h.down ∙ ap (λ b. if at r l then true else b) (c.down l);
          cut = λ u z. ap (λ (f : ℕ → ℕ → Bool). f u z) h.cut ∙ c.cut u z;
          says = λ u z. ap (λ (f : Announcements). f u z) h.says ∙ c.says u z;
          queue = λ u z.
              h.queue u z ∙ out u z [] (w.queue u z) ∙ ap (λ (q : List (Option Sent)). if touches r u z then [] else q) (c.queue u z) ∙ apart (map (option_map sent_alone)) (touches r u z) [] (e.queue u z);
          heard = λ u z. h.heard u z ∙ heard u z;
          queued = λ u z.
              h.queued u z ∙ out u z None (w.queued u z) ∙ ap (λ (q : Option Sent). if touches r u z then None else q) (c.queued u z) ∙ apart (option_map sent_alone) (touches r u z) None (e.queued u z);
          route = λ l. ap (λ (f : ℕ → Option FullRoute). f l) h.route ∙ ap (λ (q : Option FullRoute). if at r l then None else q) (c.route l) ∙ apart (option_map held_alone) (at r l) None (e.route l);
        }

        one : Played d ms
        one =
            plays net policy config p rules e d ms w a (tt, hears-named net policy config p ds v) same (plain_out (touches r) (with_down (S net policy config p) r true e) refl)
            (gone_out (touches r) (with_down (S net policy config p) r true e) (λ u z f. live_same_down (S net policy config p) speak r true e u z f) refl)
