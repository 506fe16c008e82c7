-- Each event that isn't refused is its moves.
use Rattle.std.proofs.Common.{◌≡◌, ℕ, Bool, true, false, List, [], ◌∷◌, map, Option, Some, None, refl, sym, ap, ◌∙◌, subst, inl, inr}
use Rattle.std.specs.Prelude.{◌==◌, option_map, if◌then◌else◌}
use Rattle.std.proofs.Math.Bool.{and_comm}
use Rattle.std.proofs.lemmas.Bool.{and_parts, cases_Bool, cond-true, cond-false, eqb-true, true≢false}
use Rattle.list_law.proofs.Truth.{or_failed}
use Rattle.net_base.specs.Network.{PlainNet, IsNet, is_router, linked}
use Rattle.net_base.specs.Prefixes.{PlainPrefix}
use Rattle.policy_base.specs.Policies.{PlainPolicy}
use Rattle.config_base.specs.declared.route.Route.{Route}
use Rattle.config_base.specs.Configs.{PlainConfig}
use Rattle.event_base.specs.declared.event.Event.{Event}
use Rattle.event_base.specs.declared.event.Event.TheVariants.{Deliver, LinkDown, LinkUp, RouterDown, RouterUp, PeerSpeak, PeerSilent}
use Rattle.event_base.specs.declared.event.EventFault.TheVariants.{NothingWaits}
use Rattle.event_base.specs.Steps.{delivered, fault_of, if_there, step, unless_down, unless_waiting}
use Rattle.event_base.specs.World.{World, choose_again, is, live, received, tell, with_silent}
use Rattle.event_law.specs.Kept.{IsKept}
use Rattle.outcome_base.specs.Announcements.{Announced, Sent}
use Rattle.motion_law.specs.Events.{sent_alone}
use Rattle.motion_law.specs.Motion.{Motion, Move, Move as move, cleared, live_in, moved, next_heard}
use Rattle.event_motion.specs.Playing.{Corresponds, after, again, itself, moves_of, sends}
use Rattle.event_motion.proofs.Again.{AreAlike, Plays, plays, plays_again, plays_on}
use Rattle.event_motion.proofs.Picks.{AreGone}
use Rattle.event_motion.proofs.Says.{S, live_same}
use Rattle.event_motion.proofs.Sends.{apart, here, sends-named, sends_tell, tell-plain}
use Rattle.event_motion.proofs.Downs.{link_down, router_down}
use Rattle.event_motion.proofs.Ups.{link_up, router_up}

module _ (net : PlainNet) (policy : PlainPolicy) (config : PlainConfig) (p : PlainPrefix) where
  module _ (rules : IsNet net) (e : World Route) (w : Motion) (k : IsKept (S net policy config p) e) (a : AreAlike net policy config p rules e w) where
    abbrev Played : World Route → List Move → Type 0
    Played d ms = Plays net policy config p rules d ms w

    abbrev alive : World Route → ℕ → ℕ → Bool
    alive d x y = live (S net policy config p) d x y

    abbrev So : List Move → Motion → Motion
    So = after net policy config p

    abbrev Alike : World Route → Motion → Type 0
    Alike = Corresponds net policy config p

    abbrev c : Corresponds net policy config p e w
    c = a.same

    -- ---- messages

    deliver : (x y : ℕ) (ms : List (Option Route)) → e.queue x y ≡ ms → if_there (linked net x y) (unless_waiting ms) ≡ None → Played (delivered (S net policy config p) x y ms e) (moves_of net policy config p (Deliver x y) w)
    deliver x y [] q none = absurd (refused (linked net x y) none)
      where
        refused : (there : Bool) → if_there there (Some NothingWaits) ≡ None → ⊥
        refused true h = absurd (cc)
        refused false h = absurd (cc)
    deliver x y (m ∷ rest) q none =
        plays_on net policy config p rules (choose_again (S net policy config p) y d) (move.hear x y ∷ []) (again net policy config p (So (move.hear x y ∷ []) w) y) w (tt, tt)
        (plays_again net policy config p rules d (So (move.hear x y ∷ []) w) y one.1)
      where
        d : World Route
        d = received (S net policy config p) x y m rest e

        on : alive e x y ≡ true
        on = elim (cases_Bool (alive e x y)) [
          | inl t ↦ t
          | inr f ↦ (let clash : m ∷ rest ≡ [] = sym q ∙ (k.empty x y f).0 in absurd (cc))
        ]

        heard_is : So (move.hear x y ∷ []) w ≡ next_heard x y (option_map sent_alone m ∷ map (option_map sent_alone) rest) w
        heard_is =
            cond-true (live_in net policy config p w x y) (next_heard x y (w.queue x y) w) (cleared (is x y) (is x y) w) (live_same net policy config p e w c x y ∙ on)
            ∙ ap (λ (q : List (Option Sent)). next_heard x y q w) (c.queue x y ∙ ap (map (option_map sent_alone)) q)

        same : Alike d (next_heard x y (option_map sent_alone m ∷ map (option_map sent_alone) rest) w)
        same = record {
          down = c.down;
          cut = c.cut;
          says = c.says;
          queue = λ u v.
              ap (λ (z : List (Option Sent)). if is x y u v then map (option_map sent_alone) rest else z) (c.queue u v)
              ∙ apart (map (option_map sent_alone)) (is x y u v) rest (e.queue u v);
          heard = λ u v.
              ap (λ (z : Option Sent). if is x y u v then option_map sent_alone m else z) (c.heard u v)
              ∙ apart (option_map sent_alone) (is x y u v) m (e.heard u v);
          queued = c.queued;
          route = c.route;
        }

        gone : AreGone net policy config p rules d
        gone u v off = elim (cases_Bool (is x y u v)) [
          | inl t ↦ absurd (true≢false (sym (here (alive e) x y u v t ∙ on) ∙ off))
          | inr f ↦ cond-false (is x y u v) m (e.heard u v) f ∙ a.gone u v off
        ]

        one : Played d (move.hear x y ∷ [])
        one = plays net policy config p rules e d (move.hear x y ∷ []) w a (tt, tt) (subst (Alike d) (sym heard_is) same) a.plain gone

    -- ---- peers

    silent_is : (r peer : ℕ) (v : Bool) (o : Option Announced) → o ≡ (if v then None else itself net policy config p peer)
        → Played (tell (S net policy config p) (is peer r) (with_silent (S net policy config p) r peer v e)) (move.say peer r o ∷ sends net policy config p ((peer, r) ∷ []))
    silent_is r peer v o says_it =
        plays net policy config p rules e (tell (S net policy config p) (is peer r) d) (move.say peer r o ∷ sends net policy config p ((peer, r) ∷ [])) w a
        (tt, sends-named net policy config p ((peer, r) ∷ []) z)
        (sends_tell net policy config p ((peer, r) ∷ []) (is peer r) d z same a.plain (λ x y owing. sym (or_failed (is peer r x y) false refl)))
        (tell-plain net policy config p (is peer r) d a.plain) a.gone
      where
        d : World Route
        d = with_silent (S net policy config p) r peer v e

        z : Motion
        z = moved net policy config p (move.say peer r o) w

        turned : (x y : ℕ) → is peer r x y ≡ is r peer y x
        turned x y = and_comm (x == peer) (y == r)

        says : (x y : ℕ) → (if is peer r x y then o else w.says x y) ≡ (if (if is r peer y x then v else e.silent y x) then None else itself net policy config p x)
        says x y = elim (cases_Bool (is peer r x y)) [
          | inl t ↦
              cond-true (is peer r x y) o (w.says x y) t ∙ says_it
              ∙ ap (λ l. if v then None else itself net policy config p l) (sym (eqb-true x peer (and_parts (x == peer) (y == r) t).0))
              ∙ ap (λ b. if b then None else itself net policy config p x) (sym (cond-true (is r peer y x) v (e.silent y x) (sym (turned x y) ∙ t)))
          | inr f ↦
              cond-false (is peer r x y) o (w.says x y) f ∙ c.says x y
              ∙ ap (λ b. if b then None else itself net policy config p x) (sym (cond-false (is r peer y x) v (e.silent y x) (sym (turned x y) ∙ f)))
        ]

        same : Alike d z
        same = record { down = c.down; cut = c.cut; says = says; queue = c.queue; heard = c.heard; queued = c.queued; route = c.route }

    -- ---- all of them

    is_down : (there down : Bool) → if_there there (unless_down down) ≡ None → down ≡ true
    is_down true true h = refl
    is_down true false h = absurd (cc)
    is_down false down h = absurd (cc)

    pub plays_step : (x : Event) → fault_of (S net policy config p) x e ≡ None → Played (step (S net policy config p) x e) (moves_of net policy config p x w)
    plays_step (Deliver x y) none = deliver x y (e.queue x y) refl none
    plays_step (LinkDown x y) none = link_down net policy config p rules e w k a x y
    plays_step (LinkUp x y) none = link_up net policy config p rules e w k a x y (is_down (linked net x y) (e.cut x y) none)
    plays_step (RouterDown r) none = router_down net policy config p rules e w k a r
    plays_step (RouterUp r) none = router_up net policy config p rules e w k a r (is_down (is_router net r) (e.down r) none)
    plays_step (PeerSpeak r peer) none = silent_is r peer false (itself net policy config p peer) refl
    plays_step (PeerSilent r peer) none = silent_is r peer true None refl
