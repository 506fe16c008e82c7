-- The opening and all events.
use Rattle.std.proofs.Common.{◌≡◌, ℕ, ◌<◌, ◌+◌, Bool, true, false, List, [], ◌∷◌, ◌++◌, length, Option, Some, None, refl, sym, ap, ◌∙◌, subst, inl, inr}
use Rattle.std.specs.Prelude.{◌&&◌, ◌||◌, ◌==◌, flat_map, if◌then◌else◌}
use Rattle.std.specs.List.{list_any}
use Rattle.std.proofs.Math.Bool.{and-true}
use Rattle.std.proofs.lemmas.Bool.{and_from, and_parts, cases_Bool, cond-true, cond-false, eq-eqb, eqb-true, lt-ltb, ltb-true, false_from_ne_true, or_left, true≢false}
use Rattle.list_law.proofs.Members.{IsIn-flat_map, IsIn-map, list_any-from_IsIn, list_any_member}
use Rattle.list_law.proofs.Truth.{if_same}
use Rattle.net_base.specs.Locations.{neighbours, numbers_below}
use Rattle.net_base.specs.Network.{PlainNet, IsNet, is_router, linked}
use Rattle.net_base.specs.Prefixes.{PlainPrefix}
use Rattle.net_base.proofs.Links.{linked_known}
use Rattle.net_base.proofs.Neighbours.{linked_neighbour}
use Rattle.net_base.proofs.NumbersBelow.{In-numbers_below, below_from_In}
use Rattle.policy_base.specs.Policies.{PlainPolicy}
use Rattle.config_base.specs.declared.route.Route.{Route}
use Rattle.config_base.specs.Configs.{PlainConfig}
use Rattle.event_base.specs.declared.event.Event.{Event}
use Rattle.event_base.specs.declared.event.EventFault.{EventFault}
use Rattle.event_base.specs.Steps.{before_all, fault_of, happens, opening, or_as_before, run, step}
use Rattle.event_base.specs.World.{Speakers, World, at, choice, is, live, offers, with_choice}
use Rattle.event_law.specs.Kept.{AreSpeakers, IsKept}
use Rattle.event_law.proofs.Keeping.{happens-keeps, opening-keeps}
use Rattle.event_law.proofs.Quiet.{are_speakers}
use Rattle.motion_law.specs.Motion.{Motion, Move, at_the_start, moved}
use Rattle.motion_law.proofs.Within.{start-kinds}
use Rattle.named_rest.proofs.Naming.{start-first}
use Rattle.event_motion.specs.Playing.{EventsAreMoves, after, choices, moves_from, moves_of, names, opening_moves, sends, unless_refused, ways_from}
use Rattle.event_motion.proofs.Again.{AreAlike, Plays, chosen, names-named, plays, plays_on}
use Rattle.event_motion.proofs.Says.{S}
use Rattle.event_motion.proofs.Sends.{among, sends-named, sends_tell, tell-plain}
use Rattle.event_motion.proofs.Steps.{plays_step}

module _ (net : PlainNet) (policy : PlainPolicy) (config : PlainConfig) (p : PlainPrefix) (rules : IsNet net) where
  abbrev Sp : Speakers Route
  Sp = S net policy config p

  abbrev So : List Move → Motion → Motion
  So = after net policy config p

  abbrev Alike : World Route → Motion → Type 0
  Alike = AreAlike net policy config p rules

  abbrev Played : World Route → List Move → Motion → Type 0
  Played = Plays net policy config p rules

  -- ---- the opening

  -- before any choice
  abbrev with_routes : (ℕ → Option Route) → World Route
  with_routes routes = record {
    down = λ r. false;
    cut = λ a b. false;
    silent = λ r q. false;
    queue = λ a b. [];
    heard = λ a b. None;
    queued = λ a b. None;
    route = routes;
  }

  abbrev first_choice : ℕ → Option Route
  first_choice r = choice Sp (with_routes (λ x. None)) r

  -- each of these chooses, one after another
  choices_made : (rs : List ℕ) (routes : ℕ → Option Route) (w : Motion) → Alike (with_routes routes) w
      → (new : ℕ → Option Route) × ((x : ℕ) → new x ≡ (if list_any (λ r. at r x) rs then first_choice x else routes x)) × Played (with_routes new) (choices net policy config p w rs) w
  choices_made [] routes w a = (routes, (λ x. refl), (tt, a))
  choices_made (r ∷ rs) routes w a =
      let e = with_routes routes in
      let v = moved net policy config p (names net policy config p w r) w in
      let one : Played (with_choice Sp r e) (names net policy config p w r ∷ []) w =
      plays net policy config p rules e (with_choice Sp r e) (names net policy config p w r ∷ []) w a (names-named net policy config p w r, tt) (chosen net policy config p rules e w r a) a.plain a.gone in
      let more = choices_made rs (λ x. if at r x then first_choice r else routes x) v one.1 in (
        more.0,
        (λ x. more.1 x ∙ each r x (list_any (λ r. at r x) rs) (routes x)),
        ((names-named net policy config p w r, more.2.0), more.2.1),
      )
    where
      each : (r x : ℕ) (b : Bool) (o : Option Route) → (if b then first_choice x else (if at r x then first_choice r else o)) ≡ (if at r x || b then first_choice x else o)
      each r x b o = elim (cases_Bool (at r x)) [
        | inl t ↦
            ap (λ (z : Option Route). if b then first_choice x else z) (cond-true (at r x) (first_choice r) o t ∙ ap first_choice (sym (eqb-true x r t)))
            ∙ if_same b (first_choice x) ∙ sym (cond-true (at r x || b) (first_choice x) o (or_left (at r x) b t))
        | inr f ↦
            ap (λ (z : Option Route). if b then first_choice x else z) (cond-false (at r x) (first_choice r) o f)
            ∙ ap (λ z. if z || b then first_choice x else o) (sym f)
      ]

  start-alike : Alike (with_routes (λ x. None)) (at_the_start net policy config p)
  start-alike = record {
    same = record { down = λ r. refl; cut = λ a b. refl; says = λ q r. refl; queue = λ a b. refl; heard = λ a b. refl; queued = λ a b. refl; route = λ r. refl };
    plain = λ a b m h. absurd (cc);
    gone = λ a b off. refl;
    kinds = start-kinds net policy config p rules;
    first = start-first net policy config p rules;
  }

  abbrev routers : List ℕ
  routers = numbers_below (length net.routers)

  listed : (x : ℕ) → list_any (λ r. at r x) routers ≡ is_router net x
  listed x = elim (cases_Bool (is_router net x)) [
    | inl t ↦ list_any-from_IsIn (λ r. at r x) routers x (In-numbers_below x (length net.routers) (ltb-true x (length net.routers) t)) (eq-eqb x x refl) ∙ sym t
    | inr f ↦ false_from_ne_true (list_any (λ r. at r x) routers) (λ h. (
        let m = list_any_member (λ r. at r x) routers h in
        let l = below_from_In m.0 (length net.routers) m.1 in
        let same : x ≡ m.0 = eqb-true x m.0 m.2 in
        true≢false (sym (lt-ltb x (length net.routers) (subst (λ z. z < length net.routers) (sym same) l)) ∙ f))) ∙ sym f
  ]

  -- all have chosen over nothing
  first_is : (x : ℕ) → (if is_router net x then first_choice x else None) ≡ (before_all Sp).route x
  first_is x = elim (cases_Bool (is_router net x)) [
    | inr f ↦ cond-false (is_router net x) (first_choice x) None f ∙ sym (cond-false (is_router net x) (Sp.choose x (λ u. None)) None f)
    | inl t ↦
        cond-true (is_router net x) (first_choice x) None t
        ∙ cond-true (is_router net x && true) (Sp.choose x (offers Sp (with_routes (λ z. None)) x)) None (and-true (is_router net x) ∙ t)
        ∙ ap (Sp.choose x) (λ i u. if_same (live Sp (with_routes (λ z. None)) u x) None i)
        ∙ sym (cond-true (is_router net x) (Sp.choose x (λ u. None)) None t)
  ]

  abbrev ds : List (ℕ × ℕ)
  ds = flat_map (ways_from net policy config p) (numbers_below (length net.routers + length net.peers))

  everywhere : (a b : ℕ) → linked net a b ≡ true → true ≡ among ds a b
  everywhere a b on =
      let known = linked_known net a b rules on in
      let at_a = In-numbers_below a (length net.routers + length net.peers) (ltb-true a (length net.routers + length net.peers) known.0) in
      let n = linked_neighbour net a b rules on in
      sym (list_any-from_IsIn (λ (d : ℕ × ℕ). is d.0 d.1 a b) ds (a, b)
      (IsIn-flat_map (ways_from net policy config p) (numbers_below (length net.routers + length net.peers)) a (a, b) at_a (IsIn-map (λ x. (a, x)) (neighbours net a) b n))
      (and_from (a == a) (b == b) (eq-eqb a a refl) (eq-eqb b b refl)))

  opened : Played (opening Sp) (opening_moves net policy config p) (at_the_start net policy config p)
  opened =
      let start = at_the_start net policy config p in
      let ms = choices net policy config p start routers in
      let made = choices_made routers (λ x. None) start start-alike in
      let routes : made.0 ≡ (before_all Sp).route = λ i x. (made.1 x ∙ ap (λ b. if b then first_choice x else None) (listed x) ∙ first_is x) i in
      let one : Alike (before_all Sp) (So ms start) = subst (λ (f : ℕ → Option Route). Alike (with_routes f) (So ms start)) routes made.2.1 in
      plays_on net policy config p rules (opening Sp) ms (sends net policy config p ds) start made.2.0
      (plays net policy config p rules (before_all Sp) (opening Sp) (sends net policy config p ds) (So ms start) one (sends-named net policy config p ds (So ms start))
      (sends_tell net policy config p ds (λ a b. true) (before_all Sp) (So ms start) one.same one.plain (λ a b owing. everywhere a b (and_parts (linked net a b) _ (and_parts _ _ owing).0).0))
      (tell-plain net policy config p (λ a b. true) (before_all Sp) one.plain) one.gone)

  -- ---- events

  abbrev speak : AreSpeakers Sp
  speak = are_speakers net policy config p rules

  plays_event : (x : Event) (e : World Route) (w : Motion) → IsKept Sp e → Alike e w → Played (happens Sp x e) (unless_refused net policy config p (fault_of Sp x e) (moves_of net policy config p x w)) w
  plays_event x e w k a = by (fault_of Sp x e) refl
    where
      by : (o : Option EventFault) → fault_of Sp x e ≡ o → Played (or_as_before o (step Sp x e) e) (unless_refused net policy config p o (moves_of net policy config p x w)) w
      by None none = plays_step net policy config p rules e w k a x none
      by (Some fault) refused = (tt, a)

  plays_all : (xs : List Event) (e : World Route) (w : Motion) → IsKept Sp e → Alike e w → Played (run Sp xs e) (moves_from net policy config p xs e w) w
  plays_all [] e w k a = (tt, a)
  plays_all (x ∷ xs) e w k a =
      let ms = unless_refused net policy config p (fault_of Sp x e) (moves_of net policy config p x w) in
      let one = plays_event x e w k a in
      plays_on net policy config p rules (run Sp xs (happens Sp x e)) ms (moves_from net policy config p xs (happens Sp x e) (So ms w)) w one.0
      (plays_all xs (happens Sp x e) (So ms w) (happens-keeps Sp speak x e k) one.1)

  pub all_played : (es : List Event) → Played (run Sp es (opening Sp)) (opening_moves net policy config p ++ moves_from net policy config p es (opening Sp) (So (opening_moves net policy config p) (at_the_start net policy config p))) (at_the_start net policy config p)
  all_played es =
      let start = at_the_start net policy config p in
      let ms = opening_moves net policy config p in
      plays_on net policy config p rules (run Sp es (opening Sp)) ms (moves_from net policy config p es (opening Sp) (So ms start)) start opened.0
      (plays_all es (opening Sp) (So ms start) (opening-keeps Sp speak) opened.1)

pub events_are_moves : EventsAreMoves
events_are_moves net policy config p es rules =
    let all = all_played net policy config p rules es in
    (all.0, all.1.same)
