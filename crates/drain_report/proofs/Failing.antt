-- A quiet world where a link or router has failed, before anybody chooses again: who is up still holds its choice, and all were told.
use Rattle.std.proofs.Common.{◌≡◌, ℕ, ◌<◌, Bool, true, false, not, ◌&&◌, ◌||◌, List, [], ◌∷◌, length, Option, Some, None, refl, sym, ap, ◌∙◌, inl, inr, subst, arith}
use Rattle.std.specs.Prelude.{◌==◌, ◌+◌, if◌then◌else◌}
use Rattle.std.proofs.lemmas.Bool.{and_from, and_parts, cases_Bool, cond-false, cond-true, eq-eqb, eqb-true, ltb-true, not_from_false, or_parts, true≢false}
use Rattle.list_law.proofs.Options.{cases_Option, none_or_some, unless_parts, when_parts}
use Rattle.list_law.proofs.Truth.{same_tests}
use Rattle.net_base.specs.Network.{PlainNet, IsNet, is_router, linked}
use Rattle.net_base.specs.Numbers.{no_tag}
use Rattle.net_base.specs.Prefixes.{PlainPrefix}
use Rattle.net_base.proofs.Links.{linked_known}
use Rattle.policy_base.specs.Governing.{is_origin}
use Rattle.policy_base.specs.Policies.{PlainPolicy}
use Rattle.config_base.specs.declared.route.Route.{Route}
use Rattle.config_base.specs.Configs.{PlainConfig}
use Rattle.evidence_law.proofs.Existence.{held}
use Rattle.evidence_law.proofs.Hops.{begins}
use Rattle.outcome_base.specs.Outcomes.{Failures, Outcome, IsStable, route_at}
use Rattle.routing_law.specs.Network.{giver}
use Rattle.settled_law.proofs.Fully.{names_differ}
use Rattle.event_base.specs.Speaking.{announced_by, chosen_by, exported_by, speakers_of, taken_by}
use Rattle.event_base.specs.Steps.{IsQuiet}
use Rattle.event_base.specs.World.{Speakers, World, at, choice, emptied, exported, joins, live, offers, running, touches, with_cut, with_down}
use Rattle.event_law.specs.Kept.{IsKept, last_of}
use Rattle.event_law.proofs.Still.{IsStill}
use Rattle.rest_law.specs.Orders.{AreChoosers}
use Rattle.rest_law.proofs.Choosers.{are_choosers, sent_parts, taken_parts}
use Rattle.event_law.specs.Scenarios.{routes_of}
use Rattle.event_law.proofs.First.{NoLater}
use Rattle.event_law.proofs.Waiting.{same_routes}
use Rattle.impact_law.specs.Cuts.{is_cut}
use Rattle.impact_law.specs.declared.impact.Cut.{Cut}
use Rattle.impact_law.specs.declared.impact.Cut.TheVariants.{Link, Router}
use Rattle.drain_report.specs.Uses.{IsOffRoutes, goes_over}
use Rattle.drain_report.proofs.Cutting.{cuts_flip, cuts_off, joins_turns, step_off}

-- the directions that fail
abbrev pub touched : Cut → ℕ → ℕ → Bool
touched (Link a b) x y = joins a b x y
touched (Router r) x y = touches r x y

abbrev pub failed : {R : Type 0} → Speakers R → Cut → World R → World R
failed net (Link a b) w = emptied net (joins a b) (with_cut net a b true w)
failed net (Router r) w = emptied net (touches r) (with_down net r true w)

turned : (a b : ℕ) → (a == b) ≡ (b == a)
turned a b = same_tests (a == b) (b == a) (λ e. eq-eqb b a (sym (eqb-true a b e))) (λ e. eq-eqb a b (sym (eqb-true b a e)))

touched_off : (cut : Cut) (x y : ℕ) → touched cut x y ≡ cuts_off cut x y
touched_off (Link a b) x y = joins_turns a b (x, y)
touched_off (Router r) x y = ap (λ t. t || (y == r)) (turned x r) ∙ ap (λ t. (r == x) || t) (turned y r)

-- ---- what lives after it lived before

link_was : (l t c d e : Bool) → (l && (not (if t then true else c) && (not d && not e))) ≡ true → ((l && (not c && (not d && not e))) ≡ true) × (t ≡ false)
link_was l false c d e h = (h, refl)
link_was l true c d e h = absurd (true≢false (sym (and_parts l false h).1))

end_was : (l c i d k e : Bool) → (l && (not c && (not (if i then true else d) && not (if k then true else e)))) ≡ true → ((l && (not c && (not d && not e))) ≡ true) × ((i || k) ≡ false)
end_was l c false d false e h = (h, refl)
end_was l c true d k e h = absurd (true≢false (sym (and_parts (not c) false (and_parts l (not c && false) h).1).1))
end_was l c false d true e h = absurd (true≢false (sym (and_parts (not d) false (and_parts (not c) (not d && false) (and_parts l (not c && (not d && false)) h).1).1).1))

link_stays : (l t c d e : Bool) → t ≡ false → (l && (not c && (not d && not e))) ≡ true → (l && (not (if t then true else c) && (not d && not e))) ≡ true
link_stays l false c d e t h = h
link_stays l true c d e t h = absurd (true≢false t)

end_stays : (l c i d k e : Bool) → (i || k) ≡ false → (l && (not c && (not d && not e))) ≡ true → (l && (not c && (not (if i then true else d) && not (if k then true else e)))) ≡ true
end_stays l c false d false e t h = h
end_stays l c true d k e t h = absurd (true≢false t)
end_stays l c false d true e t h = absurd (true≢false t)

module _ {R : Type 0} (net : Speakers R) (w : World R) where
  live_was : (cut : Cut) (x y : ℕ) → live net (failed net cut w) x y ≡ true → (live net w x y ≡ true) × (touched cut x y ≡ false)
  live_was (Link a b) x y h = link_was (net.linked x y) (joins a b x y) (w.cut x y) (w.down x) (w.down y) h
  live_was (Router r) x y h = end_was (net.linked x y) (w.cut x y) (at r x) (w.down x) (at r y) (w.down y) h

  live_stays : (cut : Cut) (x y : ℕ) → touched cut x y ≡ false → live net w x y ≡ true → live net (failed net cut w) x y ≡ true
  live_stays (Link a b) x y t h = link_stays (net.linked x y) (joins a b x y) (w.cut x y) (w.down x) (w.down y) t h
  live_stays (Router r) x y t h = end_stays (net.linked x y) (w.cut x y) (at r x) (w.down x) (at r y) (w.down y) t h

  up_was : (b d : Bool) (i : Bool) → (b && not (if i then true else d)) ≡ true → ((b && not d) ≡ true) × (i ≡ false)
  up_was b d false h = (h, refl)
  up_was b d true h = absurd (true≢false (sym (and_parts b false h).1))

  running_was : (cut : Cut) (x : ℕ) → running net (failed net cut w) x ≡ true → (running net w x ≡ true) × (is_cut cut x ≡ false)
  running_was (Link a b) x h = (h, refl)
  running_was (Router r) x h = (let up = up_was (net.is_router x) (w.down x) (at r x) h in (up.0, turned r x ∙ up.1))

  -- what isn't of it stays
  route_stays : (cut : Cut) (x : ℕ) → is_cut cut x ≡ false → (failed net cut w).route x ≡ w.route x
  route_stays (Link a b) x other = refl
  route_stays (Router r) x other = cond-false (at r x) None (w.route x) (turned x r ∙ other)

  heard_stays : (cut : Cut) (x y : ℕ) → touched cut x y ≡ false → (failed net cut w).heard x y ≡ w.heard x y
  heard_stays (Link a b) x y off = cond-false (joins a b x y) None (w.heard x y) off
  heard_stays (Router r) x y off = cond-false (touches r x y) None (w.heard x y) off

  queued_stays : (cut : Cut) (x y : ℕ) → touched cut x y ≡ false → (failed net cut w).queued x y ≡ w.queued x y
  queued_stays (Link a b) x y off = cond-false (joins a b x y) None (w.queued x y) off
  queued_stays (Router r) x y off = cond-false (touches r x y) None (w.queued x y) off

  exported_stays : (cut : Cut) (x y : ℕ) → is_cut cut x ≡ false → exported net (failed net cut w) x y ≡ exported net w x y
  exported_stays (Link a b) x y other = refl
  exported_stays (Router r) x y other =
      ap (λ o. if net.is_router x then net.export x y o else (if w.silent y x then None else net.announced x)) (route_stays (Router r) x other)

  pub failed_quiet : IsQuiet w → (cut : Cut) → IsQuiet (failed net cut w)
  failed_quiet quiet (Link a b) x y = emptied_quiet (joins a b x y) (w.queue x y) (quiet x y)
    where
      emptied_quiet : (t : Bool) (q : List (Option R)) → q ≡ [] → (if t then [] else q) ≡ []
      emptied_quiet true q e = refl
      emptied_quiet false q e = e
  failed_quiet quiet (Router r) x y = emptied_quiet (touches r x y) (w.queue x y) (quiet x y)
    where
      emptied_quiet : (t : Bool) (q : List (Option R)) → q ≡ [] → (if t then [] else q) ≡ []
      emptied_quiet true q e = refl
      emptied_quiet false q e = e

end_other : (cut : Cut) (x y : ℕ) → touched cut x y ≡ false → is_cut cut x ≡ false
end_other (Link a b) x y off = refl
end_other (Router r) x y off = (or_parts (r == x) (r == y) (sym (touched_off (Router r) x y) ∙ off)).0

module _ (net : PlainNet) (policy : PlainPolicy) (config : PlainConfig) (p : PlainPrefix) (rules : IsNet net) (w : World Route) (kept : IsKept (speakers_of net policy config p) w) (quiet : IsQuiet w)
    (f : Failures) (stable : IsStable net policy config f p (routes_of net w)) (cut : Cut) (off : IsOffRoutes net (routes_of net w) cut) where
  abbrev S : Speakers Route
  S = speakers_of net policy config p

  abbrev after : World Route
  after = failed S cut w

  abbrev choosers : AreChoosers S (taken_by net config p) (NoLater net) (λ h. length h.path)
  choosers = are_choosers net policy config p rules

  abbrev gives : World Route → ℕ → ℕ → Option Route
  gives v r u = taken_by net config p r u (offers S v r u)

  at_router : (r : ℕ) → is_router net r ≡ true → route_at (routes_of net w) r ≡ w.route r
  at_router r router = ap (λ (o : Outcome). route_at o r) (sym (same_routes net w)) ∙ held net w.route r router

  -- what was heard is what was sent
  heard_sent : (u r : ℕ) → live S w u r ≡ true → w.heard u r ≡ exported S w u r
  heard_sent u r on = ap (λ (q : List (Option Route)). last_of S q (w.heard u r)) (sym (quiet u r)) ∙ kept.last u r on ∙ kept.told u r on refl

  -- what is sent begins with the sender
  sent_begins : (u r : ℕ) (m : Route) → exported S w u r ≡ Some m → (rest : List ℕ) × (m.path ≡ u ∷ rest)
  sent_begins u r m e = elim (cases_Bool (is_router net u)) [
    | inl router ↦
        let x =
        sent_parts net policy config p u r (w.route u) m
        (sym (cond-true (is_router net u) (exported_by net config p u r (w.route u)) (if w.silent r u then None else announced_by net policy p u) router) ∙ e) in
        let y = begins net policy config f p (routes_of net w) rules stable u x.0 router (at_router u router ∙ x.1) in
        (y.0, x.2 ∙ y.1)
    | inr other ↦
        let said = sym (cond-false (is_router net u) (exported_by net config p u r (w.route u)) (if w.silent r u then None else announced_by net policy p u) other) ∙ e in
        let loud = unless_parts (w.silent r u) (announced_by net policy p u) m said in
        let own = when_parts (is_origin net policy p u) (Some (record { path = u ∷ []; tag = no_tag; pref = 0 })) m loud.1 in
        ([], alone u m own.1)
  ]
    where
      alone : (u : ℕ) (m : Route) → Some (record { path = u ∷ []; tag = no_tag; pref = 0 }) ≡ Some m → m.path ≡ u ∷ []
      alone u m e = cc

  -- what a neighbour gives comes over a live session, and goes over it
  gift : (v : World Route) (r u : ℕ) (h : Route) → gives v r u ≡ Some h → (live S v u r ≡ true) × (m : Route) × (v.heard u r ≡ Some m) × (h.path ≡ r ∷ m.path)
  gift v r u h e =
      let x = taken_parts net policy config p r u (offers S v r u) h e in
      let y = when_parts (live S v u r) (v.heard u r) x.1 x.2 in
      (y.0, x.1, y.1, x.4)

  gift_path : (r u : ℕ) (h : Route) → gives w r u ≡ Some h → (rest : List ℕ) × (h.path ≡ r ∷ u ∷ rest)
  gift_path r u h e =
      let x = gift w r u h e in
      let y = sent_begins u r x.1 (sym (heard_sent u r x.0) ∙ x.2) in
      (y.0, x.3 ∙ ap (λ (q : List ℕ). r ∷ q) y.1)

  -- over what lives each gives what it gave
  gives_same : (r u : ℕ) → live S after u r ≡ true → gives after r u ≡ gives w r u
  gives_same r u on =
      let was = live_was S w cut u r on in
      ap (taken_by net config p r u) (cond-true (live S after u r) (after.heard u r) None on ∙ heard_stays S w cut u r was.1 ∙ sym (cond-true (live S w u r) (w.heard u r) None was.0))

  gave : (r u : ℕ) (h : Route) → gives after r u ≡ Some h → gives w r u ≡ Some h
  gave r u h e = sym (gives_same r u (gift after r u h e).0) ∙ e

  -- of two routes that come no later than each other both come from one neighbour
  one_place : (a b : ℕ) (g h : Route) → a < length net.routers + length net.peers → b < length net.routers + length net.peers → NoLater net (a, g) (b, h) → NoLater net (b, h) (a, g) → a ≡ b
  one_place a b g h low_a low_b x y =
      let pref : g.pref ≡ h.pref = omega (arith, x.higher, y.higher) in
      let one = x.fewer (sym pref) in
      let other = y.fewer pref in
      let size : length g.path ≡ length h.path = omega (arith, one, other) in
      let up = x.lower (sym pref) size in
      let down = y.lower pref (sym size) in
      names_differ net (λ l. false) rules a b low_a low_b (omega (arith, up, down))

  known : (v : World Route) (u r : ℕ) → live S v u r ≡ true → u < length net.routers + length net.peers
  known v u r on = ltb-true u (length net.routers + length net.peers) (linked_known net u r rules (and_parts (linked net u r) _ on).0).0

  -- ---- each router that is up still makes its choice

  module _ (r : ℕ) (runs : running S after r ≡ true) (no_own : chosen_by net policy config p r (λ u. None) ≡ None) where
    -- it held a route
    held_chosen : (h : Route) → w.route r ≡ Some h → chosen_by net policy config p r (offers S w r) ≡ Some h → chosen_by net policy config p r (offers S after r) ≡ Some h
    held_chosen h at chose =
        let was = running_was S w cut r runs in
        let router = (and_parts (is_router net r) (not (w.down r)) was.0).0 in
        let by = choosers.given r (offers S w r) h no_own chose in
        let u = by.0 in
        let path = gift_path r u h by.1 in
        let clear = off r h (and_from (is_router net r) (not (is_cut cut r)) router (not_from_false _ was.1)) (at_router r router ∙ at) in
        let apart = step_off cut r u path.0 (subst (λ (q : List ℕ). goes_over cut q ≡ false) path.1 clear) in
        let on = live_stays S w cut u r (touched_off cut u r ∙ cuts_flip cut u r ∙ apart) (gift w r u h by.1).0 in
        let mine : gives after r u ≡ Some h = gives_same r u on ∙ by.1 in
        let x = choosers.first r u (offers S after r) h no_own (and_parts (linked net u r) _ on).0 mine in
        let back = gave r x.0.0 x.0.1 x.2 in
        let lives = (gift w r x.0.0 x.0.1 back).0 in
        let y = choosers.first r x.0.0 (offers S w r) x.0.1 no_own (and_parts (linked net x.0.0 r) _ lives).0 back in
        let same_route : y.0.1 ≡ h = (let e : Some y.0.1 ≡ Some h = sym y.1 ∙ chose in cc) in
        let path_y = gift_path r y.0.0 y.0.1 y.2 in
        let same_giver : y.0.0 ≡ u = ap giver (sym path_y.1 ∙ ap (λ (z : Route). z.path) same_route ∙ path.1) in
        let first_held : NoLater net (u, h) x.0 = subst (λ (a : ℕ × Route). NoLater net a x.0) (λ i. (same_giver i, same_route i)) y.3 in
        let same = one_place x.0.0 u x.0.1 h (known after x.0.0 r (gift after r x.0.0 x.0.1 x.2).0) (known w u r (gift w r u h by.1).0) x.3 first_held in
        let is : Some x.0.1 ≡ Some h = sym x.2 ∙ ap (gives after r) same ∙ mine in
        x.1 ∙ is

    -- it held none
    none_chosen : chosen_by net policy config p r (offers S w r) ≡ None → chosen_by net policy config p r (offers S after r) ≡ None
    none_chosen none = elim (cases_Option (chosen_by net policy config p r (offers S after r))) [
      | inl still ↦ still
      | inr h ↦
          let by = choosers.given r (offers S after r) h.0 no_own h.1 in
          let back = gave r by.0 h.0 by.1 in
          let y = choosers.first r by.0 (offers S w r) h.0 no_own (and_parts (linked net by.0 r) _ (gift w r by.0 h.0 back).0).0 back in
          absurd (none_or_some (chosen_by net policy config p r (offers S w r)) y.0.1 none y.1)
    ]

    others_chosen : w.route r ≡ chosen_by net policy config p r (offers S w r) → chosen_by net policy config p r (offers S after r) ≡ w.route r
    others_chosen is = elim (cases_Option (w.route r)) [
      | inl none ↦ none_chosen (sym is ∙ none) ∙ sym none
      | inr h ↦ held_chosen h.0 h.1 (sym is ∙ h.1) ∙ sym h.1
    ]

  chosen_still : (r : ℕ) → running S after r ≡ true → after.route r ≡ choice S after r
  chosen_still r runs =
      let was = running_was S w cut r runs in
      let is : w.route r ≡ chosen_by net policy config p r (offers S w r) = kept.chosen r refl ∙ cond-true (running S w r) (chosen_by net policy config p r (offers S w r)) None was.0 in
      let same : chosen_by net policy config p r (offers S after r) ≡ w.route r = elim (cases_Option (chosen_by net policy config p r (λ u. None))) [
        | inl none ↦ others_chosen r runs none is
        | inr own ↦ choosers.own r (offers S after r) own.0 own.1 ∙ sym (choosers.own r (offers S w r) own.0 own.1) ∙ sym is
      ] in
      route_stays S w cut r was.1 ∙ sym same ∙ sym (cond-true (running S after r) (chosen_by net policy config p r (offers S after r)) None runs)

  told_still : (a b : ℕ) → live S after a b ≡ true → after.queued a b ≡ exported S after a b
  told_still a b on =
      let was = live_was S w cut a b on in
      queued_stays S w cut a b was.1 ∙ kept.told a b was.0 refl ∙ sym (exported_stays S w cut a b (end_other cut a b was.1))

  pub all_still : (r : ℕ) → IsStill S choosers.alike after r
  all_still r = record { chosen = chosen_still r; told = told_still r }
