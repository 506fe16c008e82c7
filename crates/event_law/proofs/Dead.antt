-- On sessions that are live neither before an event nor after it its mark is all that changes.
use Rattle.std.proofs.Common.{◌≡◌, ℕ, Bool, true, false, cond, not, List, [], ◌∷◌, Option, None, refl, sym, ap, ◌∙◌, inl, inr}
use Rattle.std.proofs.lemmas.Bool.{cases_Bool, and_from, and_left, and_right, or_left, both_ways, eq-eqb, cond-true, cond-false}
use Rattle.event_base.specs.declared.event.Event.{Event}
use Rattle.event_base.specs.declared.event.Event.TheVariants.{Deliver, LinkDown, LinkUp, RouterDown, RouterUp, PeerSpeak, PeerSilent}
use Rattle.event_base.specs.World.{Speakers, World, at, is, joins, touches, live, running, owes, tell, with_choice, choose_again, emptied, with_cut, with_down, with_silent}
use Rattle.event_base.specs.Steps.{delivered, step}
use Rattle.event_law.specs.Dead.{AreDead, DeadSessionsStay, MarksAreAllThatChanges, marked, sessions_of}
use Rattle.event_law.specs.Kept.{AreSpeakers, IsKept, nobody, nowhere}
use Rattle.event_law.proofs.Still.{IsStill, each_still, same_routes, still, untold}
use Rattle.event_law.proofs.Keeping.{cut_both, exported_same, fewer, happens-keeps, idle_same, live_same_cut, live_same_down, lost-keeps, none_left, put_here, rests-keeps, route_same}

cond-same : {A : Type 0} (b : Bool) (x y : A) → (b ≡ true → x ≡ y) → cond b x y ≡ y
cond-same true x y h = h refl
cond-same false x y h = refl

module _ {R : Type 0} (net : Speakers R) where
  -- ---- where nothing is live nothing is told, and what is empty may be emptied

  dead_untold : (p : ℕ → ℕ → Bool) (w : World R) → AreDead net p w → tell net p w ≡ w
  dead_untold p w dead = untold net p w (λ a b. elim (cases_Bool (p a b)) [
    | inl t ↦ and_right (p a b) (owes net w a b) (and_left (live net w a b) _ (dead a b t))
    | inr f ↦ and_left (p a b) (owes net w a b) f
  ])

  emptied_empty : (p : ℕ → ℕ → Bool) (w : World R) → ((a b : ℕ) → p a b ≡ true → (w.queue a b ≡ []) × (w.heard a b ≡ None) × (w.queued a b ≡ None)) → emptied net p w ≡ w
  emptied_empty p w h = λ i. record {
    down = w.down;
    cut = w.cut;
    silent = w.silent;
    queue = λ a b. cond-same (p a b) [] (w.queue a b) (λ t. sym (h a b t).0) i;
    heard = λ a b. cond-same (p a b) None (w.heard a b) (λ t. sym (h a b t).1) i;
    queued = λ a b. cond-same (p a b) None (w.queued a b) (λ t. sym (h a b t).2) i;
    route = w.route;
  }

  -- ---- a router that comes up without a live session

  came_up : (r : ℕ) (w : World R) → w.route r ≡ None → AreDead net (touches r) w → choose_again net r w ≡ with_choice net r w
  came_up r w none dead = elim (cases_Bool (running net w r)) [
    | inl t ↦ cond-true (running net w r) (tell net (λ a b. at r a) (with_choice net r w)) w t
        ∙ dead_untold (λ a b. at r a) (with_choice net r w) (λ a b h. dead a b (or_left (at r a) (at r b) h))
    | inr f ↦ cond-false (running net w r) (tell net (λ a b. at r a) (with_choice net r w)) w f
        ∙ sym (same_routes net w r (none ∙ sym (cond-false (running net w r) (net.choose r _) None f)))
  ]

  undelivered : (a b : ℕ) (ms : List (Option R)) (w : World R) → ms ≡ [] → delivered net a b ms w ≡ w
  undelivered a b [] w h = refl
  undelivered a b (m ∷ rest) w h = absurd (cc)

  -- ---- in a world that is kept nobody has anything to do

  module _ (n : AreSpeakers net) (own : (m : Option R) → net.same m m ≡ true) where
    kept_still : (w : World R) → IsKept net w → (r : ℕ) → IsStill net own w r
    kept_still w k r = record { chosen = λ on. k.chosen r refl; told = λ b on. k.told r b on refl }

    link_down : (a b : ℕ) (w : World R) → IsKept net w → AreDead net (joins a b) w → AreDead net (joins a b) (with_cut net a b true w)
        → step net (LinkDown a b) w ≡ with_cut net a b true w
    link_down a b w k was is_now =
        let v : World R = with_cut net a b true w in
        let gone : World R = emptied net (joins a b) v in
        let kept : IsKept net gone =
        lost-keeps net n w v (joins a b) (nobody net) k (cut_both net n a b true w k) (λ x y. refl) (λ x y. refl) (λ x y. refl) is_now
        (λ x y f. live_same_cut net n a b x y true w f) (λ x y f. refl)
        (λ x y t l. absurd (both_ways _ (was x y t) l)) (λ r s. (refl, refl)) k.idle in
        ap (choose_again net b) (still net own gone a (kept_still gone kept a)) ∙ still net own gone b (kept_still gone kept b) ∙ emptied_empty (joins a b) v (λ x y t. k.empty x y (was x y t))

    router_down : (r : ℕ) (w : World R) → IsKept net w → AreDead net (touches r) w → AreDead net (touches r) (with_down net r true w)
        → step net (RouterDown r) w ≡ with_down net r true w
    router_down r w k was is_now =
        let v : World R = with_down net r true w in
        let gone : World R = emptied net (touches r) v in
        let stops : running net v r ≡ false = and_right (net.is_router r) _ (ap not (put_here net n w.down r true)) in
        let kept : IsKept net gone =
        fewer net n _ _ _ _ _
        (rests-keeps net n r (at r) (nowhere net) gone
        (lost-keeps net n w v (touches r) (at r) k k.both (λ x y. refl) (λ x y. refl) (λ x y. refl) is_now (live_same_down net n r true w) (exported_same net n r true w)
        (λ x y t l. absurd (both_ways _ (was x y t) l)) (λ x s. route_same net n r true w x s) (idle_same net n r true w k))
        stops)
        (λ x s. none_left net n (at r x)) (λ x y s. s) in
        each_still net own (net.neighbours r) gone (kept_still gone kept) ∙ emptied_empty (touches r) v (λ x y t. k.empty x y (was x y t))

  pub marks_are_all_that_changes : AreSpeakers net → ((m : Option R) → net.same m m ≡ true) → MarksAreAllThatChanges net
  marks_are_all_that_changes n own e w k was is_now = by e was is_now
    where
      by : (e : Event) → AreDead net (sessions_of net e) w → AreDead net (sessions_of net e) (marked net e w) → step net e w ≡ marked net e w
      by (Deliver a b) was is_now = undelivered a b (w.queue a b) w (k.empty a b (was a b (and_from _ _ (eq-eqb a a refl) (eq-eqb b b refl)))).0
      by (LinkDown a b) was is_now = link_down n own a b w k was is_now
      by (LinkUp a b) was is_now = dead_untold (joins a b) (with_cut net a b false w) is_now
      by (RouterDown r) was is_now = router_down n own r w k was is_now
      by (RouterUp r) was is_now =
          ap (tell net (touches r)) (came_up r (with_down net r false w) (cond-true (at r r) None (w.route r) (eq-eqb r r refl)) is_now)
          ∙ dead_untold (touches r) (with_choice net r (with_down net r false w)) is_now
      by (PeerSpeak r p) was is_now = dead_untold (is p r) (with_silent net r p false w) is_now
      by (PeerSilent r p) was is_now = dead_untold (is p r) (with_silent net r p true w) is_now

  pub dead_sessions_stay : AreSpeakers net → DeadSessionsStay net
  dead_sessions_stay n e w a b k was is_now =
      let before = k.empty a b was in
      let after = (happens-keeps net n e w k).empty a b is_now in
      record { queue = after.0 ∙ sym before.0; heard = after.1 ∙ sym before.1; queued = after.2 ∙ sym before.2 }
