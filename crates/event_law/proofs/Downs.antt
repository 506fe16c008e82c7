-- Nobody but routers is ever down.
use Rattle.std.proofs.Common.{◌≡◌, ℕ, Bool, true, false, List, [], ◌∷◌, Option, Some, None, refl, sym, ap, ◌∙◌, subst, inl, inr}
use Rattle.std.proofs.lemmas.Bool.{both_ways, cases_Bool, cond-true, cond-false, eqb-true}
use Rattle.event_base.specs.declared.event.Event.{Event}
use Rattle.event_base.specs.declared.event.Event.TheVariants.{Deliver, LinkDown, LinkUp, RouterDown, RouterUp, PeerSpeak, PeerSilent}
use Rattle.event_base.specs.declared.event.EventFault.{EventFault}
use Rattle.event_base.specs.World.{Speakers, World, at, joins, touches, running, tell, with_choice, choose_again, each_again, emptied, with_cut, with_down, received}
use Rattle.event_base.specs.Steps.{delivered, fault_of, happens, if_there, opening, or_as_before, run, step, unless_down, unless_up}

module _ {R : Type 0} (net : Speakers R) where
  abbrev pub AreDown : (ℕ → Bool) → Type 0
  AreDown down = (r : ℕ) → down r ≡ true → net.is_router r ≡ true

  pub choose_again-down : (r : ℕ) (w : World R) → (choose_again net r w).down ≡ w.down
  choose_again-down r w = elim (cases_Bool (running net w r)) [
    | inl t ↦ ap (λ (v : World R). v.down) (cond-true (running net w r) (tell net (λ a b. at r a) (with_choice net r w)) w t)
    | inr f ↦ ap (λ (v : World R). v.down) (cond-false (running net w r) (tell net (λ a b. at r a) (with_choice net r w)) w f)
  ]

  each_again-down : (rs : List ℕ) (w : World R) → (each_again net rs w).down ≡ w.down
  each_again-down [] w = refl
  each_again-down (r ∷ rs) w = each_again-down rs (choose_again net r w) ∙ choose_again-down r w

  delivered-down : (a b : ℕ) (ms : List (Option R)) (w : World R) → (delivered net a b ms w).down ≡ w.down
  delivered-down a b [] w = refl
  delivered-down a b (m ∷ rest) w = choose_again-down b (received net a b m rest w)

  marked : (r : ℕ) (v : Bool) (w : World R) → net.is_router r ≡ true → AreDown w.down → AreDown (with_down net r v w).down
  marked r v w router d x h = elim (cases_Bool (at r x)) [
    | inl t ↦ ap net.is_router (eqb-true x r t) ∙ router
    | inr f ↦ d x (sym (cond-false (at r x) v (w.down x) f) ∙ h)
  ]

  there : (b : Bool) (o : Option EventFault) → if_there b o ≡ None → b ≡ true
  there true o h = refl
  there false o h = absurd (cc)

  step-down : (e : Event) (w : World R) → AreDown w.down → fault_of net e w ≡ None → AreDown (step net e w).down
  step-down (Deliver a b) w d h = subst AreDown (sym (delivered-down a b (w.queue a b) w)) d
  step-down (LinkDown a b) w d h =
      subst AreDown (sym (choose_again-down b (choose_again net a (emptied net (joins a b) (with_cut net a b true w))) ∙ choose_again-down a (emptied net (joins a b) (with_cut net a b true w)))) d
  step-down (LinkUp a b) w d h = d
  step-down (RouterDown r) w d h =
      subst AreDown (sym (each_again-down (net.neighbours r) (emptied net (touches r) (with_down net r true w))))
      (marked r true w (there (net.is_router r) (unless_up (w.down r)) h) d)
  step-down (RouterUp r) w d h = subst AreDown (sym (choose_again-down r (with_down net r false w))) (marked r false w (there (net.is_router r) (unless_down (w.down r)) h) d)
  step-down (PeerSpeak r p) w d h = d
  step-down (PeerSilent r p) w d h = d

  pub happens-down : (e : Event) (w : World R) → AreDown w.down → AreDown (happens net e w).down
  happens-down e w d = by (fault_of net e w) refl
    where
      by : (o : Option EventFault) → fault_of net e w ≡ o → AreDown (or_as_before o (step net e w) w).down
      by None m = step-down e w d m
      by (Some f) m = d

  run-from : (es : List Event) (w : World R) → AreDown w.down → AreDown (run net es w).down
  run-from [] w d = d
  run-from (e ∷ es) w d = run-from es (happens net e w) (happens-down e w d)

  pub run-down : (es : List Event) → AreDown (run net es (opening net)).down
  run-down es = run-from es (opening net) (λ r h. absurd (both_ways false refl h))
