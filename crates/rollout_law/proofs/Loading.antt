-- Each load keeps what is kept.
use Rattle.std.proofs.Common.{◌≡◌, ℕ, Bool, true, false, cond, not, ◌&&◌, ◌||◌, List, [], ◌∷◌, Option, None, refl, sym, ap, ◌∙◌, subst, inl, inr}
use Rattle.std.proofs.lemmas.Bool.{and_cases, and_left, and_right, both_ways, cases_Bool, cond-true, cond-false, eqb-true}
use Rattle.net_base.specs.Network.{PlainNet, IsNet, is_router}
use Rattle.net_base.specs.Prefixes.{PlainPrefix}
use Rattle.config_base.specs.declared.route.Route.{Route}
use Rattle.event_base.specs.World.{Speakers, World, at, choose_again, live, offers, running, tell, with_choice}
use Rattle.event_base.specs.Speaking.{chosen_by, exported_by}
use Rattle.event_law.specs.Kept.{AreSpeakers, IsKept, Keeps, last_of, nobody, nowhere}
use Rattle.event_law.proofs.Keeping.{fewer, happens-keeps, tell-keeps, with_choice-keeps}
use Rattle.rollout_base.specs.Mixtures.{Change, Change as change, Load, Mixture, Part, Running, after, announced_if, loads, mixed, with_part}
use Rattle.rollout_law.specs.Laws.{ChangesKeep}
use Rattle.rollout_law.proofs.Speaking.{are_speakers}

module _ {R : Type 0} (net : Speakers R) (n : AreSpeakers net) where
  both_off : (a : Bool) → (a && not a) ≡ false
  both_off true = refl
  both_off false = refl

  twice_off : (a : Bool) → ((a || a) && not a) ≡ false
  twice_off true = refl
  twice_off false = refl

  -- where r has still to choose and to tell, it does so
  choose_again-keeps : (r : ℕ) (w : World R) → Keeps net (at r) (λ a b. at r a) w → running net w r ≡ true → IsKept net (choose_again net r w)
  choose_again-keeps r w k runs =
      subst (IsKept net) (sym (cond-true (running net w r) (tell net (λ a b. at r a) (with_choice net r w)) w runs))
      (fewer net n (λ x. at r x && not (at r x)) (nobody net) (λ a b. (at r a || at r a) && not (at r a)) (nowhere net) (tell net (λ a b. at r a) (with_choice net r w))
      (tell-keeps net n (λ a b. at r a) (λ x. at r x && not (at r x)) (λ a b. at r a || at r a) (with_choice net r w) (with_choice-keeps net n r (at r) (λ a b. at r a) w k runs))
      (λ x s. both_off (at r x)) (λ a b s. twice_off (at r a)))

module _ (net : PlainNet) (says : ℕ → Bool) (p : PlainPrefix) (rules : IsNet net) where
  abbrev S : Mixture → Speakers Route
  S = mixed net says p

  last_same : (m k : Mixture) (xs : List (Option Route)) (h : Option Route) → last_of (S m) xs h ≡ last_of (S k) xs h
  last_same m k [] h = refl
  last_same m k (x ∷ xs) h = last_same m k xs x

  abbrev exports_as : World Route → ℕ → ℕ → Part → Option Route
  exports_as w a b part = cond (is_router net a) (exported_by net part.config p a b (w.route a)) (cond (w.silent b a) None (announced_if says a))

  abbrev chooses_as : Mixture → World Route → ℕ → Part → Option Route
  chooses_as m w x part = cond (running (S m) w x) (chosen_by net part.policy part.config p x (offers (S m) w x)) None

  -- a part is exchanged at a router, which has to choose and to tell
  exchanged : (l : Load) (m : Mixture) (w : World Route) → IsKept (S m) w → Keeps (S (with_part l.router l.part m)) (at l.router) (λ a b. at l.router a) w
  exchanged l m w k = record {
    both = k.both;
    last = λ a b u. last_same (with_part l.router l.part m) m (w.queue a b) (w.heard a b) ∙ k.last a b u;
    told = λ a b u nd. k.told a b u refl ∙ ap (exports_as w a b) (sym (cond-false (at l.router a) l.part (m a) nd));
    chosen = λ x s. k.chosen x refl ∙ ap (chooses_as m w x) (sym (cond-false (at l.router x) l.part (m x) s));
    idle = k.idle;
    empty = k.empty;
  }

  -- a router that is down has nothing to do
  resting : (l : Load) (m : Mixture) (w : World Route) → IsKept (S m) w → running (S m) w l.router ≡ false → IsKept (S (with_part l.router l.part m)) w
  resting l m w k rests =
      let part = with_part l.router l.part m in
      let before = exchanged l m w k in
      record {
        both = k.both;
        last = before.last;
        told = λ a b u nd. elim (cases_Bool (at l.router a)) [
          | inr other ↦ before.told a b u other
          | inl here ↦ k.told a b u refl ∙ silent a b u here
        ];
        chosen = λ x s. elim (cases_Bool (at l.router x)) [
          | inr other ↦ before.chosen x other
          | inl here ↦ (
              let stops : running (S m) w x ≡ false = ap (running (S m) w) (eqb-true x l.router here) ∙ rests in
              k.idle x stops ∙ sym (cond-false (running (S m) w x) (chosen_by net (part x).policy (part x).config p x (offers (S m) w x)) None stops))
        ];
        idle = k.idle;
        empty = k.empty;
      }
    where
      -- it's no router, or no session of it is live
      silent : (a b : ℕ) → live (S m) w a b ≡ true → at l.router a ≡ true → exports_as w a b (m a) ≡ exports_as w a b (with_part l.router l.part m a)
      silent a b u here = elim (cases_Bool (is_router net a)) [
        | inr off ↦ cond-false (is_router net a) (exported_by net (m a).config p a b (w.route a)) _ off
            ∙ sym (cond-false (is_router net a) (exported_by net (with_part l.router l.part m a).config p a b (w.route a)) _ off)
        | inl router ↦ (
            let stops : running (S m) w a ≡ false = ap (running (S m) w) (eqb-true a l.router here) ∙ rests in
            let down : not (w.down a) ≡ false = elim (and_cases (is_router net a) (not (w.down a)) stops) [ inl f ↦ absurd (both_ways _ f router) | inr f ↦ f ] in
            let dead : live (S m) w a b ≡ false = and_right (net_linked a b) _ (and_right (not (w.cut a b)) _ (and_left (not (w.down a)) (not (w.down b)) down)) in
            absurd (both_ways _ dead u))
      ]
        where
          net_linked : ℕ → ℕ → Bool
          net_linked = (S m).linked

  load-keeps : (l : Load) (m : Mixture) (w : World Route) → IsKept (S m) w → IsKept (S (with_part l.router l.part m)) (choose_again (S (with_part l.router l.part m)) l.router w)
  load-keeps l m w k =
      let part = with_part l.router l.part m in
      elim (cases_Bool (running (S m) w l.router)) [
        | inl runs ↦ choose_again-keeps (S part) (are_speakers net says p part rules) l.router w (exchanged l m w k) runs
        | inr rests ↦ subst (IsKept (S part)) (sym (cond-false (running (S part) w l.router) (tell (S part) (λ a b. at l.router a) (with_choice (S part) l.router w)) w rests)) (resting l m w k rests)
      ]

  pub after-keeps : (cs : List Change) (s : Running) → IsKept (S s.runs) s.world → IsKept (S (after net says p cs s).runs) (after net says p cs s).world
  after-keeps [] s k = k
  after-keeps (change.event e ∷ cs) s k = after-keeps cs _ (happens-keeps (S s.runs) (are_speakers net says p s.runs rules) e s.world k)
  after-keeps (change.load l ∷ cs) s k = after-keeps cs (loads net says p l s) (load-keeps l s.runs s.world k)

pub changes_keep : ChangesKeep
changes_keep net says p cs s rules k = after-keeps net says p rules cs s k
