-- A router that holds its choice, and whose neighbours were told, has nothing to do where it chooses again.
use Rattle.std.proofs.Common.{◌≡◌, ℕ, Bool, true, false, not, ◌&&◌, List, [], ◌∷◌, ◌++◌, Option, refl, sym, ap, ◌∙◌, inl, inr}
use Rattle.std.specs.Prelude.{if◌then◌else◌}
use Rattle.std.proofs.lemmas.Bool.{and_left, and_right, cases_Bool, cond-false, cond-true, eqb-true, not_from_true}
use Rattle.event_base.specs.World.{Speakers, World, at, choice, choose_again, each_again, exported, live, owes, running, tell, with_choice}

module _ {R : Type 0} (net : Speakers R) where
  -- where nothing is owed nothing is told
  pub untold : (p : ℕ → ℕ → Bool) (w : World R) → ((a b : ℕ) → (p a b && owes net w a b) ≡ false) → tell net p w ≡ w
  untold p w none = λ i. record {
    down = w.down;
    cut = w.cut;
    silent = w.silent;
    queue = λ a b. cond-false (p a b && owes net w a b) (w.queue a b ++ exported net w a b ∷ []) (w.queue a b) (none a b) i;
    heard = w.heard;
    queued = λ a b. cond-false (p a b && owes net w a b) (exported net w a b) (w.queued a b) (none a b) i;
    route = w.route;
  }

  pub same_routes : (w : World R) (r : ℕ) → w.route r ≡ choice net w r → with_choice net r w ≡ w
  same_routes w r e = λ i. record { down = w.down; cut = w.cut; silent = w.silent; queue = w.queue; heard = w.heard; queued = w.queued; route = λ x. each x i }
    where
      each : (x : ℕ) → (if at r x then choice net w r else w.route x) ≡ w.route x
      each x = elim (cases_Bool (at r x)) [
        | inl here ↦ cond-true (at r x) (choice net w r) (w.route x) here ∙ sym e ∙ ap w.route (sym (eqb-true x r here))
        | inr other ↦ cond-false (at r x) (choice net w r) (w.route x) other
      ]

module _ {R : Type 0} (net : Speakers R) (alike : (m : Option R) → net.same m m ≡ true) where
  pub record IsStill (w : World R) (r : ℕ) : Type 0 where
    pub chosen : running net w r ≡ true → w.route r ≡ choice net w r
    pub told : (b : ℕ) → live net w r b ≡ true → w.queued r b ≡ exported net w r b

  module _ (w : World R) (r : ℕ) (is : IsStill w r) where
    owes_nothing : (a b : ℕ) → (at r a && owes net w a b) ≡ false
    owes_nothing a b = elim (cases_Bool (at r a)) [
      | inr other ↦ and_left (at r a) (owes net w a b) other
      | inl here ↦ and_right (at r a) (owes net w a b) (ap (λ x. owes net w x b) (eqb-true a r here) ∙ nothing b)
    ]
      where
        nothing : (b : ℕ) → owes net w r b ≡ false
        nothing b = elim (cases_Bool (live net w r b)) [
          | inr off ↦ and_left (live net w r b) (not (net.same (exported net w r b) (w.queued r b))) off
          | inl on ↦
              and_right (live net w r b) (not (net.same (exported net w r b) (w.queued r b)))
              (not_from_true _ (ap (net.same (exported net w r b)) (is.told b on) ∙ alike (exported net w r b)))
        ]

    pub still : choose_again net r w ≡ w
    still = elim (cases_Bool (running net w r)) [
      | inl on ↦
          cond-true (running net w r) (tell net (λ a b. at r a) (with_choice net r w)) w on
          ∙ ap (tell net (λ a b. at r a)) (same_routes net w r (is.chosen on)) ∙ untold net (λ a b. at r a) w owes_nothing
      | inr off ↦ cond-false (running net w r) (tell net (λ a b. at r a) (with_choice net r w)) w off
    ]

  pub each_still : (rs : List ℕ) (w : World R) → ((r : ℕ) → IsStill w r) → each_again net rs w ≡ w
  each_still [] w is = refl
  each_still (r ∷ rs) w is = ap (each_again net rs) (still w r (is r)) ∙ each_still rs w is
