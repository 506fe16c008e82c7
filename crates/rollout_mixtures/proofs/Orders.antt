-- When one more router is settled, nothing more comes to the others.
use Rattle.std.proofs.Common.{◌≡◌, ℕ, Bool, true, false, ◌||◌, ◌⊎◌, Option, Some, None, sym, ap, ◌∙◌, subst, inl, inr}
use Rattle.std.specs.Prelude.{if◌then◌else◌}
use Rattle.std.proofs.lemmas.Bool.{both_ways, cond-true, eqb-true, or_cases, or_parts}
use Rattle.list_law.proofs.Options.{none_or_some}
use Rattle.event_base.specs.World.{Speakers, World, at, live}
use Rattle.rest_law.specs.Orders.{Comes, Comes as comes, IsFirst, IsUnreached, Order, Takes, rests, said}

module _ {R : Type 0} (net : Speakers R) (w : World R) (takes : Takes R) (no_later : Order R) (outcome : ℕ → Option R)
    (unsent : (a b : ℕ) → net.export a b None ≡ None) (untaken : (r u : ℕ) → takes r u None ≡ None) where
  -- who holds nothing says nothing
  pub nothing_taken : (u v : ℕ) → net.is_router u ≡ true → takes v u (said net w u v None) ≡ None
  nothing_taken u v router = ap (takes v u) (cond-true (net.is_router u) (net.export u v None) (if w.silent v u then None else net.announced u) router ∙ unsent u v) ∙ untaken v u

  pub comes_lives : (T : ℕ → Bool) (v u : ℕ) (h : R) → Comes net w takes outcome T v u h → live net w u v ≡ true
  comes_lives T v u h (comes.settled among on t) = on
  comes_lives T v u h (comes.further other c on t) = on

  module _ (T : ℕ → Bool) (v : ℕ) (router : net.is_router v ≡ true) (off : T v ≡ false) (step : IsFirst net w takes no_later outcome T v ⊎ IsUnreached net w takes no_later outcome T v) where
    of_it : (z : ℕ) (h : R) → live net w v z ≡ true → takes z v (said net w v z (outcome v)) ≡ Some h → Comes net w takes outcome T z v h
    of_it z h on t = elim step [
      | inl f ↦ comes.further {z = f.giver} {g = f.route} off (comes.settled f.among f.lives f.takes_it) on (sym (ap (λ (o : Option R). takes z v (said net w v z o)) f.holds) ∙ t)
      | inr n ↦ absurd (none_or_some (takes z v (said net w v z (outcome v))) h (ap (λ (o : Option R). takes z v (said net w v z o)) n.holds ∙ nothing_taken v z router) t)
    ]

    pub comes_back : (z u : ℕ) (h : R) → Comes net w takes outcome (λ y. T y || at v y) z u h → Comes net w takes outcome T z u h
    comes_back z u h (comes.settled among on t) = elim (or_cases (T u) (at v u) among) [
      | inl before ↦ comes.settled before on t
      | inr here ↦ (
          let same : u ≡ v = eqb-true u v here in
          subst (λ (y : ℕ). Comes net w takes outcome T z y h) (sym same)
          (of_it z h (subst (λ (y : ℕ). live net w y z ≡ true) same on) (subst (λ (y : ℕ). takes z y (said net w y z (outcome y)) ≡ Some h) same t)))
    ]
    comes_back z u h (comes.further {z = y} {g = g} other c on t) = comes.further {z = y} {g = g} (or_parts (T u) (at v u) other).0 (comes_back u y g c) on t

  -- of those that are settled nothing comes to who holds nothing, and doesn't rest
  abbrev pub Closed : (ℕ → Bool) → Type 0
  Closed T = (v u : ℕ) (h : R) → outcome v ≡ None → rests net w v ≡ false → T v ≡ true → Comes net w takes outcome T v u h → ⊥

  pub closed_at_first : Closed (rests net w)
  closed_at_first v u h none other resting c = both_ways (rests net w v) other resting

  pub closed_on : (T : ℕ → Bool) (v : ℕ) → net.is_router v ≡ true → T v ≡ false
      → IsFirst net w takes no_later outcome T v ⊎ IsUnreached net w takes no_later outcome T v → Closed T → Closed (λ y. T y || at v y)
  closed_on T v router off step closed z u h none other among c =
      let back = comes_back T v router off step z u h c in
      elim (or_cases (T z) (at v z) among) [
        | inl before ↦ closed z u h none other before back
        | inr here ↦ (
            let same : z ≡ v = eqb-true z v here in
            elim step [
              | inl f ↦ absurd (none_or_some (outcome z) f.route none (ap outcome same ∙ f.holds))
              | inr n ↦ n.never u h (subst (λ (y : ℕ). Comes net w takes outcome T y u h) same back)
            ])
      ]
