-- Where of two routes one comes no later, one of the routes that are given comes first.
use Rattle.std.proofs.Common.{◌≡◌, ℕ, zero, suc, ◌<◌, ◌⊎◌, inl, inr, ⊎_elim, Option, Some, None, refl, sym, ◌∙◌, subst, arith}
use Rattle.std.proofs.lemmas.Bool.{cases_lt}
use Rattle.routing_law.specs.Outcome.{Route}

-- the first comes no later than the second
module _ (Later : Route → Route → Type 0) (itself : (x : Route) → Later x x) (total : (x y : Route) → Later x y ⊎ Later y x)
    (chained : (x y z : Route) → Later x y → Later y z → Later x z) where
  -- of the routes of those below a bound one comes first, if there are any
  pub record First (o : ℕ → Option Route) (bound : ℕ) : Type 0 where
    pub route : Route
    pub from : ℕ
    pub below : from < bound
    pub gives : o from ≡ Some route
    pub first : (u : ℕ) (y : Route) → u < bound → o u ≡ Some y → Later route y

  pub first_of : (o : ℕ → Option Route) (bound : ℕ) → ((u : ℕ) → u < bound → o u ≡ None) ⊎ First o bound
  first_of o zero = inl (λ u l. absurd (omega arith))
  first_of o (suc k) = more (o k) refl (first_of o k)
    where
      last : (P : ℕ → Type 0) → ((u : ℕ) → u < k → P u) → P k → (u : ℕ) → u < suc k → P u
      last P h p u l = ⊎_elim (λ m. h u m) (λ m. let e : k ≡ u = omega arith in subst P e p) (cases_lt u k)

      same : (y : Route) (x : Route) → o k ≡ Some y → o k ≡ Some x → x ≡ y
      same y x e f = let g : Some x ≡ Some y = sym f ∙ e in cc

      more : (p : Option Route) → o k ≡ p → ((u : ℕ) → u < k → o u ≡ None) ⊎ First o k → ((u : ℕ) → u < suc k → o u ≡ None) ⊎ First o (suc k)
      more None e (inl none) = inl (last (λ u. o u ≡ None) none e)
      more None e (inr f) = inr (record {
        route = f.route;
        from = f.from;
        below = omega (arith, f.below);
        gives = f.gives;
        first = λ u y l h. last (λ u. o u ≡ Some y → Later f.route y) (λ u m. f.first u y m) (λ g. let z = sym e ∙ g in absurd (cc)) u l h;
      })
      more (Some x) e (inl none) = inr (record {
        route = x;
        from = k;
        below = omega arith;
        gives = e;
        first = λ u y l h. last (λ u. o u ≡ Some y → Later x y) (λ u m g. let z = sym (none u m) ∙ g in absurd (cc)) (λ g. subst (λ z. Later x z) (sym (same x y e g)) (itself x)) u l h;
      })
      more (Some x) e (inr f) = ⊎_elim (λ a. inr (record {
        route = x;
        from = k;
        below = omega arith;
        gives = e;
        first = λ u y l h. last (λ u. o u ≡ Some y → Later x y) (λ u m g. chained x f.route y a (f.first u y m g)) (λ g. subst (λ z. Later x z) (sym (same x y e g)) (itself x)) u l h;
      })) (λ b. inr (record {
        route = f.route;
        from = f.from;
        below = omega (arith, f.below);
        gives = f.gives;
        first = λ u y l h. last (λ u. o u ≡ Some y → Later f.route y) (λ u m. f.first u y m) (λ g. subst (λ z. Later f.route z) (sym (same x y e g)) b) u l h;
      })) (total x f.route)
