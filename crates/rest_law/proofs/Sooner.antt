-- Which of two routes comes no later by number and size is total.
use Rattle.std.proofs.Common.{◌≡◌, ℕ, ◌<◌, ◌≤◌, ◌⊎◌, inl, inr, refl, sym, arith}
use Rattle.std.proofs.lemmas.Bool.{cases_lt}
use Rattle.routing_law.specs.Outcome.{Route, Setup}
use Rattle.rest_law.specs.Sizes.{NoneSooner, Size}

module _ (w : Setup) (len : Size) where
  abbrev num : Route → ℕ
  num x = w.graph.number x.node

  by_number : (x y : Route) → num y < num x → NoneSooner w len x y
  by_number x y l = record { number = omega (arith, l); shorter = λ e. absurd (omega (arith, l, e)) }

  by_size : (x y : Route) → num y ≡ num x → len x.path ≤ len y.path → NoneSooner w len x y
  by_size x y s l = record { number = omega (arith, s); shorter = λ e. l }

  pub itself : (x : Route) → NoneSooner w len x x
  itself x = by_size x x refl (omega arith)

  pub total : (x y : Route) → NoneSooner w len x y ⊎ NoneSooner w len y x
  total x y = numbers (cases_lt (num y) (num x)) (cases_lt (num x) (num y))
    where
      sizes : num y ≡ num x → (len y.path < len x.path) ⊎ (len x.path ≤ len y.path) → NoneSooner w len x y ⊎ NoneSooner w len y x
      sizes s (inl l) = inr (by_size y x (sym s) (omega (arith, l)))
      sizes s (inr l) = inl (by_size x y s l)

      numbers : (num y < num x) ⊎ (num x ≤ num y) → (num x < num y) ⊎ (num y ≤ num x) → NoneSooner w len x y ⊎ NoneSooner w len y x
      numbers (inl l) b = inl (by_number x y l)
      numbers (inr a) (inl l) = inr (by_number y x l)
      numbers (inr a) (inr b) = sizes (omega (arith, a, b)) (cases_lt (len y.path) (len x.path))

  pub chained : (x y z : Route) → NoneSooner w len x y → NoneSooner w len y z → NoneSooner w len x z
  chained x y z a b = record {
    number = omega (arith, a.number, b.number);
    shorter = λ e.
        let s : num y ≡ num x = omega (arith, a.number, b.number, e) in
        let t : num z ≡ num y = omega (arith, s, e) in
        omega (arith, a.shorter s, b.shorter t);
  }
