-- One choice over what fits a partial settlement.
use Rattle.std.proofs.Common.{◌≡◌, ℕ, zero, suc, ◌≤◌, Bool, true, false, ◌⊎◌, inl, inr, List, [], ◌∷◌, length, Option, Some, None, eqb, refl, sym, ap, ◌∙◌, arith}
use Rattle.std.specs.Prelude.{◌&&◌}
use Rattle.std.proofs.lemmas.Bool.{and_from, and_parts, eq-eqb, eqb-true, false≢true}
use Rattle.routing_law.specs.Outcome.{Route, Routes, Setup, heard}
use Rattle.routing_law.proofs.Heard.{Heard, heard_parts}
use Rattle.routing_law.proofs.Sound.{heard_again, route_is, sound_of}
use Rattle.rest_law.specs.Partial.{CanHold, Detour, IsOpen, PartlySettled}
use Rattle.rest_law.proofs.Secure.{backed_of}
use Rattle.tie_law.specs.Ties.{IsNext, NoneSooner, Size, Sooner}
use Rattle.tie_law.proofs.Ties.{next_comes_first}
use Rattle.steady_law.specs.Histories.{TiesAt}

-- As far as these first locations go the path is one that its holder can come to hold, whatever is behind them.
abbrev pub HoldsTo : Setup → Routes → ℕ → List ℕ → ℕ → Type 0
HoldsTo w r zero p n = Unit {0}
HoldsTo w r (suc k) [] n = ⊥
HoldsTo w r (suc k) (v ∷ []) n = ⊥
HoldsTo w r (suc k) (v ∷ u ∷ p) n = IsOpen w r v × (w.alive.carries u v ≡ true) × ((m : ℕ) × (w.graph.next m v ≡ Some n) × ((r u ≡ Some (record { path = u ∷ p; node = m })) ⊎ HoldsTo w r k (u ∷ p) m))

pub whole_is_held : (w : Setup) (r : Routes) (k v : ℕ) (rest : List ℕ) (n : ℕ) → length (v ∷ rest) ≤ k → HoldsTo w r k (v ∷ rest) n → CanHold w r (v ∷ rest) n
whole_is_held w r zero v rest n l h = absurd (omega (arith, l))
whole_is_held w r (suc k) v [] n l h = absurd h
whole_is_held w r (suc k) v (u ∷ p) n l h = (h.0, h.1, (h.2.0, h.2.1, by h.2.2 (whole_is_held w r k u p h.2.0 (omega (arith, l)))))
  where
    by : (r u ≡ Some (record { path = u ∷ p; node = h.2.0 })) ⊎ HoldsTo w r k (u ∷ p) h.2.0 → (HoldsTo w r k (u ∷ p) h.2.0 → CanHold w r (u ∷ p) h.2.0)
        → (r u ≡ Some (record { path = u ∷ p; node = h.2.0 })) ⊎ CanHold w r (u ∷ p) h.2.0
    by (inl e) again = inl e
    by (inr c) again = inr (again c)

-- Settled locations are heard to have their routes, and any other nothing, or what it can come to hold as far as so many locations.
pub record FitsTo (w : Setup) (r : Routes) (k : ℕ) (o : Routes) : Type 0 where
  pub settled : (u : ℕ) (z : Route) → r u ≡ Some z → o u ≡ Some z
  pub others : (u : ℕ) (z : Route) → r u ≡ None → o u ≡ Some z → (rest : List ℕ) × (z.path ≡ u ∷ rest) × HoldsTo w r k (u ∷ rest) z.node

-- or what it can come to hold
pub record Fits (w : Setup) (r : Routes) (o : Routes) : Type 0 where
  pub settled : (u : ℕ) (z : Route) → r u ≡ Some z → o u ≡ Some z
  pub others : (u : ℕ) (z : Route) → r u ≡ None → o u ≡ Some z → (rest : List ℕ) × (z.path ≡ u ∷ rest) × CanHold w r (u ∷ rest) z.node

-- an open router is given what it can come to hold as far as one location more
pub open_take : (w : Setup) (r o : Routes) (k : ℕ) → PartlySettled w r → FitsTo w r k o → (v u : ℕ) (y : Route) → IsOpen w r v → heard w o v u ≡ Some y
    → (rest : List ℕ) × (y.path ≡ v ∷ rest) × HoldsTo w r (suc k) (v ∷ rest) y.node
open_take w r o k ps f v u y op g = by (r u) refl
  where
    some_is : {a b : Route} → Some a ≡ Some b → a ≡ b
    some_is e = cc

    h : Heard w o v u y
    h = heard_parts w o v u y g

    held : (rest : List ℕ) → h.from.path ≡ u ∷ rest → (r u ≡ Some (record { path = u ∷ rest; node = h.from.node })) ⊎ HoldsTo w r k (u ∷ rest) h.from.node
        → (rest : List ℕ) × (y.path ≡ v ∷ rest) × HoldsTo w r (suc k) (v ∷ rest) y.node
    held rest e a = (u ∷ rest, h.path ∙ ap (λ p. v ∷ p) e, (op, h.carries, (h.from.node, h.step, a)))

    by : (m : Option Route) → r u ≡ m → (rest : List ℕ) × (y.path ≡ v ∷ rest) × HoldsTo w r (suc k) (v ∷ rest) y.node
    by None e = let a = f.others u h.from e h.has in held a.0 a.1 (inr a.2)
    by (Some z) e =
        let same : z ≡ h.from = some_is (sym (f.settled u z e) ∙ h.has) in
        let a = sound_of w r (backed_of w r ps) u h.from (e ∙ ap Some same) in
        held a.rest a.begins (inl (e ∙ ap Some same ∙ ap Some (route_is h.from (u ∷ a.rest) a.begins)))

-- ---- the router that is next

module _ (w : Setup) (size : Size) (r : Routes) (v : ℕ) (x : Route) (next : IsNext w size r v x) where
  abbrev ranks_as : Option Route → Bool
  ranks_as None = false
  ranks_as (Some y) = eqb (w.graph.number y.node) (w.graph.number x.node) && eqb (size y.path) (size x.path)

  -- the settled neighbours whose routes tie
  abbrev pub ties_of : ℕ → Bool
  ties_of u = ranks_as (heard w r v u)

  pub ties_given : (u : ℕ) → ties_of u ≡ true → (y : Route) × (heard w r v u ≡ Some y) × (w.graph.number y.node ≡ w.graph.number x.node) × (size y.path ≡ size x.path)
  ties_given u t = by (heard w r v u) refl t
    where
      by : (m : Option Route) → heard w r v u ≡ m → ranks_as m ≡ true → (y : Route) × (heard w r v u ≡ Some y) × (w.graph.number y.node ≡ w.graph.number x.node) × (size y.path ≡ size x.path)
      by None e t = absurd (false≢true t)
      by (Some y) e t = (let both = and_parts (eqb (w.graph.number y.node) (w.graph.number x.node)) (eqb (size y.path) (size x.path)) t in (y, e, eqb-true _ _ both.0, eqb-true _ _ both.1))

  ties_from : (u : ℕ) (y : Route) → heard w r v u ≡ Some y → w.graph.number y.node ≡ w.graph.number x.node → size y.path ≡ size x.path → ties_of u ≡ true
  ties_from u y e n l = ap ranks_as e ∙ and_from (eqb (w.graph.number y.node) (w.graph.number x.node)) (eqb (size y.path) (size x.path)) (eq-eqb _ _ n) (eq-eqb _ _ l)

  module _ (o : Routes) (f : Fits w r o) where
    there : (u : ℕ) (y : Route) → heard w r v u ≡ Some y → heard w o v u ≡ Some y
    there u y g = let a = heard_parts w r v u y g in heard_again w r o v u y a (f.settled u a.from a.has)

    -- what is given is settled, or a detour
    back : (u : ℕ) (y : Route) → heard w o v u ≡ Some y → (heard w r v u ≡ Some y) ⊎ Detour w r v y
    back u y g = by (r u) refl
      where
        h : Heard w o v u y
        h = heard_parts w o v u y g

        by : (m : Option Route) → r u ≡ m → (heard w r v u ≡ Some y) ⊎ Detour w r v y
        by (Some z) e = (let same : Some z ≡ Some h.from = sym (f.settled u z e) ∙ h.has in inl (heard_again w o r v u y h (e ∙ same)))
        by None e =
            let a = f.others u h.from e h.has in
            inr (record { by = u; rest = a.0; node = h.from.node; path = h.path ∙ ap (λ p. v ∷ p) a.1; carries = h.carries; held = a.2; step = h.step })

    -- what ties there is settled and ranks as x does
    pub tie_settled : (u : ℕ) (y : Route) → TiesAt w size o v u y → (heard w r v u ≡ Some y) × (w.graph.number y.node ≡ w.graph.number x.node) × (size y.path ≡ size x.path)
    tie_settled u y t = by (back u y t.0)
      where
        soon : NoneSooner w size y x
        soon = t.1 next.from x (there next.from x next.gives)

        by : (heard w r v u ≡ Some y) ⊎ Detour w r v y → (heard w r v u ≡ Some y) × (w.graph.number y.node ≡ w.graph.number x.node) × (size y.path ≡ size x.path)
        by (inl g) = (let a = next_comes_first w size r v x y next (inl (u, g)) soon in (g, a.1, a.2))
        by (inr d) = never (next.before y d)
          where
            never : Sooner w size x y → (heard w r v u ≡ Some y) × (w.graph.number y.node ≡ w.graph.number x.node) × (size y.path ≡ size x.path)
            never (inl l) = (let m = soon.number in absurd (omega (arith, l, m)))
            never (inr l) = (let k = l.1 in let b = soon.shorter (sym l.0) in absurd (omega (arith, k, b)))

    -- and the other way round
    settled_tie : (u : ℕ) (y : Route) → heard w r v u ≡ Some y → w.graph.number y.node ≡ w.graph.number x.node → size y.path ≡ size x.path → TiesAt w size o v u y
    settled_tie u y g n l = (there u y g, λ t z e. by t z (back t z e))
      where
        later : (z : Route) → NoneSooner w size x z → NoneSooner w size y z
        later z a = record {
          number = (let m = a.number in omega (arith, m, n));
          shorter = λ e. (let s = a.shorter (e ∙ n) in omega (arith, s, l));
        }

        of_sooner : (z : Route) → Sooner w size x z → NoneSooner w size y z
        of_sooner z (inl k) = record { number = omega (arith, k, n); shorter = λ e. absurd (omega (arith, k, n, e)) }
        of_sooner z (inr k) = (let same = k.0 in let less = k.1 in record { number = omega (arith, same, n); shorter = λ e. omega (arith, less, l) })

        by : (t : ℕ) (z : Route) → (heard w r v t ≡ Some z) ⊎ Detour w r v z → NoneSooner w size y z
        by t z (inl e) = later z (next.first t z e)
        by t z (inr d) = of_sooner z (next.before z d)

    pub are_tied : (u : ℕ) → (ties_of u ≡ true → (y : Route) × TiesAt w size o v u y) × ((y : Route) → TiesAt w size o v u y → ties_of u ≡ true)
    are_tied u = (λ t. (let a = ties_given u t in (a.0, settled_tie u a.0 a.1 a.2 a.3)), λ y t. (let a = tie_settled u y t in ties_from u y a.0 a.1 a.2))

    -- somebody gives v a route
    pub given_some : ((u : ℕ) → heard w o v u ≡ None) → ⊥
    given_some none = (let z = sym (none next.from) ∙ there next.from x next.gives in absurd (cc))
