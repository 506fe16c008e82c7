-- A path that a router holds without a loop passes routers alone up to its end, so it has at most one place more than there are routers.
use Rattle.std.proofs.Common.{◌≡◌, ℕ, suc, ◌<◌, ◌≤◌, true, not, inl, inr, List, [], ◌∷◌, length, Some, eqb, refl, sym, ap, ◌∙◌, arith}
use Rattle.std.proofs.lemmas.Bool.{and_parts, eq-eqb, not-true, or_cases, or_left, or_right, true≢false}
use Rattle.routing_law.specs.Graph.{Graph, WellFormed, run}
use Rattle.routing_law.specs.Network.{Network, loop_free, stands_on}
use Rattle.routing_law.proofs.Runs.{run_more, run_place}
use Rattle.routing_law.proofs.Saturate.{count_below, count_bound, count_more}

module _ {net : Network} {g : Graph} (wf : WellFormed net g) (routers : ℕ) (below : (v : ℕ) → net.router v ≡ true → v < routers) where
  -- who passes a route on is a router
  passes : (v u z : ℕ) (q : List ℕ) (m n : ℕ) → run g (u ∷ z ∷ q) ≡ Some m → g.next m v ≡ Some n → net.router u ≡ true
  passes v u z q m n runs step =
      let at = run_place wf u (z ∷ q) m runs in
      let before = run_more g u z q m runs in
      elim (or_cases (net.origin (g.place m)) (net.router (g.place m)) (wf.next_from m v n step)) [
        | inl o ↦ absurd (true≢false (sym o ∙ ap net.origin at ∙ wf.next_origin before.0 u m before.2))
        | inr r ↦ ap net.router (sym at) ∙ r
      ]

  -- each place but the last is another router
  counted : (v : ℕ) (p : List ℕ) (n : ℕ) → net.router v ≡ true → run g (v ∷ p) ≡ Some n → loop_free (v ∷ p) ≡ true → length p ≤ count_below (λ k. stands_on k (v ∷ p)) routers
  counted v [] n router runs free = omega arith
  counted v (u ∷ q) n router runs free = (let l = rest q refl (counted u q) in omega (arith, l, more))
    where
      parts : (not (stands_on v (u ∷ q)) ≡ true) × (loop_free (u ∷ q) ≡ true)
      parts = and_parts (not (stands_on v (u ∷ q))) (loop_free (u ∷ q)) free

      more : count_below (λ k. stands_on k (u ∷ q)) routers < count_below (λ k. stands_on k (v ∷ u ∷ q)) routers
      more =
          count_more (λ k. stands_on k (u ∷ q)) (λ k. stands_on k (v ∷ u ∷ q)) (λ k e. or_right (eqb v k) (stands_on k (u ∷ q)) e) routers v (below v router)
          (not-true (stands_on v (u ∷ q)) parts.0) (or_left (eqb v v) (stands_on v (u ∷ q)) (eq-eqb v v refl))

      rest : (s : List ℕ) → q ≡ s → ((m : ℕ) → net.router u ≡ true → run g (u ∷ q) ≡ Some m → loop_free (u ∷ q) ≡ true → length q ≤ count_below (λ k. stands_on k (u ∷ q)) routers)
          → length q ≤ count_below (λ k. stands_on k (u ∷ q)) routers
      rest [] e again = (let none : length q ≡ 0 = ap length e in omega (arith, none))
      rest (z ∷ s) e again =
          let a = run_more g v u q n runs in
          let there : run g (u ∷ z ∷ s) ≡ Some a.0 = ap (λ p. run g (u ∷ p)) (sym e) ∙ a.1 in
          again a.0 (passes v u z s a.0 n there a.2) a.1 parts.1

  pub short : (v : ℕ) (p : List ℕ) (n : ℕ) → net.router v ≡ true → run g (v ∷ p) ≡ Some n → loop_free (v ∷ p) ≡ true → length (v ∷ p) ≤ suc routers
  short v p n router runs free = omega (arith, counted v p n router runs free, count_bound (λ k. stands_on k (v ∷ p)) routers)
