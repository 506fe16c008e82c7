-- Among its candidates a router's firm route comes first.
use Rattle.std.proofs.Common.{◌≡◌, ℕ, ◌⊎◌, inl, inr, List, [], ◌∷◌, length, Some, refl, subst, sym, ap, ◌∙◌, arith, true, ◌&&◌, ◌++◌}
use Rattle.std.proofs.lemmas.Bool.{and_parts}
use Rattle.routing_law.specs.Graph.{WellFormed, run}
use Rattle.routing_law.specs.Network.{NamesDiffer, giver, survives}
use Rattle.routing_law.specs.Outcome.{NoLater, Route, Routes, Setup, heard}
use Rattle.routing_law.proofs.Heard.{heard_from, heard_parts}
use Rattle.routing_law.proofs.Runs.{run_more}
use Rattle.routing_law.proofs.Sound.{Backed, giver_is, route_is, sound_of}
use Rattle.rest_law.specs.SecureLaws.{FirmComesFirst, GivenAreCandidates, NothingIsLeft, OpenWaysAreHeld}
use Rattle.rest_law.specs.Partial.{AllOpen, Before, CanHold, IsOpen, PartlySettled}
use Rattle.rest_law.proofs.Firm.{before_no_later}
use Rattle.rest_law.proofs.Secure.{backed_of, giver_below}
use Rattle.rest_law.proofs.Search.{off_path}

not_both : (w : Setup) (x y : Route) → Before w x y → NoLater w y x → ⊥
not_both w x y (inl l) a = omega (arith, l, a.number)
not_both w x y (inr l) a = omega (arith, l.1, a.fewer (sym l.0))

-- of two that are given neither of which comes later, both are one
one_giver : (w : Setup) (r : Routes) → NamesDiffer w.net → WellFormed w.net w.graph → PartlySettled w r → (v u t : ℕ) (x y : Route)
    → heard w r v u ≡ Some x → heard w r v t ≡ Some y → NoLater w x y → NoLater w y x → y ≡ x
one_giver w r differ wf ps v u t x y h g a b =
    let bk = backed_of w r ps in
    let even : w.graph.number y.node ≡ w.graph.number x.node = omega (arith, a.number, b.number) in
    let long : length x.path ≡ length y.path = omega (arith, a.fewer even, b.fewer (sym even)) in
    let le = a.lower even long in
    let ge = b.lower (sym even) (sym long) in
    let named : w.net.name (giver x.path) ≡ w.net.name (giver y.path) = omega (arith, le, ge) in
    let gx = giver_is w r bk v u x (heard_parts w r v u x h) in
    let gy = giver_is w r bk v t y (heard_parts w r v t y g) in
    let names : w.net.name u ≡ w.net.name t = ap w.net.name (sym gx) ∙ named ∙ ap w.net.name gy in
    let same : u ≡ t = differ u t (giver_below w wf r bk v u x h) (giver_below w wf r bk v t y g) names in
    let z : Some y ≡ Some x = sym g ∙ ap (heard w r v) (sym same) ∙ h in
    cc

pub firm_comes_first : FirmComesFirst
firm_comes_first w r differ wf ps v u x y f h (inl c) = (f.first c.0 y c.1, λ a. one_giver w r differ wf ps v u c.0 x y h c.1 (f.first c.0 y c.1) a)
firm_comes_first w r differ wf ps v u x y f h (inr d) = let b = f.before y d in (before_no_later w x y b, λ a. absurd (not_both w x y b a))

pub nothing_is_left : NothingIsLeft
nothing_is_left w r ps quiet = none
  where
    none : (p : List ℕ) (n : ℕ) → CanHold w r p n → ⊥
    none [] n h = h
    none (v ∷ []) n h = h
    none (v ∷ u ∷ p) n h = by h.2.2 (none (u ∷ p) h.2.0)
      where
        by : (r u ≡ Some (record { path = u ∷ p; node = h.2.0 })) ⊎ CanHold w r (u ∷ p) h.2.0 → (CanHold w r (u ∷ p) h.2.0 → ⊥) → ⊥
        by (inr c) again = again c
        by (inl e) again =
            let y : Route = record { path = u ∷ p; node = h.2.0 } in
            quiet v u (record { path = v ∷ u ∷ p; node = n }) h.0 (heard_from w r v u y n e h.1 (off_path w r (backed_of w r ps) v u y h.0 e) h.2.1)

pub given_are_candidates : GivenAreCandidates
given_are_candidates w r v u m n p c off st (inl e) = inl (u, heard_from w r v u (record { path = u ∷ p; node = m }) n e c off st)
given_are_candidates w r v u m n p c off st (inr h) = inr (record { by = u; rest = p; node = m; path = refl; carries = c; held = h; step = st })

module _ (w : Setup) (r : Routes) (bk : Backed w r) where
  -- one step from a settled route
  next_to_settled : (v u n : ℕ) (y : Route) → IsOpen w r v → r u ≡ Some y → survives w.alive (v ∷ y.path) ≡ true → run w.graph (v ∷ y.path) ≡ Some n → CanHold w r (v ∷ y.path) n
  next_to_settled v u n y o e l h =
      let s = sound_of w r bk u y e in
      let lives = subst (λ p. survives w.alive (v ∷ p) ≡ true) s.begins l in
      let a = run_more w.graph v u s.rest n (subst (λ p. run w.graph (v ∷ p) ≡ Some n) s.begins h) in
      let same : y.node ≡ a.0 = some_is (sym s.runs ∙ ap (run w.graph) s.begins ∙ a.1) in
      let carries = (and_parts (w.alive.carries u v) (survives w.alive (u ∷ s.rest)) (and_parts (w.alive.live v) (w.alive.carries u v && survives w.alive (u ∷ s.rest)) lives).1).0 in
      let has : r u ≡ Some (record { path = u ∷ s.rest; node = a.0 }) = e ∙ ap Some (route_is y (u ∷ s.rest) s.begins) ∙ ap (λ m. Some (record { path = u ∷ s.rest; node = m })) same in
      let held : CanHold w r (v ∷ u ∷ s.rest) n = (o, carries, (a.0, a.2, inl has)) in
      subst (λ p. CanHold w r (v ∷ p) n) (sym s.begins) held
    where
      some_is : {a b : ℕ} → Some a ≡ Some b → a ≡ b
      some_is e = cc

  way_is_held : (vs : List ℕ) (v u n : ℕ) (y : Route) → AllOpen w r (v ∷ vs) → r u ≡ Some y → survives w.alive (v ∷ vs ++ y.path) ≡ true
      → run w.graph (v ∷ vs ++ y.path) ≡ Some n → CanHold w r (v ∷ vs ++ y.path) n
  way_is_held [] v u n y o e l h = next_to_settled v u n y o.0 e l h
  way_is_held (t ∷ vs) v u n y o e l h =
      let a = run_more w.graph v t (vs ++ y.path) n h in
      let b = and_parts (w.alive.carries t v) (survives w.alive (t ∷ vs ++ y.path)) (and_parts (w.alive.live v) (w.alive.carries t v && survives w.alive (t ∷ vs ++ y.path)) l).1 in
      (o.0, b.0, (a.0, a.2, inr (way_is_held vs t u a.0 y o.1 e b.1 a.1)))

pub open_ways_are_held : OpenWaysAreHeld
open_ways_are_held w r ps v vs u n y o e l h = way_is_held w r (backed_of w r ps) vs v u n y o e l h
