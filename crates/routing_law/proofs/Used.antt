-- What a stable outcome of the lines uses and offers.
use Rattle.std.proofs.Common.{◌≡◌, ℕ, ◌≤◌, true, false, cond, ◌&&◌, List, ◌∷◌, Some, None, sym, ap, ◌∙◌, subst, arith}
use Rattle.std.specs.Option.{option_and_then}
use Rattle.std.proofs.lemmas.Bool.{and_parts}
use Rattle.std.proofs.lemmas.Option.{same_Some}
use Rattle.list_law.proofs.Options.{option_and_then_parts, unless_parts, when_parts}
use Rattle.routing_law.specs.Graph.{run}
use Rattle.routing_law.specs.Laws.{GoodOffer, GoodRoute, LinesAreRight, NumberIsGreatest, PlainNumbersPass, Sound, UsedPathsAreSound}
use Rattle.routing_law.specs.Lines.{LineRoute, LineRoutes, Lines, LinesStable, Tag, offered, offered_of}
use Rattle.routing_law.specs.Network.{Alive, loop_free, stands_on, survives}
use Rattle.routing_law.specs.Outcome.{Route, Routes, Same, Setup, Stable, with_nodes}
use Rattle.routing_law.specs.Spells.{Written}
use Rattle.routing_law.proofs.Bridge.{graph_stable, live_of, same_routes, tied_nodes}
use Rattle.routing_law.proofs.Heard.{chooses_from}
use Rattle.routing_law.proofs.Highest.{chosen_is_reached, greatest}
use Rattle.routing_law.proofs.Right.{best_offer, best_rank}
use Rattle.routing_law.proofs.Runs.{first_lives}
use Rattle.routing_law.proofs.Sound.{sound}
use Rattle.routing_law.proofs.Steps.{exports_are_steps}
use Rattle.routing_law.proofs.Tied.{Tied, step_of}

pub plain_numbers_pass : PlainNumbersPass
plain_numbers_pass net g one same = record {
  step = λ m n z n' at al ro h.
      let e = one m n al.known al.other al.place in
      (n', ap (λ k. g.next k z) e ∙ h, omega arith);
  loop = λ m n z n' k at al ro h kb p c. omega (arith, same n' k);
}

-- an offer, taken apart
pub offered_parts : (alive : Alive) (c : Lines) (r : LineRoutes) (u p : ℕ) (q : List ℕ) → offered alive c r u p ≡ Some q
    → (z : LineRoute) × (alive.carries u p ≡ true) × (r u ≡ Some z) × (c.exported u p z.tag ≡ true) × (stands_on p z.path ≡ false) × (q ≡ p ∷ z.path)
offered_parts alive c r u p q h =
    let a = when_parts (alive.carries u p) (option_and_then (offered_of c u p) (r u)) q h in
    let b = option_and_then_parts (offered_of c u p) (r u) q a.1 in
    let e = when_parts (c.exported u p b.0.tag) (cond (stands_on p b.0.path) None (Some (p ∷ b.0.path))) q b.2 in
    let f = unless_parts (stands_on p b.0.path) (Some (p ∷ b.0.path)) q e.1 in
    (b.0, a.0, b.1, e.0, f.0, sym (same_Some (p ∷ b.0.path) q f.1))

-- a route that is good in the graph is good
module _ (w : Setup) (tag : ℕ → Tag) where
  good_route : (s : Routes) (v : ℕ) (x : LineRoute) (y : Route) → Sound w s v y → Same w.graph tag x y → GoodRoute w tag v x
  good_route s v x y a e = record {
    rest = a.rest;
    begins = e.path_is ∙ a.begins;
    free = ap loop_free e.path_is ∙ a.free;
    lives = ap (survives w.alive) e.path_is ∙ a.lives;
    node = y.node;
    runs = ap (run w.graph) e.path_is ∙ a.runs;
    tag_is = e.tag_is;
    pref_is = e.pref_is;
  }

module _ (w : Setup) (tag : ℕ → Tag) (c : Lines) (r : LineRoutes) (written : Written w.net w.graph tag c) (stable : LinesStable w.net w.alive c r) where
  graph : Stable w (with_nodes w r)
  graph = graph_stable w tag c r written stable

  tied : Tied w tag c r (with_nodes w r)
  tied = tied_nodes w tag c r written stable

  -- the graph's route behind one of the lines
  route_down : (v : ℕ) (x : LineRoute) → w.net.router v ≡ true → w.net.origin v ≡ false → r v ≡ Some x → (y : Route) × (with_nodes w r v ≡ Some y) × Same w.graph tag x y
  route_down v x ro o h = (same_routes w tag c r written stable).down v x (chooses_from w v ro (live_of w tag c r written stable v x ro h) o) h

  routes : (v : ℕ) (x : LineRoute) → w.net.router v ≡ true → w.net.origin v ≡ false → r v ≡ Some x → GoodRoute w tag v x
  routes v x ro o h =
      let a = route_down v x ro o h in
      good_route w tag (with_nodes w r) v x a.0 (sound w (with_nodes w r) graph v a.0 a.1) a.2

  offers : (u p : ℕ) (q : List ℕ) → w.net.router u ≡ true → w.alive.live p ≡ true → offered w.alive c r u p ≡ Some q → GoodOffer w u p q
  offers u p q ro l h =
      let a = offered_parts w.alive c r u p q h in
      let y = tied.down u p a.0 ro a.2 a.3 in
      let x = exports_are_steps w.net w.graph tag c written u p y.node y.rest ro y.runs (ap (c.exported u p) (sym y.tag_is) ∙ a.3) in
      let s = sound w (with_nodes w r) graph u (record { path = u ∷ y.rest; node = y.node }) y.has in
      let begins : q ≡ p ∷ u ∷ y.rest = a.5 ∙ ap (λ z. p ∷ z) y.begins in
      let off : stands_on p (u ∷ y.rest) ≡ false = ap (stands_on p) (sym y.begins) ∙ a.4 in
      let free : loop_free (p ∷ u ∷ y.rest) ≡ true = rw off s.free in
      let lives : survives w.alive (p ∷ u ∷ y.rest) ≡ true = rw (l, a.1) s.lives in
      let runs : run w.graph (p ∷ u ∷ y.rest) ≡ Some x.0 = ap (option_and_then (λ n. w.graph.next n p)) y.runs ∙ x.1 in
      offer y.rest x.0 begins free lives runs
    where
      offer : (rest : List ℕ) (node : ℕ) → q ≡ p ∷ u ∷ rest → loop_free (p ∷ u ∷ rest) ≡ true → survives w.alive (p ∷ u ∷ rest) ≡ true → run w.graph (p ∷ u ∷ rest) ≡ Some node → GoodOffer w u p q
      offer rest node e free lives runs = record { rest = rest; begins = e; free = ap loop_free e ∙ free; lives = ap (survives w.alive) e ∙ lives; node = node; runs = ap (run w.graph) e ∙ runs }

pub used_paths_are_sound : UsedPathsAreSound
used_paths_are_sound w tag c r written stable = record { routes = routes w tag c r written stable; offers = offers w tag c r written stable }

pub number_is_greatest : NumberIsGreatest
number_is_greatest w tag c r written rules stable = record {
  over = λ v n ro o a.
      let y = greatest w (with_nodes w r) written.formed rules (graph_stable w tag c r written stable) v n ro a in
      let x = (same_routes w tag c r written stable).up v y.0 (chooses_from w v ro (first_lives w.alive v a.rest a.lives) o) y.1 in
      (x.0, x.1, subst (λ p. w.graph.number n ≤ p) (sym x.2.pref_is) y.2);
  reached = λ v x ro o h.
      let y = route_down w tag c r written stable v x ro o h in
      (y.0.node, chosen_is_reached w (with_nodes w r) (graph_stable w tag c r written stable) v y.0 y.1, y.2.tag_is, y.2.pref_is);
}

pub lines_are_right : LinesAreRight
lines_are_right w tag k c r written rules ranked stable = record {
  routers = λ v rest i ro o so h l.
      let a = best_rank w k (with_nodes w r) written.formed rules ranked (graph_stable w tag c r written stable) v rest i ro so h l in
      let b = (same_routes w tag c r written stable).up v a.0 (chooses_from w v ro (first_lives w.alive v rest l) o) a.2 in
      (b.0, a.1, b.1, ap k.of_path b.2.path_is ∙ a.3, a.4);
  sessions = λ u p rest i ru rp o so h l.
      let s1 = and_parts (w.alive.live p) (w.alive.carries u p && survives w.alive (u ∷ rest)) l in
      let s2 = and_parts (w.alive.carries u p) (survives w.alive (u ∷ rest)) s1.1 in
      let a = best_offer w k (with_nodes w r) written.formed rules ranked (graph_stable w tag c r written stable) u p rest i ru rp o so h s2.1 in
      let t = tied_nodes w tag c r written stable in
      let z = t.up u a.0 ru a.3 in
      let over = step_of w tag c written r (with_nodes w r) t u p a.0 a.1 a.3 a.4 in
      let ex : c.exported u p z.0.tag ≡ true = ap (c.exported u p) z.3 ∙ written.lines.exports u p a.0.node a.1 ru over in
      (p ∷ z.0.path, a.2, offer u p z.0 s2.0 z.1 ex (ap (stands_on p) z.2 ∙ a.5), ap (λ q. k.of_path (p ∷ q)) z.2 ∙ a.6, a.7);
}
  where
    offer : (u p : ℕ) (x : LineRoute) → w.alive.carries u p ≡ true → r u ≡ Some x → c.exported u p x.tag ≡ true → stands_on p x.path ≡ false → offered w.alive c r u p ≡ Some (p ∷ x.path)
    offer u p x ca e ex off = rw (ca, e, ex, off)
