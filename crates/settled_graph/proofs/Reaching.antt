-- What is reached in the part of a graph that is alive.
use Rattle.std.proofs.Common.{◌≡◌, ◌↔◌, ℕ, ◌<◌, Bool, true, List, [], ◌∷◌, ◌++◌, length, Option, Some, refl, sym, ap, ◌∙◌, subst, arith}
use Rattle.std.specs.Option.{option_and_then}
use Rattle.std.proofs.lemmas.Bool.{and_from, and_parts}
use Rattle.net_base.specs.declared.loc.LocSet.{LocSet}
use Rattle.net_base.specs.Network.{PlainNet}
use Rattle.graph_base.specs.Graphs.{PlainGraph}
use Rattle.graph_base.specs.Runs.{place_of, has_step, IsTrail}
use Rattle.reach_prune.specs.Ways.{LeadsFrom}
use Rattle.reach_prune.specs.declared.steps.Way.TheVariants.{Forward}
use Rattle.reach_prune.proofs.Trails.{trail_more}
use Rattle.routing_law.specs.Graph.{run}
use Rattle.routing_law.specs.Network.{survives}
use Rattle.routing_law.specs.Outcome.{ReachedAt, Setup}
use Rattle.routing_law.specs.Settling.{Tops}
use Rattle.routing_law.proofs.Runs.{node_below, run_more, run_place}
use Rattle.settled_graph.specs.Best.{AreBest, entry_at}
use Rattle.settled_graph.specs.Grounds.{IsGround}

module _ (net : PlainNet) (g : PlainGraph) (numbers : List ℕ) (choosers : LocSet) (w : Setup) (ground : IsGround net g numbers choosers w) where
  abbrev Reached : ℕ → Type 0
  Reached n = ReachedAt w (w.graph.place n) n

  -- ---- where steps lead from a start is reached

  onward : (a c : ℕ) → Reached a → has_step g a c ≡ true → Reached c
  onward a c r step =
      let s = (ground.steps a c).0 step in
      record {
        rest = w.graph.place a ∷ r.rest;
        runs = ap (option_and_then (λ n. w.graph.next n (w.graph.place c))) r.runs ∙ s.1;
        lives = and_from (w.alive.live (w.graph.place c)) _ (ground.ends (w.graph.place a) (w.graph.place c) s.0) (and_from (w.alive.carries (w.graph.place a) (w.graph.place c)) _ s.0 r.lives);
      }

  along : (a n : ℕ) (via : List ℕ) → Reached a → IsTrail g a via n → Reached n
  along a n [] r e = subst Reached e r
  along a n (c ∷ cs) r e = along c n cs (onward a c r e.0) e.1

  pub reached : (n : ℕ) → LeadsFrom Forward g g.starts n → Reached n
  reached n led =
      let s = (ground.starts led.0).0 led.1 in
      along led.0 n led.2.0 (record { rest = []; runs = s.1; lives = s.0 }) led.2.1

  -- ---- and what is reached is led to

  led_to : (v n : ℕ) (rest : List ℕ) → run w.graph (v ∷ rest) ≡ Some n → survives w.alive (v ∷ rest) ≡ true → LeadsFrom Forward g g.starts n
  led_to v n [] runs lives =
      let at : w.graph.place n ≡ v = ground.formed.start_place v n runs in
      (n, (ground.starts n).1 (ap w.alive.live at ∙ lives, ap w.graph.start at ∙ runs), ([], refl))
  led_to v n (u ∷ p) runs lives =
      let m = run_more w.graph v u p n runs in
      let parts = and_parts (w.alive.live v) _ lives in
      let on = and_parts (w.alive.carries u v) (survives w.alive (u ∷ p)) parts.1 in
      let before = led_to u m.0 p m.1 on.1 in
      let from : w.graph.place m.0 ≡ u = run_place ground.formed u p m.0 m.1 in
      let to : w.graph.place n ≡ v = ground.formed.next_place m.0 v n m.2 in
      let step = (ground.steps m.0 n).1 (ap (λ k. w.alive.carries k (w.graph.place n)) from ∙ ap (w.alive.carries u) to ∙ on.0, ap (w.graph.next m.0) to ∙ m.2) in
      (before.0, before.1, (before.2.0 ++ n ∷ [], trail_more g before.0 m.0 n before.2.0 before.2.1 step))

  pub led : (v n : ℕ) → ReachedAt w v n → (w.graph.place n ≡ v) × (n < w.graph.nodes) × LeadsFrom Forward g g.starts n
  led v n r = (run_place ground.formed v r.rest n r.runs, node_below ground.formed r.rest v n r.runs, led_to v n r.rest r.runs r.lives)

  -- ---- so the best of what is led to are the best nodes

  pub tops : (marked : ℕ → Bool) (best : List (Option ℕ)) → ((n : ℕ) → n < length g.nodes → (marked n ≡ true) ↔ LeadsFrom Forward g g.starts n)
      → AreBest g numbers marked (length g.nodes) best → Tops w
  tops marked best exact are = record {
    top = entry_at best;
    is_reached = λ v n e.
        let m = are.here v n e in
        subst (λ l. ReachedAt w l n) (ground.place n ∙ m.2) (reached n ((exact n m.0).0 m.1));
    over = λ v m r.
        let l = led v m r in
        let low : m < length g.nodes = omega (arith, l.1, ground.count) in
        let b = are.over m low ((exact m low).1 l.2) in
        let at : place_of g m ≡ v = sym (ground.place m) ∙ l.0 in
        (b.0, ap (entry_at best) (sym at) ∙ b.1, omega (arith, b.2, ground.number m, ground.number b.0));
  }

  pub tops-top : (marked : ℕ → Bool) (best : List (Option ℕ))
      (exact : (n : ℕ) → n < length g.nodes → (marked n ≡ true) ↔ LeadsFrom Forward g g.starts n)
      (are : AreBest g numbers marked (length g.nodes) best) (v : ℕ) → (tops marked best exact are).top v ≡ entry_at best v
  unfolding tops
  tops-top marked best exact are v = refl
