-- Which nodes are reached by surviving steps, and the best of them at each location.
use Rattle.std.proofs.Common.{◌≡◌, ℕ, zero, suc, ◌<◌, ◌≤◌, true, ◌&&◌, ◌⊎◌, inl, inr, List, [], ◌∷◌, Option, Some, None, eqb, refl, sym, ap, ◌∙◌, subst, arith}
use Rattle.std.specs.Option.{option_and_then}
use Rattle.std.proofs.lemmas.Bool.{and_parts, and_from, or_cases, or_left, or_right, cases_lt, eqb-true, eq-eqb, false≢true}
use Rattle.routing_law.specs.Graph.{WellFormed, run}
use Rattle.routing_law.specs.Network.{survives}
use Rattle.routing_law.specs.Outcome.{ReachedAt, Setup}
use Rattle.routing_law.specs.Settling.{Marks, ReachEnds, Tops, Within, any_below, is_node, reached, reached_at, steps_on, top_at}
use Rattle.routing_law.proofs.Runs.{node_below, run_more, run_place}
use Rattle.routing_law.proofs.Saturate.{IsHighest, comes_to_rest, highest_is}

pub is_node_true : (o : Option ℕ) (n : ℕ) → is_node o n ≡ true → o ≡ Some n
is_node_true None n h = absurd (false≢true h)
is_node_true (Some m) n h = ap Some (eqb-true m n h)

pub is_node_from : (o : Option ℕ) (n : ℕ) → o ≡ Some n → is_node o n ≡ true
is_node_from o n h = rw h (eq-eqb n n refl)

pub any_at : (f : Marks) (n : ℕ) → any_below f n ≡ true → (i : ℕ) × (i < n) × (f i ≡ true)
any_at f zero h = absurd (false≢true h)
any_at f (suc n) h = last (or_cases (f n) (any_below f n) h) (any_at f n)
  where
    last : (f n ≡ true) ⊎ (any_below f n ≡ true) → (any_below f n ≡ true → (i : ℕ) × (i < n) × (f i ≡ true)) → (i : ℕ) × (i < suc n) × (f i ≡ true)
    last (inl e) again = (n, omega arith, e)
    last (inr e) again = let a = again e in (a.0, omega (arith, a.1), a.2)

pub any_from : (f : Marks) (n i : ℕ) → i < n → f i ≡ true → any_below f n ≡ true
any_from f zero i l h = absurd (omega arith)
any_from f (suc n) i l h = last (cases_lt i n) (any_from f n i)
  where
    last : (i < n) ⊎ (n ≤ i) → (i < n → f i ≡ true → any_below f n ≡ true) → any_below f (suc n) ≡ true
    last (inl m) again = or_right (f n) (any_below f n) (again m h)
    last (inr m) again = let e : i ≡ n = omega arith in or_left (f n) (any_below f n) (subst (λ k. f k ≡ true) e h)

reached_walk : (w : Setup) → WellFormed w.net w.graph → (k n : ℕ) → reached w k n ≡ true → ReachedAt w (w.graph.place n) n
reached_walk w wf zero n h =
    let a = and_parts (w.alive.live (w.graph.place n)) (is_node (w.graph.start (w.graph.place n)) n) h in
    record { rest = []; runs = is_node_true (w.graph.start (w.graph.place n)) n a.1; lives = a.0 }
reached_walk w wf (suc k) n h = by (or_cases (reached w k n) (any_below (λ m. reached w k m && steps_on w m n) w.graph.nodes) h) (reached_walk w wf k)
  where
    by : (reached w k n ≡ true) ⊎ (any_below (λ m. reached w k m && steps_on w m n) w.graph.nodes ≡ true)
        → ((m : ℕ) → reached w k m ≡ true → ReachedAt w (w.graph.place m) m) → ReachedAt w (w.graph.place n) n
    by (inl e) again = again n e
    by (inr e) again =
        let a = any_at (λ m. reached w k m && steps_on w m n) w.graph.nodes e in
        let b = and_parts (reached w k a.0) (steps_on w a.0 n) a.2 in
        let c = and_parts (w.alive.live (w.graph.place n)) (w.alive.carries (w.graph.place a.0) (w.graph.place n) && is_node (w.graph.next a.0 (w.graph.place n)) n) b.1 in
        let d = and_parts (w.alive.carries (w.graph.place a.0) (w.graph.place n)) (is_node (w.graph.next a.0 (w.graph.place n)) n) c.1 in
        let g = again a.0 b.0 in
        record {
          rest = w.graph.place a.0 ∷ g.rest;
          runs = ap (option_and_then (λ m. w.graph.next m (w.graph.place n))) g.runs ∙ is_node_true (w.graph.next a.0 (w.graph.place n)) n d.1;
          lives =
              and_from (w.alive.live (w.graph.place n))
              (w.alive.carries (w.graph.place a.0) (w.graph.place n) && survives w.alive (w.graph.place a.0 ∷ g.rest)) c.0
              (and_from (w.alive.carries (w.graph.place a.0) (w.graph.place n)) (survives w.alive (w.graph.place a.0 ∷ g.rest)) d.0 g.lives);
        }

-- a time when nothing new is reached has all
module _ (w : Setup) (wf : WellFormed w.net w.graph) where
  all_reached : (k : ℕ) → Within w.graph.nodes (reached w (suc k)) (reached w k) → (rest : List ℕ) (v n : ℕ) → run w.graph (v ∷ rest) ≡ Some n
      → survives w.alive (v ∷ rest) ≡ true → reached w k n ≡ true
  all_reached k closed [] v n h l =
      let p = wf.start_place v n h in
      at_start k (and_from (w.alive.live (w.graph.place n)) (is_node (w.graph.start (w.graph.place n)) n) (ap w.alive.live p ∙ l)
      (is_node_from (w.graph.start (w.graph.place n)) n (ap w.graph.start p ∙ h)))
    where
      at_start : (j : ℕ) → reached w zero n ≡ true → reached w j n ≡ true
      at_start zero e = e
      at_start (suc j) e = or_left (reached w j n) (any_below (λ m. reached w j m && steps_on w m n) w.graph.nodes) (at_start j e)
  all_reached k closed (u ∷ q) v n h l =
      let a = run_more w.graph v u q n h in
      let b = and_parts (w.alive.live v) (w.alive.carries u v && survives w.alive (u ∷ q)) l in
      let c = and_parts (w.alive.carries u v) (survives w.alive (u ∷ q)) b.1 in
      let at = wf.next_place a.0 v n a.2 in
      let from = run_place wf u q a.0 a.1 in
      let live : w.alive.live (w.graph.place n) ≡ true = ap w.alive.live at ∙ b.0 in
      let carried : w.alive.carries (w.graph.place a.0) (w.graph.place n) ≡ true = rw (from, at) c.0 in
      let steps : w.graph.next a.0 (w.graph.place n) ≡ Some n = ap (w.graph.next a.0) at ∙ a.2 in
      let on : steps_on w a.0 n ≡ true = rw (live, carried) (is_node_from (w.graph.next a.0 (w.graph.place n)) n steps) in
      let before = all_reached k closed q u a.0 a.1 c.1 in
      closed n (wf.next_below a.0 v n a.2).2 (or_right (reached w k n) _ (any_from (λ m. reached w k m && steps_on w m n) w.graph.nodes a.0 (node_below wf q u a.0 a.1) (rw before on)))

module _ (f : Marks) (measure : ℕ → ℕ) (n : ℕ) where
  top_marked : (o : Option ℕ) → IsHighest f measure n o → (i : ℕ) → o ≡ Some i → f i ≡ true
  top_marked None h i e = absurd (cc)
  top_marked (Some k) h i e = let x : k ≡ i = cc in subst (λ j. f j ≡ true) x h.1

  top_over : (o : Option ℕ) → IsHighest f measure n o → (j : ℕ) → j < n → f j ≡ true → (i : ℕ) × (o ≡ Some i) × (measure j ≤ measure i)
  top_over None h j l e = absurd (false≢true (sym (h j l) ∙ e))
  top_over (Some k) h j l e = (k, refl, h.2 j l e)

abbrev tops_at : (w : Setup) → WellFormed w.net w.graph → (time : ℕ) → Within w.graph.nodes (reached w (suc time)) (reached w time) → Tops w
tops_at w wf time rests = record {
  top = top_at w time;
  is_reached = λ v n e.
      let a = and_parts (reached w time n) (eqb (w.graph.place n) v) (top_marked (reached_at w time v) w.graph.number w.graph.nodes (top_at w time v)
      (highest_is (reached_at w time v) w.graph.number w.graph.nodes) n e) in
      subst (λ u. ReachedAt w u n) (eqb-true (w.graph.place n) v a.1) (reached_walk w wf time n a.0);
  over = λ v m r.
      top_over (reached_at w time v) w.graph.number w.graph.nodes (top_at w time v) (highest_is (reached_at w time v) w.graph.number w.graph.nodes) m (node_below wf r.rest v m r.runs)
      (and_from (reached w time m) (eqb (w.graph.place m) v) (all_reached w wf time rests r.rest v m r.runs r.lives) (eq-eqb (w.graph.place m) v (run_place wf v r.rest m r.runs)));
}

pub reach_ends : ReachEnds
reach_ends w wf time rests = (tops_at w wf time rests, λ v. refl)

pub tops : (w : Setup) → WellFormed w.net w.graph → Tops w
tops w wf =
    let a = comes_to_rest w.graph.nodes (reached w) (λ k n e. or_left (reached w k n) (any_below (λ m. reached w k m && steps_on w m n) w.graph.nodes) e) in
    tops_at w wf a.0 a.1
