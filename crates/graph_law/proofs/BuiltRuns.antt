-- Runs of the graph that is built are the walks that stay alive.
use Rattle.std.proofs.Common.{◌≡◌, ◌⊎◌, ℕ, zero, suc, ◌<◌, true, false, not, ◌&&◌, ◌||◌, List, [], ◌∷◌, map, length, slice_get, Some, refl, sym, ap, ◌∙◌, inl, inr, arith}
use Rattle.std.proofs.lemmas.Bool.{and_parts, and_from, or_left, or_right, not-true, not_from_false}
use Rattle.std.proofs.lemmas.Option.{same_Some, slice_get_within}
use Rattle.net_base.specs.Network.{PlainNet, IsNet, is_router, linked}
use Rattle.path_exprs.specs.Derivative.{derivative}
use Rattle.net_base.specs.NetSets.{locations}
use Rattle.path_exprs.specs.Runs.{start_of}
use Rattle.graph_base.specs.Runs.{place_of, is_start, has_step}
use Rattle.walk_states.specs.Built.{graph_over}
use Rattle.path_exprs.specs.Standings.{Plan, Standing, AreStandings, starts, moved, may_go, is_dead}
use Rattle.policy_base.specs.CaseOrigins.{AreOrigins}
use Rattle.graph_law.specs.Ways.{left_after, standing_after, stays_alive}
use Rattle.graph_law.proofs.Left.{left_after-more}
use Rattle.graph_law.proofs.Targets.{next_from_In, In-starts, In-targets}
use Rattle.net_base.proofs.RoutersAndPeers.{router_or_peer}
use Rattle.graph_law.proofs.RunPaths.{GoesTo, goes_from_rest, goes_link, goes_no_origin, inside_unless_origin}
use Rattle.graph_law.proofs.Nodes.{place_at, start_at_front, start_below, start_from_below, step_parts, step_made, node_within}
use Rattle.graph_law.proofs.WellBuilt.{goes_parts, start_at_origin, entered}
use Rattle.graph_base.proofs.RunSteps.{RunsTo, IsInside}
use Rattle.net_base.proofs.Links.{linked_flips, linked_known}
use Rattle.policy_base.proofs.KnownCases.{origins_known}

-- a standing that is moved to l is what is left there after the path
moved-after : (net : PlainNet) (plan : Plan) (l : ℕ) (ls : List ℕ) → moved (left_after net plan ls) l ≡ standing_after net plan l ls
moved-after net plan l ls = λ i. record { at = l; left = sym (left_after-more net plan l ls) i }

module _ (net : PlainNet) (plan : Plan) (xs : List Standing) (are : AreStandings net plan xs) where
  pub inside : IsInside (graph_over net plan xs)
  inside = record {
    starts = λ n h. let a = start_at_front net plan xs are n (start_below net plan xs are n h) in node_within net plan xs are n a.0 a.1;
    sources = λ m n h. let p = step_parts net plan xs are m n h in node_within net plan xs are m p.0 p.2;
    steps = λ m n h. let p = step_parts net plan xs are m n h in node_within net plan xs are n p.1 p.3;
  }

  -- where a run ends
  begun : (l n : ℕ) → is_start (graph_over net plan xs) n ≡ true → place_of (graph_over net plan xs) n ≡ l → slice_get xs n ≡ Some (standing_after net plan l [])
  begun l n s e =
      let a = start_at_front net plan xs are n (start_below net plan xs are n s) in
      let at : a.0.at ≡ l = sym (place_at net plan xs are n a.0 a.1) ∙ e in
      a.1 ∙ ap Some ((start_at_origin net plan xs are n a.0 a.1 s).moves ∙ ap (moved (start_of (locations net) plan.expressions)) at ∙ moved-after net plan l [])

  -- a step leads on, and what it leads to isn't dead
  led : (m n l k : ℕ) (ls : List ℕ) → slice_get xs m ≡ Some (standing_after net plan k ls) → has_step (graph_over net plan xs) m n ≡ true → place_of (graph_over net plan xs) n ≡ l →
      (slice_get xs n ≡ Some (standing_after net plan l (k ∷ ls))) × (is_dead (left_after net plan (l ∷ k ∷ ls)) ≡ false)
  led m n l k ls h s e =
      let p = step_parts net plan xs are m n s in
      let next = next_from_In net plan p.0 p.1 p.4 in
      let from : p.0 ≡ standing_after net plan k ls = same_Some p.0 (standing_after net plan k ls) (sym p.2 ∙ h) in
      let at : p.1.at ≡ l = sym (place_at net plan xs are n p.1 p.3) ∙ e in
      let to : p.1 ≡ standing_after net plan l (k ∷ ls) =
      next.moves ∙ (λ i. moved (from i).left (at i)) ∙ moved-after net plan l (k ∷ ls)
      in
      (p.3 ∙ ap Some to, ap (λ (y : Standing). is_dead y.left) (sym to) ∙ (goes_parts net plan p.0 p.1 next).alive)

  pub standing_of_run : (l : ℕ) (ls : List ℕ) (n : ℕ) → RunsTo (graph_over net plan xs) (l ∷ ls) n → slice_get xs n ≡ Some (standing_after net plan l ls)
  standing_of_run l [] n r = begun l n r.0 r.1
  standing_of_run l (k ∷ ls) n r = (led r.0 n l k ls (standing_of_run k ls r.0 r.1) r.2 r.3).0

  pub run_stays_alive : (path : List ℕ) (n : ℕ) → RunsTo (graph_over net plan xs) path n → stays_alive net plan path ≡ true
  run_stays_alive [] n r = refl
  run_stays_alive (l ∷ []) n r = refl
  run_stays_alive (l ∷ k ∷ ls) n r =
      and_from (not (is_dead (left_after net plan (l ∷ k ∷ ls)))) (stays_alive net plan (k ∷ ls))
      (not_from_false (is_dead (left_after net plan (l ∷ k ∷ ls))) (led r.0 n l k ls (standing_of_run k ls r.0 r.1) r.2 r.3).1)
      (run_stays_alive (k ∷ ls) r.0 r.1)

  -- every node ends some run
  Ended : ℕ → Type 0
  Ended n = (l : ℕ) × (ls : List ℕ) × RunsTo (graph_over net plan xs) (l ∷ ls) n

  ended-at : (n : ℕ) → ((m : ℕ) → m < n → m < length (graph_over net plan xs).nodes → Ended m) → n < length (graph_over net plan xs).nodes →
      (is_start (graph_over net plan xs) n ≡ true) ⊎ ((m : ℕ) × (m < n) × (has_step (graph_over net plan xs) m n ≡ true)) → Ended n
  unfolding Ended
  ended-at n before lt (inl s) = (place_of (graph_over net plan xs) n, [], (s, refl))
  ended-at n before lt (inr e) =
      let less = e.1 in
      let r = before e.0 e.1 (omega (arith, lt, less)) in
      (place_of (graph_over net plan xs) n, r.0 ∷ r.1, (e.0, r.2, e.2, refl))

  ended_below : (k n : ℕ) → n < k → n < length (graph_over net plan xs).nodes → Ended n
  ended_below zero n lt h = absurd (omega arith)
  ended_below (suc k) n lt h = ended-at n (λ m less inside. ended_below k m (omega arith) inside) h (entered net plan xs are n h)

  pub ended : (n : ℕ) → n < length (graph_over net plan xs).nodes → (l : ℕ) × (ls : List ℕ) × RunsTo (graph_over net plan xs) (l ∷ ls) n
  unfolding Ended
  ended n h = ended_below (suc n) n (omega arith) h

  -- a walk that stays alive has a run
  module _ (rules : IsNet net) (origins : AreOrigins net plan.origin plan.external) where
    sends : (l k : ℕ) (ls : List ℕ) → GoesTo net plan.origin (l ∷ k ∷ ls) → (plan.origin k || is_router net k) ≡ true
    sends l k [] h = or_left (plan.origin k) (is_router net k) h.2
    sends l k (j ∷ ls) h =
        or_right (plan.origin k) (is_router net k)
        (router_or_peer net k (linked_known net k l rules (linked_flips net k l ∙ h.0)).0 h.2)

    goes : (l k : ℕ) (ls : List ℕ) → GoesTo net plan.origin (l ∷ k ∷ ls) → is_dead (left_after net plan (l ∷ k ∷ ls)) ≡ false →
        may_go net plan (standing_after net plan k ls) l ≡ true
    goes l k ls h alive =
        let link = goes_link net plan.origin l k ls h in
        let no_origin = goes_no_origin net plan.origin l k ls h in
        let at = (linked_known net l k rules link).0 in
        and_from (linked net k l && not (plan.origin l) && (is_router net l || not plan.external)) (not (is_dead (map (derivative l) (left_after net plan (k ∷ ls)))))
        (and_from (linked net k l && not (plan.origin l)) (is_router net l || not plan.external)
        (and_from (linked net k l) (not (plan.origin l)) (linked_flips net k l ∙ link) (not_from_false (plan.origin l) no_origin))
        (inside_unless_origin net plan.origin plan.external origins l at no_origin))
        (not_from_false (is_dead (map (derivative l) (left_after net plan (k ∷ ls)))) (ap is_dead (sym (left_after-more net plan l (k ∷ ls))) ∙ alive))

    begin : (l : ℕ) → plan.origin l ≡ true → (n : ℕ) × RunsTo (graph_over net plan xs) (l ∷ []) n
    begin l o =
        let p = In-starts net plan l (origins_known net plan.origin plan.external origins l o) o in
        let lt = slice_get_within (starts net plan) p.0 (moved (start_of (locations net) plan.expressions) l) p.1 in
        let a = start_at_front net plan xs are p.0 lt in
        let same : a.0 ≡ moved (start_of (locations net) plan.expressions) l = same_Some a.0 (moved (start_of (locations net) plan.expressions) l) (sym a.3 ∙ p.1) in
        (p.0, (start_from_below net plan xs are p.0 lt, place_at net plan xs are p.0 a.0 a.1 ∙ ap (λ (s : Standing). s.at) same))

    pub run_from_alive : (path : List ℕ) → GoesTo net plan.origin path → stays_alive net plan path ≡ true → (n : ℕ) × RunsTo (graph_over net plan xs) path n
    run_from_alive [] h alive = absurd h
    run_from_alive (l ∷ []) h alive = begin l h
    run_from_alive (l ∷ k ∷ ls) h alive =
        let parts = and_parts (not (is_dead (left_after net plan (l ∷ k ∷ ls)))) (stays_alive net plan (k ∷ ls)) alive in
        let r = run_from_alive (k ∷ ls) (goes_from_rest net plan.origin l k ls h) parts.1 in
        let x = standing_of_run k ls r.0 r.1 in
        let link = goes_link net plan.origin l k ls h in
        let next = In-targets net plan (standing_after net plan k ls) l (linked_known net l k rules link).0 (sends l k ls h)
        (goes l k ls h (not-true (is_dead (left_after net plan (l ∷ k ∷ ls))) parts.0)) in
        let made = step_made net plan xs are r.0 (standing_after net plan k ls) (moved (left_after net plan (k ∷ ls)) l) x next in
        (made.0, (r.0, r.1, made.2, place_at net plan xs are made.0 (moved (left_after net plan (k ∷ ls)) l) made.1))
