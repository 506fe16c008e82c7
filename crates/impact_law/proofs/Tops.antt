-- A source has the rank of the node with the greatest number that is reached at it.
use Rattle.std.proofs.Common.{◌≡◌, ℕ, ◌≤◌, true, false, List, ◌∷◌, Some, sym, ap, ◌∙◌, subst, arith}
use Rattle.std.specs.Prelude.{not, ◌&&◌}
use Rattle.std.specs.Option.{option_and_then}
use Rattle.std.proofs.lemmas.Bool.{and_parts, and_from, not_from_false}
use Rattle.list_law.proofs.Options.{option_and_then_parts}
use Rattle.routing_law.specs.Graph.{AtLeast, MeetsRanks, MeetsRules, Ranks, WellFormed, run}
use Rattle.routing_law.specs.Network.{loop_free, stands_on, survives}
use Rattle.routing_law.specs.Outcome.{ReachedAt, Setup}
use Rattle.routing_law.proofs.Right.{best_offer, best_rank}
use Rattle.routing_law.proofs.Rounds.{exists}
use Rattle.routing_law.proofs.Runs.{node_below, run_more, run_place}
use Rattle.routing_law.proofs.Sound.{sound}
use Rattle.impact_law.specs.Nodes.{IsTop, RoutersHaveTheRankOfTheTop, SessionsHaveTheRankAtThePeer}

module _ (w : Setup) (k : Ranks) (wf : WellFormed w.net w.graph) (ranked : MeetsRanks w.net w.graph k) where
  -- the top stands at least as high as a node that is reached
  above : (v n m : ℕ) → IsTop w v n → ReachedAt w v m → AtLeast w.graph n m
  above v n m top there = record {
    known = node_below wf top.reached.rest v n top.reached.runs;
    other = node_below wf there.rest v m there.runs;
    place = run_place wf v top.reached.rest n top.reached.runs ∙ sym (run_place wf v there.rest m there.runs);
    number = top.over m there;
  }

  -- no surviving walk has a lesser rank
  router_least : (v n : ℕ) → w.net.router v ≡ true → k.source v ≡ true → IsTop w v n → (rest : List ℕ) (i : ℕ) → k.of_path (v ∷ rest) ≡ Some i → survives w.alive (v ∷ rest) ≡ true
      → (j : ℕ) × (k.of_node n ≡ Some j) × (j ≤ i)
  router_least v n ro so top rest i h l =
      let a = ranked.has_run (v ∷ rest) i h in
      let at = run_place wf v rest a.0 a.1 in
      let there : ReachedAt w v a.0 = record { rest = rest; runs = a.1; lives = l } in
      ranked.ranks n a.0 i (ap w.net.router at ∙ ro) (ap k.source at ∙ so) (above v n a.0 top there) (ranked.same_rank v rest a.0 so a.1 ∙ h)

  session_least : (u p n : ℕ) → w.net.router u ≡ true → w.net.router p ≡ false → k.source p ≡ true → IsTop w u n → (rest : List ℕ) (i : ℕ)
      → k.of_path (p ∷ u ∷ rest) ≡ Some i → survives w.alive (u ∷ rest) ≡ true
      → (h j : ℕ) × (w.graph.next n p ≡ Some h) × (k.of_node h ≡ Some j) × (j ≤ i)
  session_least u p n ru ro so top rest i h l =
      let a = ranked.has_run (p ∷ u ∷ rest) i h in
      let b = run_more w.graph p u rest a.0 a.1 in
      let at = run_place wf u rest b.0 b.1 in
      let there : ReachedAt w u b.0 = record { rest = rest; runs = b.1; lives = l } in
      ranked.listeners n b.0 p a.0 i (ap w.net.router at ∙ ru) (above u n b.0 top there) ro b.2 (ranked.same_rank p (u ∷ rest) a.0 so a.1 ∙ h)

  module _ (rules : MeetsRules w.net w.graph) where
    router_met : (v n : ℕ) → w.net.router v ≡ true → k.source v ≡ true → IsTop w v n → (j : ℕ) → k.of_node n ≡ Some j
        → (rest : List ℕ) × (k.of_path (v ∷ rest) ≡ Some j) × (loop_free (v ∷ rest) ≡ true) × (survives w.alive (v ∷ rest) ≡ true)
    router_met v n ro so top j rank =
        let own : k.of_path (v ∷ top.reached.rest) ≡ Some j = sym (ranked.same_rank v top.reached.rest n so top.reached.runs) ∙ rank in
        let full = exists w wf rules in
        let b = best_rank w k full.0 wf rules ranked full.1.stable v top.reached.rest j ro so own top.reached.lives in
        let d = sound w full.0 full.1.stable v b.0 b.2 in
        let path : k.of_path (v ∷ d.rest) ≡ Some b.1 = ap k.of_path (sym d.begins) ∙ b.3 in
        let lives : survives w.alive (v ∷ d.rest) ≡ true = subst (λ q. survives w.alive q ≡ true) d.begins d.lives in
        let back = router_least v n ro so top d.rest b.1 path lives in
        let one : Some back.0 ≡ Some j = sym back.1 ∙ rank in
        let same : back.0 ≡ j = cc in
        let equal : b.1 ≡ j = omega (arith, b.4, back.2, same) in
        (d.rest, path ∙ ap Some equal, subst (λ q. loop_free q ≡ true) d.begins d.free, lives)

    session_met : (u p n h j : ℕ) → w.net.router u ≡ true → w.net.router p ≡ false → w.net.origin p ≡ false → k.source p ≡ true
        → w.alive.live p ≡ true → w.alive.carries u p ≡ true → IsTop w u n → w.graph.next n p ≡ Some h → k.of_node h ≡ Some j
        → (rest : List ℕ) × (k.of_path (p ∷ u ∷ rest) ≡ Some j) × (loop_free (p ∷ u ∷ rest) ≡ true) × (survives w.alive (p ∷ u ∷ rest) ≡ true)
    session_met u p n h j ru ro o so live carried top step rank =
        let runs : run w.graph (p ∷ u ∷ top.reached.rest) ≡ Some h = ap (option_and_then (λ m. w.graph.next m p)) top.reached.runs ∙ step in
        let own : k.of_path (p ∷ u ∷ top.reached.rest) ≡ Some j = sym (ranked.same_rank p (u ∷ top.reached.rest) h so runs) ∙ rank in
        let full = exists w wf rules in
        let b = best_offer w k full.0 wf rules ranked full.1.stable u p top.reached.rest j ru ro o so own top.reached.lives in
        let d = sound w full.0 full.1.stable u b.0 b.3 in
        let path : k.of_path (p ∷ u ∷ d.rest) ≡ Some b.2 = ap (λ q. k.of_path (p ∷ q)) (sym d.begins) ∙ b.6 in
        let lives : survives w.alive (u ∷ d.rest) ≡ true = subst (λ q. survives w.alive q ≡ true) d.begins d.lives in
        let free : loop_free (u ∷ d.rest) ≡ true = subst (λ q. loop_free q ≡ true) d.begins d.free in
        let off : stands_on p (u ∷ d.rest) ≡ false = subst (λ q. stands_on p q ≡ false) d.begins b.5 in
        let back = session_least u p n ru ro so top d.rest b.2 path lives in
        let node : Some back.0 ≡ Some h = sym back.2 ∙ step in
        let same_node : back.0 ≡ h = cc in
        let one : Some back.1 ≡ Some j = sym back.3 ∙ ap k.of_node same_node ∙ rank in
        let same : back.1 ≡ j = cc in
        let equal : b.2 ≡ j = omega (arith, b.7, back.4, same) in (
          d.rest,
          path ∙ ap Some equal,
          and_from (not (stands_on p (u ∷ d.rest))) (loop_free (u ∷ d.rest)) (not_from_false _ off) free,
          and_from (w.alive.live p) (w.alive.carries u p && survives w.alive (u ∷ d.rest)) live (and_from (w.alive.carries u p) (survives w.alive (u ∷ d.rest)) carried lives),
        )

pub routers : RoutersHaveTheRankOfTheTop
routers w k wf rules ranked v n ro so top = record {
  met = router_met w k wf ranked rules v n ro so top;
  least = router_least w k wf ranked v n ro so top;
}

pub sessions : SessionsHaveTheRankAtThePeer
sessions w k wf rules ranked u p n ru ro o so live carried top = record {
  met = λ j rank.
      let step = option_and_then_parts k.of_node (w.graph.next n p) j rank in
      session_met w k wf ranked rules u p n step.0 j ru ro o so live carried top step.1 step.2;
  least = λ rest i h l.
      let a = and_parts (w.alive.live p) (w.alive.carries u p && survives w.alive (u ∷ rest)) l in
      let b = and_parts (w.alive.carries u p) (survives w.alive (u ∷ rest)) a.1 in
      let s = session_least w k wf ranked u p n ru ro so top rest i h b.1 in
      (s.1, ap (option_and_then k.of_node) s.2 ∙ s.3, s.4);
}
