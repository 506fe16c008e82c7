-- What is left of the graph of a case is reached, and the best nodes of what is left are its tops.
use Rattle.std.proofs.Common.{◌≡◌, ◌↔◌, ℕ, ◌<◌, ◌≤◌, Bool, true, List, [], ◌∷◌, length, Option, Some, None, refl, sym, ap, ◌∙◌, subst, inl, inr, arith, ltb-true}
use Rattle.std.specs.Prelude.{◌&&◌, not}
use Rattle.std.specs.Option.{option_and_then}
use Rattle.std.proofs.lemmas.Bool.{and_from, and_parts, cases_lt}
use Rattle.std.proofs.lemmas.List.{get_or_past}
use Rattle.net_base.specs.Network.{PlainNet, linked}
use Rattle.net_base.specs.Sets.{holds}
use Rattle.policy_base.specs.Policies.{PlainStatement}
use Rattle.graph_base.specs.Graphs.{PlainGraph}
use Rattle.graph_base.specs.Rules.{IsWellFormed}
use Rattle.graph_base.specs.Runs.{IsTrail, has_step, is_start, place_of, run, step_at}
use Rattle.graph_base.proofs.RunSteps.{last_step, run_begins, run_inside}
use Rattle.graph_base.proofs.StartsAndSteps.{start_at-is}
use Rattle.graph_base.proofs.WellFormed.{start_at-of, step_at-of}
use Rattle.evidence_base.specs.Made.{PlainCaseEvidence, number_at}
use Rattle.outcome_base.specs.Outcomes.{Failures, is_dead, is_dead_link, is_live, no_failures}
use Rattle.evidence_law.specs.Passes.{IsCaseGraph}
use Rattle.evidence_law.proofs.Setting.{alive_of}
use Rattle.evidence_law.proofs.Surviving.{run-survives, survives-alive}
use Rattle.routing_law.specs.Network as law
use Rattle.settled_law.specs.Greatest.{IsReachedAt}
use Rattle.scenarios.specs.Surviving.{AreSurvivors, carries}
use Rattle.scenarios.specs.declared.survivors.Survivors.{Survivors}
use Rattle.settled_outcome.specs.Surviving.{left_by}
use Rattle.settled_outcome.proofs.Surviving.{starts_are, steps_are}
use Rattle.reach_prune.specs.Ways.{LeadsFrom}
use Rattle.reach_prune.specs.declared.steps.Way.TheVariants.{Forward}
use Rattle.impact_law.specs.BestRanks.{AreTops, IsTopAt}
use Rattle.impact_law.proofs.Existing.{nodes_are_reached_without_failures}
use Rattle.cut_ranks.specs.Left.{IsLeft, IsOpened, IsOpenTrail, is_open_start, is_open_step, spares}
use Rattle.cut_ranks.specs.Tops.{AreBest, AreNodes, entry_at}
use Rattle.cut_ranks.proofs.Besides.{IsBesides, alive_parts, carries_is, lives}
use Rattle.cut_ranks.proofs.Visiting.{left_more}

-- ---- the best of some nodes are tops, where these are the nodes that are reached

module _ (net : PlainNet) (c : PlainCaseEvidence) (f : Failures) (marked : ℕ → Bool) (best : List (Option ℕ))
    (there : (n : ℕ) → n < length c.graph.nodes → marked n ≡ true → IsReachedAt net f c (place_of c.graph n) n)
    (all : (r n : ℕ) → IsReachedAt net f c r n → (place_of c.graph n ≡ r) × (n < length c.graph.nodes) × (marked n ≡ true))
    (are : AreBest c marked (length net.routers) (length c.graph.nodes) best) where
  within : (r n : ℕ) → entry_at best r ≡ Some n → r < length net.routers
  within r n e = elim (cases_lt r (length net.routers)) [
    | inl low ↦ low
    | inr high ↦ (let clash : None ≡ Some n = sym (get_or_past best r None (omega (arith, high, are.size))) ∙ e in absurd (cc))
  ]

  top_at : (r n : ℕ) → entry_at best r ≡ Some n → IsTopAt net f c r n
  top_at r n e =
      let h = are.here r n e in record {
        reached = subst (λ l. IsReachedAt net f c l n) h.2 (there n h.0 h.1);
        over = λ m at.
            let l = all r m at in
            let b = are.over m l.1 l.2 (omega (arith, within r n e, l.0)) in
            let both : Some b.0 ≡ Some n = sym b.1 ∙ ap (entry_at best) l.0 ∙ e in
            let same : b.0 ≡ n = cc in
            subst (λ k. number_at c m ≤ number_at c k) same b.2;
      }

  best_are_tops : AreTops net f c (entry_at best)
  best_are_tops = record {
    some = top_at;
    none = λ r router e n at.
        let l = all r n at in
        let low = ltb-true r (length net.routers) router in
        let b = are.over n l.1 l.2 (omega (arith, low, l.0)) in
        let clash : None ≡ Some b.0 = sym e ∙ sym (ap (entry_at best) l.0) ∙ b.1 in
        absurd (cc);
  }

-- ---- what failures leave, where h is f with k besides, and t tells what lives by f

module _ (net : PlainNet) (s : PlainStatement) (c : PlainCaseEvidence) (f k h : Failures) (on : IsCaseGraph net s c) (besides : IsBesides f k h) (t : Survivors) (are : AreSurvivors net f t) where
  abbrev g : PlainGraph
  g = c.graph

  abbrev opened : PlainGraph
  opened = left_by net t g

  formed : IsWellFormed net (holds c.case.origins) c.case.external g
  formed = on.faithful.formed

  -- a run along what lives ends in the node
  abbrev Ends : ℕ → Type 0
  Ends n = (rest : List ℕ) × (run g (place_of g n ∷ rest) ≡ Some n) × (law.survives (alive_of net h) (place_of g n ∷ rest) ≡ true)

  -- ---- where open steps lead from an open start is reached

  begun : (n : ℕ) → is_open_start opened k n ≡ true → Ends n
  begun n way =
      let parts = and_parts (is_start opened n) (not (is_dead k (place_of g n))) way in
      let start = and_parts (is_start g n) (not (is_dead f (place_of g n))) (sym (starts_are net f t are g n) ∙ parts.0) in
      ([], start_at-of net (holds c.case.origins) c.case.external g formed n start.0, lives net f k h besides (place_of g n) start.1 parts.1)

  onward : (m n : ℕ) → Ends m → is_open_step opened k m n ≡ true → Ends n
  onward m n r way =
      let from = place_of g m in
      let to = place_of g n in
      let parts = and_parts (has_step opened m n) (spares k from to) way in
      let step = and_parts (has_step g m n) (carries net f from to) (sym (steps_are net f t are g m n) ∙ parts.0) in
      let carried : carries net h from to ≡ true = carries_is net f k h besides from to ∙ and_from (carries net f from to) (spares k from to) step.1 parts.1 in
      let live = (and_parts (linked net from to && not (is_dead_link h from to) && not (is_dead h from)) (not (is_dead h to)) (and_parts (is_live net h from to) _ carried).0).1 in (
        from ∷ r.0,
        ap (option_and_then (λ l. step_at g l to)) r.1 ∙ step_at-of net (holds c.case.origins) c.case.external g formed m n step.0,
        and_from (not (is_dead h to)) _ live (and_from (carries net h from to) (law.survives (alive_of net h) (from ∷ r.0)) carried r.2),
      )

  along : (a n : ℕ) (via : List ℕ) → Ends a → IsOpenTrail opened k a via n → Ends n
  along a n [] r e = subst Ends e r
  along a n (b ∷ via) r e = along b n via (onward a b r e.0) e.1

  reached : (n : ℕ) → IsLeft opened k n → IsReachedAt net h c (place_of g n) n
  reached n left =
      let r = along left.0 n left.2 (begun left.0 left.1) left.3 in
      (r.0, r.1, survives-alive net h (place_of g n ∷ r.0) r.2)

  -- ---- and what is reached is left

  left : (r n : ℕ) (rest : List ℕ) → run g (r ∷ rest) ≡ Some n → law.survives (alive_of net h) (r ∷ rest) ≡ true → IsLeft opened k n
  left r n [] runs alive =
      let at = start_at-is g r n runs in
      let both = alive_parts net f k h besides r alive in
      let start : is_start opened n ≡ true = starts_are net f t are g n ∙ and_from (is_start g n) (not (is_dead f (place_of g n))) at.0 (ap (λ l. not (is_dead f l)) at.1 ∙ both.0) in
      (n, and_from (is_start opened n) (not (is_dead k (place_of g n))) start (ap (λ l. not (is_dead k l)) at.1 ∙ both.1), [], refl)
  left r n (u ∷ rest) runs alive =
      let last = last_step g r u n rest runs in
      let parts = and_parts (not (is_dead h r)) _ alive in
      let further = and_parts (carries net h u r) (law.survives (alive_of net h) (u ∷ rest)) parts.1 in
      let both = and_parts (carries net f u r) (spares k u r) (sym (carries_is net f k h besides u r) ∙ further.0) in
      let from : place_of g last.0 ≡ u = run_begins g u last.0 rest last.1 in
      let step : has_step opened last.0 n ≡ true = steps_are net f t are g last.0 n ∙ and_from (has_step g last.0 n) (carries net f (place_of g last.0) (place_of g n)) last.2
      (ap (λ l. carries net f l (place_of g n)) from ∙ ap (carries net f u) last.3 ∙ both.0) in
      left_more opened k last.0 n (left u last.0 rest last.1 further.1) (and_from (has_step opened last.0 n) (spares k (place_of g last.0) (place_of g n)) step
      (ap (λ l. spares k l (place_of g n)) from ∙ ap (spares k u) last.3 ∙ both.1))

  stands : (r n : ℕ) → IsReachedAt net h c r n → (place_of g n ≡ r) × (n < length g.nodes) × IsLeft opened k n
  stands r n at = (
    run_begins g r n at.0 at.1,
    run_inside g on.graph (r ∷ at.0) n at.1,
    left r n at.0 at.1 (run-survives net h (holds c.case.origins) c.case.external g on.graph formed r n at.0 at.1 at.2),
  )

  -- ---- so the best of what is left are tops

  tops_opened : (marked : ℕ → Bool) (best : List (Option ℕ)) → ((n : ℕ) → n < length g.nodes → (marked n ≡ true) ↔ IsLeft opened k n)
      → AreBest c marked (length net.routers) (length g.nodes) best → AreTops net h c (entry_at best)
  tops_opened marked best exact are =
      best_are_tops net c h marked best (λ n low mark. reached n ((exact n low).0 mark)) (λ r n at. let l = stands r n at in (l.0, l.1, (exact n l.1).1 l.2)) are

pub are_tops : (net : PlainNet) (s : PlainStatement) (c : PlainCaseEvidence) (f k h : Failures) (remains : PlainGraph) → IsCaseGraph net s c → IsBesides f k h → IsOpened net f c.graph remains
    → (marked : ℕ → Bool) (best : List (Option ℕ)) → ((n : ℕ) → n < length remains.nodes → (marked n ≡ true) ↔ IsLeft remains k n)
    → AreBest c marked (length net.routers) (length c.graph.nodes) best → AreTops net h c (entry_at best)
are_tops net s c f k h remains on besides is marked best exact are =
    tops_opened net s c f k h on besides is.survivors is.are marked best
    (subst (λ (o : PlainGraph). (n : ℕ) → n < length o.nodes → (marked n ≡ true) ↔ IsLeft o k n) is.is exact) are

-- ---- where no cut comes, what is left is what steps lead to

pub all_open : (g : PlainGraph) (n : ℕ) → LeadsFrom Forward g g.starts n ↔ IsLeft g no_failures n
all_open g n = (
  λ led. (led.0, and_from (is_start g led.0) true led.1 refl, led.2.0, opens led.0 n led.2.0 led.2.1),
  λ left. (left.0, (and_parts (is_start g left.0) true left.1).0, (left.2, leads left.0 n left.2 left.3)),
)
  where
    opens : (a b : ℕ) (via : List ℕ) → IsTrail g a via b → IsOpenTrail g no_failures a via b
    opens a b [] h = h
    opens a b (c ∷ cs) h = (and_from (has_step g a c) true h.0 refl, opens c b cs h.1)

    leads : (a b : ℕ) (via : List ℕ) → IsOpenTrail g no_failures a via b → IsTrail g a via b
    leads a b [] h = h
    leads a b (c ∷ cs) h = ((and_parts (has_step g a c) true h.0).0, leads c b cs h.1)

-- where nothing fails the best of all nodes are tops
pub base_are_tops : (net : PlainNet) (s : PlainStatement) (c : PlainCaseEvidence) (best : List (Option ℕ)) → IsCaseGraph net s c
    → AreBest c (λ n. true) (length net.routers) (length c.graph.nodes) best → AreTops net no_failures c (entry_at best)
base_are_tops net s c best on are =
    let all = nodes_are_reached_without_failures net s c on in
    best_are_tops net c no_failures (λ n. true) best (λ n low mark. all.0 n low) (λ r n at. let l = all.1 r n no_failures at in (l.1, l.0, refl)) are

pub best_are_nodes : (c : PlainCaseEvidence) (marked : ℕ → Bool) (routers : ℕ) (best : List (Option ℕ)) → AreBest c marked routers (length c.graph.nodes) best → AreNodes c.graph best
best_are_nodes c marked routers best are r n e = (are.here r n e).0
