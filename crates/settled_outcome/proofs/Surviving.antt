-- What is left of a graph by the tables is what the failures leave.
use Rattle.std.proofs.Common.{◌≡◌, ℕ, ◌<◌, Bool, true, false, List, [], ◌∷◌, length, refl, sym, ap, ◌∙◌, inl, inr, arith}
use Rattle.std.specs.Prelude.{◌&&◌, ◌==◌, not, filter, IsTrue}
use Rattle.std.proofs.lemmas.Bool.{and_parts, cases_Bool, eqb-true, and_right}
use Rattle.std.proofs.lemmas.Map.Views.{any-filter_same}
use Rattle.std.proofs.Math.Bool.{and_comm, and-false}
use Rattle.net_base.specs.declared.loc.LocSet.{LocSet}
use Rattle.net_base.specs.Network.{PlainNet, is_location, is_peer, is_router}
use Rattle.net_base.specs.Sets.{holds}
use Rattle.net_base.proofs.RoutersAndPeers.{router_known, router_no_peer, router_or_peer}
use Rattle.graph_base.specs.Graphs.{PlainGraph, IsGraph}
use Rattle.graph_base.specs.Runs.{place_of, is_start, has_step}
use Rattle.outcome_base.specs.Outcomes.{Failures, is_dead}
use Rattle.scenarios.specs.Surviving.{AreSurvivors, carries, carries_by}
use Rattle.scenarios.specs.declared.survivors.Survivors.{Survivors}
use Rattle.scenarios.proofs.Survived.{carries_is}
use Rattle.list_law.proofs.Each.{AllByRecursion-filter}
use Rattle.list_law.proofs.Changed.{filter_same}
use Rattle.settled_outcome.specs.Surviving.{chooses_by, left_by, left_under, lives_by, steps_by}

module _ (net : PlainNet) (f : Failures) (s : Survivors) (are : AreSurvivors net f s) where
  pub starts_are : (g : PlainGraph) (n : ℕ) → is_start (left_by net s g) n ≡ (is_start g n && not (is_dead f (place_of g n)))
  starts_are g n =
      any-filter_same (λ k. k == n) (lives_by s g) (not (is_dead f (place_of g n))) (λ k e. ap (lives_by s g) (eqb-true k n e) ∙ ap not (are.dead (place_of g n))) g.starts
      ∙ and_comm (not (is_dead f (place_of g n))) (is_start g n)

  pub steps_are : (g : PlainGraph) (m n : ℕ) → has_step (left_by net s g) m n ≡ (has_step g m n && carries net f (place_of g m) (place_of g n))
  steps_are g m n =
      any-filter_same (λ (e : ℕ × ℕ). e.0 == m && e.1 == n) (steps_by net s g) (carries net f (place_of g m) (place_of g n)) same g.steps
      ∙ and_comm (carries net f (place_of g m) (place_of g n)) (has_step g m n)
    where
      same : (e : ℕ × ℕ) → (e.0 == m && e.1 == n) ≡ true → steps_by net s g e ≡ carries net f (place_of g m) (place_of g n)
      same e h =
          let parts = and_parts (e.0 == m) (e.1 == n) h in
          ap (λ k. carries_by net s (place_of g k) (place_of g e.1)) (eqb-true e.0 m parts.0)
          ∙ ap (λ k. carries_by net s (place_of g m) (place_of g k)) (eqb-true e.1 n parts.1)
          ∙ carries_is net f s are (place_of g m) (place_of g n)

  -- by the failures the same is left
  pub left_is_under : (g : PlainGraph) → left_by net s g ≡ left_under net f g
  left_is_under g =
      let starts = filter_same (lives_by s g) (λ n. not (is_dead f (place_of g n))) g.starts (λ n at. ap not (are.dead (place_of g n))) in
      let steps = filter_same (steps_by net s g) (λ e. carries net f (place_of g e.0) (place_of g e.1)) g.steps (λ e at. carries_is net f s are (place_of g e.0) (place_of g e.1)) in
      λ i. record { nodes = g.nodes; starts = starts i; steps = steps i }

-- a start that is left was one
start_was : (net : PlainNet) (s : Survivors) (g : PlainGraph) (n : ℕ) → is_start (left_by net s g) n ≡ true → is_start g n ≡ true
start_was net s g n h =
    (and_parts (lives_by s g n) (is_start g n) (sym (any-filter_same (λ k. k == n) (lives_by s g) (lives_by s g n) (λ k e. ap (lives_by s g) (eqb-true k n e)) g.starts) ∙ h)).1

-- so where starts are at origins, no start that is left is at a location that chooses
pub starts_choose_not : (net : PlainNet) (s : Survivors) (g : PlainGraph) (origins : LocSet) → ((n : ℕ) → IsTrue (is_start g n) → IsTrue (holds origins (place_of g n)))
    → (n : ℕ) → IsTrue (is_start (left_by net s g) n) → chooses_by net s origins (place_of g n) ≡ false
starts_choose_not net s g origins at n start =
    ap (λ o. is_router net (place_of g n) && (not (holds s.dead (place_of g n)) && not o)) (at n (start_was net s g n start))
    ∙ and_right (is_router net (place_of g n)) _ (and-false (not (holds s.dead (place_of g n))))

-- the part of a graph that is left is a graph
pub left_is_graph : (net : PlainNet) (s : Survivors) (g : PlainGraph) → IsGraph g → IsGraph (left_by net s g)
left_is_graph net s g rules = record {
  count = rules.count;
  starts = AllByRecursion-filter (λ n. n < length g.nodes) (lives_by s g) g.starts rules.starts;
  steps = AllByRecursion-filter (λ (e : ℕ × ℕ). (e.0 < length g.nodes) × (e.1 < length g.nodes)) (steps_by net s g) g.steps rules.steps;
}

-- so is that without nodes
pub empty_is_graph : IsGraph (record { nodes = []; starts = []; steps = [] })
empty_is_graph = record { count = omega arith; starts = tt; steps = tt }

-- a router is a location that is no peer
pub routers_are : (net : PlainNet) (l : ℕ) → (is_location net l && not (is_peer net l)) ≡ is_router net l
routers_are net l = elim (cases_Bool (is_router net l)) [
  | inl on ↦ ap (λ o. o && not (is_peer net l)) (router_known net l on) ∙ ap not (router_no_peer net l on) ∙ sym on
  | inr off ↦ elim (cases_Bool (is_location net l)) [
    | inr nowhere ↦ ap (λ o. o && not (is_peer net l)) nowhere ∙ sym off
    | inl somewhere ↦ elim (cases_Bool (is_peer net l)) [
      | inl peer ↦ ap (λ o. o && not (is_peer net l)) somewhere ∙ ap not peer ∙ sym off
      | inr other ↦ absurd (cc (router_or_peer net l somewhere other))
    ]
  ]
]
