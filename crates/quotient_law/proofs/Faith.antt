-- The quotient of a faithful graph is faithful.
use Rattle.std.proofs.Common.{◌≡◌, ℕ, ◌<◌, Bool, true, not, List, [], ◌∷◌, length, Option, Some, None, is_some, refl, sym, ap, ◌∙◌, subst, inl, inr}
use Rattle.std.proofs.lemmas.Bool.{cases_Bool}
use Rattle.net_base.specs.Network.{PlainNet}
use Rattle.policy_base.specs.Policies.{PlainStatement}
use Rattle.graph_base.specs.Graphs.{PlainGraph, IsGraph}
use Rattle.graph_base.specs.Runs.{place_of, rank_at, is_start, has_step, run}
use Rattle.graph_base.specs.Rules.{IsWellFormed}
use Rattle.graph_base.specs.Walks.{IsEnteredFromBefore}
use Rattle.evidence_law.specs.Faithful.{IsFaithful, may_start}
use Rattle.list_law.specs.Counts.{kept_below}
use Rattle.reach_prune.specs.Trimmed.{graph_kept}
use Rattle.graph_base.proofs.RunSteps.{RunsTo, runs_from_run, run_from_runs, run_inside}
use Rattle.list_law.proofs.Kept.{kept_below-less}
use Rattle.graph_law.proofs.Kept.{place_kept, rank_kept, node_from_kept, start_kept, step_kept}
use Rattle.graph_law.proofs.KeptFormed.{kept_well_formed}
use Rattle.graph_law.proofs.KeptRuns.{run_from_kept}
use Rattle.node_quotient.specs.Quotient.{AreLeast, is_least, led_to}
use Rattle.node_quotient.proofs.Inside.{inside_of}
use Rattle.node_quotient.proofs.Least.{joined_rank, least_kept, kept_least}
use Rattle.quotient_law.proofs.Led.{led_formed, run_led, run_from_led, led_entered}

is_some_at : (o : Option ℕ) → is_some o ≡ true → (i : ℕ) × (o ≡ Some i)
is_some_at None h = absurd (cc)
is_some_at (Some i) h = (i, refl)

module _ (net : PlainNet) (origin : ℕ → Bool) (external : Bool) (least : ℕ → ℕ) (g : PlainGraph) (ok : IsGraph g) (wf : IsWellFormed net origin external g) (are : AreLeast g least) where
  abbrev l : PlainGraph
  l = led_to least g

  abbrev q : PlainGraph
  q = graph_kept (is_least least) (led_to least g)

  pub quotient_formed : IsWellFormed net origin external q
  quotient_formed = kept_well_formed (is_least least) l net origin external (led_formed least g net origin external (inside_of g ok) wf are)

  -- a run of the steps to least nodes stays at least nodes, which are all kept
  run_stays : (path : List ℕ) (i : ℕ) → RunsTo l path i → is_least least i ≡ true
  run_stays path i r =
      let f = run_from_led least g net origin external (inside_of g ok) wf are path i r in
      subst (λ k. is_least least k ≡ true) f.3 (least_kept g least are f.0 f.2)

  kept_run : (path : List ℕ) (i : ℕ) → RunsTo l path i → RunsTo q path (kept_below (is_least least) i)
  kept_run [] i r = absurd r
  kept_run (x ∷ []) i r =
      let k = run_stays (x ∷ []) i r in
      (start_kept (is_least least) l i r.0 k, place_kept (is_least least) l i k ∙ r.1)
  kept_run (x ∷ y ∷ ys) i r =
      let k = run_stays (x ∷ y ∷ ys) i r in
      let before = run_stays (y ∷ ys) r.0 r.1 in
      (kept_below (is_least least) r.0, kept_run (y ∷ ys) r.0 r.1, step_kept (is_least least) l r.0 i r.2 before k, place_kept (is_least least) l i k ∙ r.3)

  -- runs of the graph and of its quotient
  pub run_joined : (path : List ℕ) (n : ℕ) → run g path ≡ Some n → run q path ≡ Some (kept_below (is_least least) (least n))
  run_joined path n h =
      let r = runs_from_run g path n h in
      run_from_runs net origin external q quotient_formed path (kept_below (is_least least) (least n))
      (kept_run path (least n) (run_led least g net origin external (inside_of g ok) wf are path n r (run_inside g ok path n h)))

  pub run_before : (path : List ℕ) (i : ℕ) → run q path ≡ Some i → (n : ℕ) × (run g path ≡ Some n) × (n < length g.nodes) × (i ≡ kept_below (is_least least) (least n))
  run_before path i h =
      let k = run_from_kept (is_least least) l path i (runs_from_run q path i h) in
      let f = run_from_led least g net origin external (inside_of g ok) wf are path k.0 k.1 in
      (f.0, run_from_runs net origin external g wf path f.0 f.1, f.2, k.3 ∙ ap (kept_below (is_least least)) (sym f.3))

  pub joined_place : (n : ℕ) → n < length g.nodes → place_of q (kept_below (is_least least) (least n)) ≡ place_of g n
  joined_place n lt = place_kept (is_least least) l (least n) (least_kept g least are n lt) ∙ (are.joined n lt).place

  pub joined_ranks : (n : ℕ) → n < length g.nodes → rank_at q (kept_below (is_least least) (least n)) ≡ rank_at g n
  joined_ranks n lt = rank_kept (is_least least) l (least n) (least_kept g least are n lt) ∙ joined_rank g (least n) n (are.joined n lt)

  -- each node of the quotient is what some nodes became
  pub node_before : (i : ℕ) → i < length q.nodes → (n : ℕ) × (n < length g.nodes) × (least n ≡ n) × (i ≡ kept_below (is_least least) (least n))
  node_before i lt =
      let f = node_from_kept (is_least least) l i lt in
      let is = kept_least g least are f.0 f.2 in
      (f.0, f.1, is, f.3 ∙ ap (kept_below (is_least least)) (sym is))

  -- where the nodes at some locations have ranks, so have those of the quotient
  pub quotient_ranked : (At : ℕ → Type 0) → ((n : ℕ) → n < length g.nodes → At (place_of g n) → is_some (rank_at g n) ≡ true) → (i : ℕ)
      → i < length q.nodes → At (place_of q i) → is_some (rank_at q i) ≡ true
  quotient_ranked At ranked i lt at =
      let n = node_before i lt in
      let place : place_of q i ≡ place_of g n.0 = ap (place_of q) n.3 ∙ joined_place n.0 n.1 in
      ap is_some (ap (rank_at q) n.3 ∙ joined_ranks n.0 n.1) ∙ ranked n.0 n.1 (subst At place at)

  pub quotient_entered : IsEnteredFromBefore g → IsEnteredFromBefore q
  quotient_entered entered i lt =
      let f = node_from_kept (is_least least) l i lt in
      elim (cases_Bool (is_start g f.0)) [
        | inl t ↦ inl (ap (is_start q) f.3 ∙ start_kept (is_least least) l f.0 t f.2)
        | inr late ↦
            let e = led_entered least g net origin external (inside_of g ok) wf are entered f.0 f.1 f.2 late in
            inr (
              kept_below (is_least least) e.0,
              subst (λ k. kept_below (is_least least) e.0 < k) (sym f.3) (kept_below-less (is_least least) e.0 f.0 e.3 e.1),
              ap (has_step q (kept_below (is_least least) e.0)) f.3 ∙ step_kept (is_least least) l e.0 f.0 e.2 e.3 f.2,
            )
      ]

  pub quotient_is_faithful : (s : PlainStatement) → IsFaithful net s origin external g → IsFaithful net s origin external q
  quotient_is_faithful s faithful = record {
    formed = quotient_formed;
    has_run = λ above path is permitted.
        let there = is_some_at (run g path) (faithful.has_run above path is permitted) in
        ap is_some (run_joined path there.0 there.1);
    has_no_other = λ path is h.
        let there = is_some_at (run q path) h in
        let n = run_before path there.0 there.1 in
        faithful.has_no_other path is (ap is_some n.1);
    is_ended = λ i lt.
        let n = node_before i lt in
        let e = faithful.is_ended n.0 n.1 in
        (e.0, e.1, run_joined e.0 n.0 e.2 ∙ ap Some (sym n.3));
    ranks = λ path i h may.
        let n = run_before path i h in
        let place : place_of q i ≡ place_of g n.0 = ap (place_of q) n.3 ∙ joined_place n.0 n.2 in
        ap (rank_at q) n.3 ∙ joined_ranks n.0 n.2 ∙ faithful.ranks path n.0 n.1 (ap (may_start origin s) (sym place) ∙ may);
    unranked = λ i lt off.
        let n = node_before i lt in
        let place : place_of q i ≡ place_of g n.0 = ap (place_of q) n.3 ∙ joined_place n.0 n.1 in
        ap (rank_at q) n.3 ∙ joined_ranks n.0 n.1 ∙ faithful.unranked n.0 n.1 (ap (λ x. not (may_start origin s x)) (sym place) ∙ off);
  }
