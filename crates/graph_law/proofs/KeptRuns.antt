-- Runs to nodes that are kept are runs of the graph of the nodes that are kept, and ways on from the end of a run.
use Rattle.std.proofs.Common.{◌≡◌, ℕ, Bool, true, List, [], ◌∷◌, ◌++◌, append_assoc, refl, sym, ap, ◌∙◌, subst}
use Rattle.list_law.proofs.Kept.{kept_below-same}
use Rattle.graph_base.specs.Graphs.{PlainGraph}
use Rattle.graph_base.specs.Runs.{place_of, has_step, IsTrail, Reaches}
use Rattle.list_law.specs.Counts.{kept_below}
use Rattle.reach_prune.specs.Trimmed.{graph_kept}
use Rattle.graph_law.proofs.Kept.{place_kept, start_kept, start_from_kept, step_kept, step_from_kept}
use Rattle.graph_base.proofs.RunSteps.{RunsTo}

module _ (keep : ℕ → Bool) (g : PlainGraph) where
  pub run_kept : ((m n : ℕ) → has_step g m n ≡ true → keep n ≡ true → keep m ≡ true) → (path : List ℕ) (n : ℕ) → RunsTo g path n → keep n ≡ true →
      RunsTo (graph_kept keep g) path (kept_below keep n)
  run_kept back [] n r h = r
  run_kept back (l ∷ []) n r h = (start_kept keep g n r.0 h, place_kept keep g n h ∙ r.1)
  run_kept back (l ∷ k ∷ ls) n r h =
      let before = back r.0 n r.2 h in
      (kept_below keep r.0, run_kept back (k ∷ ls) r.0 r.1 before, step_kept keep g r.0 n r.2 before h, place_kept keep g n h ∙ r.3)

  pub run_from_kept : (path : List ℕ) (i : ℕ) → RunsTo (graph_kept keep g) path i → (n : ℕ) × RunsTo g path n × (keep n ≡ true) × (i ≡ kept_below keep n)
  run_from_kept [] i r = absurd r
  run_from_kept (l ∷ []) i r =
      let f = start_from_kept keep g i r.0 in
      (f.0, (f.1, sym (place_kept keep g f.0 f.2) ∙ ap (place_of (graph_kept keep g)) (sym f.3) ∙ r.1), f.2, f.3)
  run_from_kept (l ∷ k ∷ ls) i r =
      let before = run_from_kept (k ∷ ls) r.0 r.1 in
      let f = step_from_kept keep g r.0 i r.2 in
      let same = kept_below-same keep f.0 before.0 f.3 before.2 (sym f.5 ∙ before.3) in (
        f.1,
        (before.0, before.1, ap (λ m. has_step g m f.1) (sym same) ∙ f.2, sym (place_kept keep g f.1 f.4) ∙ ap (place_of (graph_kept keep g)) (sym f.6) ∙ r.3),
        f.4,
        f.6,
      )

module _ (g : PlainGraph) where
  trail_push : (via : List ℕ) (a b c : ℕ) → IsTrail g a via b → has_step g b c ≡ true → IsTrail g a (via ++ c ∷ []) c
  trail_push [] a b c t s = (ap (λ m. has_step g m c) t ∙ s, refl)
  trail_push (d ∷ ds) a b c t s = (t.0, trail_push ds d b c t.1 s)

  not_empty : (above : List ℕ) (l : ℕ) (ls : List ℕ) → [] ≡ above ++ l ∷ ls → ⊥
  not_empty [] l ls e = cc
  not_empty (a ∷ front) l ls e = cc

  last_step : (a : ℕ) (path : List ℕ) (n : ℕ) → ([] ≡ path → ⊥) → RunsTo g (a ∷ path) n → (m : ℕ) × RunsTo g path m × (has_step g m n ≡ true)
  last_step a [] n more r = absurd (more refl)
  last_step a (k ∷ ls) n more r = (r.0, r.1, r.2)

  -- a run passes a node for each of its places, and leads on from there
  pub run_passes : (above : List ℕ) (l : ℕ) (ls : List ℕ) (m : ℕ) → RunsTo g (above ++ l ∷ ls) m → (n : ℕ) × RunsTo g (l ∷ ls) n × Reaches g n m
  run_passes [] l ls m r = (m, r, ([], refl))
  run_passes (a ∷ front) l ls m r =
      let s = last_step a (front ++ l ∷ ls) m (not_empty front l ls) r in
      let p = run_passes front l ls s.0 s.1 in
      (p.0, p.1, (p.2.0 ++ m ∷ [], trail_push p.2.0 p.0 s.0 m p.2.1 s.2))

  -- where steps lead on from the end of a run, they are a longer run
  pub run_goes_on : (via : List ℕ) (a b l : ℕ) (ls : List ℕ) → RunsTo g (l ∷ ls) a → IsTrail g a via b → (above : List ℕ) × RunsTo g (above ++ l ∷ ls) b
  run_goes_on [] a b l ls r t = ([], subst (RunsTo g (l ∷ ls)) t r)
  run_goes_on (c ∷ cs) a b l ls r t =
      let on = run_goes_on cs c b (place_of g c) (l ∷ ls) (a, r, t.0, refl) t.1 in
      (on.0 ++ place_of g c ∷ [], subst (λ path. RunsTo g path b) (sym (append_assoc on.0 (place_of g c ∷ []) (l ∷ ls))) on.1)
