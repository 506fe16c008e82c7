-- A graph stays well formed where some of its nodes are kept.
use Rattle.std.proofs.Common.{◌≡◌, ℕ, ◌<◌, Bool, true, not, ◌&&◌, ◌||◌, ◌==◌, IsTrue, nat_eq, map, filter, sym, ap, ◌∙◌, subst, inl, inr, ⊎_elim, eqb-true, eq-eqb}
use Rattle.std.specs.List.{IsDistinct}
use Rattle.std.proofs.lemmas.Bool.{and_parts, and_from}
use Rattle.list_law.proofs.Apart.{Apart-filter, Apart-map, Apart-from_distinct, IsDistinct-from_apart}
use Rattle.list_law.proofs.Members.{IsIn-filter_parts}
use Rattle.list_law.specs.Members.{IsIn}
use Rattle.list_law.proofs.Truth.{same_tests}
use Rattle.list_law.proofs.Kept.{kept_below-less, kept_below-same}
use Rattle.net_base.specs.Network.{PlainNet, is_peer, is_router, linked}
use Rattle.graph_base.specs.Graphs.{PlainGraph}
use Rattle.graph_base.specs.Runs.{place_of, is_listener, is_start, has_step}
use Rattle.graph_base.specs.Rules.{IsWellFormed, same_pair}
use Rattle.list_law.specs.Counts.{kept_below}
use Rattle.reach_prune.specs.Trimmed.{both_kept, renumbered, graph_kept}
use Rattle.graph_base.specs.Walks.{IsEnteredFromBefore}
use Rattle.graph_law.proofs.Kept.{place_kept, listener_kept, node_from_kept, start_kept, start_from_kept, is_start-kept, step_kept, step_from_kept}

module _ (keep : ℕ → Bool) (g : PlainGraph) where
  pub place_from : (i n : ℕ) → keep n ≡ true → i ≡ kept_below keep n → place_of (graph_kept keep g) i ≡ place_of g n
  place_from i n h e = ap (place_of (graph_kept keep g)) e ∙ place_kept keep g n h

  start_same : (i n : ℕ) → keep n ≡ true → i ≡ kept_below keep n → is_start (graph_kept keep g) i ≡ is_start g n
  start_same i n h e =
      ap (is_start (graph_kept keep g)) e
      ∙ same_tests (is_start (graph_kept keep g) (kept_below keep n)) (is_start g n) (is_start-kept keep g n h) (λ s. start_kept keep g n s h)

  -- steps of one node to one location
  AreAlike : PlainGraph → ℕ × ℕ → ℕ × ℕ → Type 0
  AreAlike h s t = same_pair (s.0, place_of h s.1) (t.0, place_of h t.1) ≡ true

  starts_apart : IsDistinct nat_eq (map (place_of g) g.starts) → IsDistinct nat_eq (map (place_of (graph_kept keep g)) (graph_kept keep g).starts)
  starts_apart apart =
      IsDistinct-from_apart nat_eq (place_of (graph_kept keep g)) (map (kept_below keep) (filter keep g.starts))
      (Apart-map (λ i j. nat_eq (place_of g i) (place_of g j) ≡ true) (λ i j. nat_eq (place_of (graph_kept keep g) i) (place_of (graph_kept keep g) j) ≡ true)
      (kept_below keep) (filter keep g.starts)
      (Apart-filter (λ i j. nat_eq (place_of g i) (place_of g j) ≡ true) keep g.starts (Apart-from_distinct nat_eq (place_of g) g.starts apart))
      back)
    where
      back : (m n : ℕ) → IsIn (filter keep g.starts) m → IsIn (filter keep g.starts) n →
          nat_eq (place_of (graph_kept keep g) (kept_below keep m)) (place_of (graph_kept keep g) (kept_below keep n)) ≡ true → nat_eq (place_of g m) (place_of g n) ≡ true
      back m n h k e =
          (λ i. nat_eq (sym (place_kept keep g m (IsIn-filter_parts keep g.starts m h).1) i) (sym (place_kept keep g n (IsIn-filter_parts keep g.starts n k).1) i)) ∙ e

  steps_apart : IsDistinct same_pair (map (λ (s : ℕ × ℕ). (s.0, place_of g s.1)) g.steps) →
      IsDistinct same_pair (map (λ (s : ℕ × ℕ). (s.0, place_of (graph_kept keep g) s.1)) (graph_kept keep g).steps)
  unfolding AreAlike
  steps_apart apart =
      IsDistinct-from_apart same_pair (λ (s : ℕ × ℕ). (s.0, place_of (graph_kept keep g) s.1)) (map (renumbered keep) (filter (both_kept keep) g.steps))
      (Apart-map (AreAlike g) (AreAlike (graph_kept keep g)) (renumbered keep) (filter (both_kept keep) g.steps)
      (Apart-filter (AreAlike g) (both_kept keep) g.steps (Apart-from_distinct same_pair (λ (s : ℕ × ℕ). (s.0, place_of g s.1)) g.steps apart))
      back)
    where
      back : (s t : ℕ × ℕ) → IsIn (filter (both_kept keep) g.steps) s → IsIn (filter (both_kept keep) g.steps) t →
          AreAlike (graph_kept keep g) (renumbered keep s) (renumbered keep t) → AreAlike g s t
      back s t h k e =
          let ks = and_parts (keep s.0) (keep s.1) (IsIn-filter_parts (both_kept keep) g.steps s h).1 in
          let kt = and_parts (keep t.0) (keep t.1) (IsIn-filter_parts (both_kept keep) g.steps t k).1 in
          let parts = and_parts (kept_below keep s.0 == kept_below keep t.0) (place_of (graph_kept keep g) (kept_below keep s.1) == place_of (graph_kept keep g) (kept_below keep t.1)) e in
          and_from (s.0 == t.0) (place_of g s.1 == place_of g t.1)
          (eq-eqb s.0 t.0 (kept_below-same keep s.0 t.0 ks.0 kt.0 (eqb-true (kept_below keep s.0) (kept_below keep t.0) parts.0)))
          ((λ i. sym (place_kept keep g s.1 ks.1) i == sym (place_kept keep g t.1 kt.1) i) ∙ parts.1)

  pub kept_well_formed : (net : PlainNet) (origin : ℕ → Bool) (external : Bool) → IsWellFormed net origin external g → IsWellFormed net origin external (graph_kept keep g)
  kept_well_formed net origin external wf = record {
    starts = λ i s. let f = start_from_kept keep g i s in ap origin (place_from i f.0 f.2 f.3) ∙ wf.starts f.0 f.1;
    one_start = starts_apart wf.one_start;
    alone = λ i lt o.
        let f = node_from_kept keep g i lt in
        start_same i f.0 f.2 f.3 ∙ wf.alone f.0 f.1 (ap origin (sym (place_from i f.0 f.2 f.3)) ∙ o);
    links = λ i j s.
        let f = step_from_kept keep g i j s in
        (λ k. linked net (place_from i f.0 f.3 f.5 k) (place_from j f.1 f.4 f.6 k) && not (start_same j f.1 f.4 f.6 k)) ∙ wf.links f.0 f.1 f.2;
    one_step = steps_apart wf.one_step;
    from = λ i j s.
        let f = step_from_kept keep g i j s in
        (λ k. start_same i f.0 f.3 f.5 k || is_router net (place_from i f.0 f.3 f.5 k)) ∙ wf.from f.0 f.1 f.2;
    into = λ i j h.
        let parts = and_parts (has_step (graph_kept keep g) i j) (is_peer net (place_of (graph_kept keep g) j)) h in
        let f = step_from_kept keep g i j parts.0 in
        wf.into f.0 f.1 (and_from (has_step g f.0 f.1) (is_peer net (place_of g f.1)) f.2 (ap (is_peer net) (sym (place_from j f.1 f.4 f.6)) ∙ parts.1));
    listeners = λ i lt.
        let f = node_from_kept keep g i lt in
        ap (is_listener (graph_kept keep g)) f.3 ∙ listener_kept keep g f.0 f.2 ∙ wf.listeners f.0 f.1
        ∙ sym (λ k. is_peer net (place_from i f.0 f.2 f.3 k) && not (start_same i f.0 f.2 f.3 k));
  }

  -- where what steps to a kept node is kept, each node is still entered from one with a lesser number
  pub kept_entered : IsEnteredFromBefore g → ((m n : ℕ) → has_step g m n ≡ true → keep n ≡ true → keep m ≡ true) → IsEnteredFromBefore (graph_kept keep g)
  kept_entered entered back i lt =
      let f = node_from_kept keep g i lt in
      ⊎_elim (λ s. inl (start_same i f.0 f.2 f.3 ∙ s))
      (λ (e : (m : ℕ) × (m < f.0) × IsTrue (has_step g m f.0)).
      inr (
        kept_below keep e.0,
        subst (λ k. kept_below keep e.0 < k) (sym f.3) (kept_below-less keep e.0 f.0 (back e.0 f.0 e.2 f.2) e.1),
        ap (has_step (graph_kept keep g) (kept_below keep e.0)) f.3 ∙ step_kept keep g e.0 f.0 e.2 (back e.0 f.0 e.2 f.2) f.2,
      ))
      (entered f.0 f.1)
