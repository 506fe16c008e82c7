-- The graph of the nodes that are kept: its nodes, starts and steps are those of the whole graph, under other numbers.
use Rattle.std.proofs.Common.{◌≡◌, ℕ, zero, suc, ◌+◌, ◌<◌, Bool, true, false, cond, List, [], ◌∷◌, length, filter, slice_get, option_map, option_and_then, unwrap_or, Some, refl, sym, ap, ◌∙◌, arith}
use Rattle.std.proofs.lemmas.Bool.{and_parts, and_from, false≢true}
use Rattle.std.proofs.lemmas.Option.{none-some, slice_get_within}
use Rattle.list_law.proofs.Items.{slice_get_inside}
use Rattle.list_law.proofs.Members.{IsIn-map, IsIn-map_parts, IsIn-filter, IsIn-filter_parts}
use Rattle.list_law.proofs.Kept.{kept_below-kept, kept_below-left, kept_below-less, kept_below-same}
use Rattle.graph_base.specs.declared.graph.Node.{Node}
use Rattle.graph_base.specs.Graphs.{PlainGraph}
use Rattle.graph_base.specs.Runs.{place_of, is_listener, rank_at, is_start, has_step}
use Rattle.list_law.specs.Counts.{kept_below}
use Rattle.reach_prune.specs.Trimmed.{nodes_kept, both_kept, renumbered, graph_kept}
use Rattle.graph_base.proofs.StartsAndSteps.{start_in, in_start, step_in, in_step}

module _ (keep : ℕ → Bool) where
  -- nodes

  get-at : (k : ℕ) (node : Node) (nodes : List Node) (i j : ℕ) (b : Bool) → keep k ≡ b →
      ((i' j' : ℕ) → keep (k + 1 + i') ≡ true → kept_below keep (k + 1 + i') ≡ kept_below keep (k + 1) + j' → slice_get (nodes_kept keep (k + 1) nodes) j' ≡ slice_get nodes i') →
      keep (k + i) ≡ true → kept_below keep (k + i) ≡ kept_below keep k + j →
      slice_get (cond b (node ∷ nodes_kept keep (k + 1) nodes) (nodes_kept keep (k + 1) nodes)) j ≡ slice_get (node ∷ nodes) i
  get-at k node nodes zero zero true e rest h at = refl
  get-at k node nodes zero (suc j) true e rest h at =
      let here : k + zero ≡ k = omega arith in
      let both = ap (kept_below keep) here in
      absurd (omega (arith, at, both))
  get-at k node nodes (suc i) zero true e rest h at =
      let less = kept_below-less keep k (k + suc i) e (omega arith) in
      absurd (omega (arith, at, less))
  get-at k node nodes (suc i) (suc j) true e rest h at =
      let on : k + suc i ≡ k + 1 + i = omega arith in
      let one : k + 1 ≡ suc k = omega arith in
      let step = ap (kept_below keep) one ∙ kept_below-kept keep k e in
      let same = ap (kept_below keep) on in
      rest i j (ap keep (sym on) ∙ h) (omega (arith, at, step, same))
  get-at k node nodes zero j false e rest h at =
      let here : k + zero ≡ k = omega arith in
      absurd (false≢true (sym e ∙ ap keep (sym here) ∙ h))
  get-at k node nodes (suc i) j false e rest h at =
      let on : k + suc i ≡ k + 1 + i = omega arith in
      let one : k + 1 ≡ suc k = omega arith in
      let step = ap (kept_below keep) one ∙ kept_below-left keep k e in
      let same = ap (kept_below keep) on in
      rest i j (ap keep (sym on) ∙ h) (omega (arith, at, step, same))

  get-nodes_kept : (k : ℕ) (nodes : List Node) (i j : ℕ) → keep (k + i) ≡ true → kept_below keep (k + i) ≡ kept_below keep k + j →
      slice_get (nodes_kept keep k nodes) j ≡ slice_get nodes i
  get-nodes_kept k [] i j h at = refl
  get-nodes_kept k (node ∷ nodes) i j h at = get-at k node nodes i j (keep k) refl (get-nodes_kept (k + 1) nodes) h at

  -- where a node of the smaller list comes from
  abbrev From : ℕ → List Node → ℕ → Node → Type 0
  From k nodes j node = (i : ℕ) × (slice_get nodes i ≡ Some node) × (keep (k + i) ≡ true) × (kept_below keep (k + i) ≡ kept_below keep k + j)

  later : (k : ℕ) (first : Node) (nodes : List Node) (j j' : ℕ) (node : Node) → kept_below keep (k + 1) + j' ≡ kept_below keep k + j → From (k + 1) nodes j' node → From k (first ∷ nodes) j node
  later k first nodes j j' node step f =
      let on : k + 1 + f.0 ≡ k + suc f.0 = omega arith in
      let at = f.3 in
      let same = ap (kept_below keep) on in
      (suc f.0, f.1, ap keep (sym on) ∙ f.2, omega (arith, at, step, same))

  from-at : (k : ℕ) (first : Node) (nodes : List Node) (j : ℕ) (node : Node) (b : Bool) → keep k ≡ b →
      ((j' : ℕ) → slice_get (nodes_kept keep (k + 1) nodes) j' ≡ Some node → From (k + 1) nodes j' node) →
      slice_get (cond b (first ∷ nodes_kept keep (k + 1) nodes) (nodes_kept keep (k + 1) nodes)) j ≡ Some node → From k (first ∷ nodes) j node
  from-at k first nodes zero node true e rest h =
      let here : k + zero ≡ k = omega arith in
      let same = ap (kept_below keep) here in
      (zero, h, ap keep here ∙ e, omega (arith, same))
  from-at k first nodes (suc j) node true e rest h =
      let one : k + 1 ≡ suc k = omega arith in
      let step = ap (kept_below keep) one ∙ kept_below-kept keep k e in
      later k first nodes (suc j) j node (omega (arith, step)) (rest j h)
  from-at k first nodes j node false e rest h =
      let one : k + 1 ≡ suc k = omega arith in
      let step = ap (kept_below keep) one ∙ kept_below-left keep k e in
      later k first nodes j j node (omega (arith, step)) (rest j h)

  from-nodes_kept : (k : ℕ) (nodes : List Node) (j : ℕ) (node : Node) → slice_get (nodes_kept keep k nodes) j ≡ Some node → From k nodes j node
  from-nodes_kept k [] j node h = absurd (none-some node h)
  from-nodes_kept k (first ∷ nodes) j node h = from-at k first nodes j node (keep k) refl (λ j' e. from-nodes_kept (k + 1) nodes j' node e) h

  module _ (g : PlainGraph) where
    node_kept : (n : ℕ) → keep n ≡ true → slice_get (graph_kept keep g).nodes (kept_below keep n) ≡ slice_get g.nodes n
    node_kept n h =
        let at : 0 + n ≡ n = omega arith in
        let same = ap (kept_below keep) at in
        get-nodes_kept 0 g.nodes n (kept_below keep n) (ap keep at ∙ h) (omega (arith, same))

    pub place_kept : (n : ℕ) → keep n ≡ true → place_of (graph_kept keep g) (kept_below keep n) ≡ place_of g n
    place_kept n h = ap (λ o. unwrap_or (option_map (λ (v : Node). v.loc) o) 0) (node_kept n h)

    pub listener_kept : (n : ℕ) → keep n ≡ true → is_listener (graph_kept keep g) (kept_below keep n) ≡ is_listener g n
    listener_kept n h = ap (λ o. unwrap_or (option_map (λ (v : Node). v.listener) o) false) (node_kept n h)

    pub rank_kept : (n : ℕ) → keep n ≡ true → rank_at (graph_kept keep g) (kept_below keep n) ≡ rank_at g n
    rank_kept n h = ap (λ o. option_and_then (λ (v : Node). v.rank) o) (node_kept n h)

    -- each number of the smaller graph is that of a node that is kept
    pub node_from_kept : (i : ℕ) → i < length (graph_kept keep g).nodes → (n : ℕ) × (n < length g.nodes) × (keep n ≡ true) × (i ≡ kept_below keep n)
    node_from_kept i lt =
        let s = slice_get_inside (nodes_kept keep 0 g.nodes) i lt in
        let f = from-nodes_kept 0 g.nodes i s.0 s.1 in
        let at : 0 + f.0 ≡ f.0 = omega arith in
        let same = ap (kept_below keep) at in
        let far = f.3 in
        (f.0, slice_get_within g.nodes f.0 s.0 f.1, ap keep (sym at) ∙ f.2, omega (arith, same, far))

    pub start_kept : (n : ℕ) → is_start g n ≡ true → keep n ≡ true → is_start (graph_kept keep g) (kept_below keep n) ≡ true
    start_kept n s h =
        in_start (graph_kept keep g) (kept_below keep n) (IsIn-map (kept_below keep) (filter keep g.starts) n (IsIn-filter keep g.starts n (start_in g n s) h))

    pub start_from_kept : (i : ℕ) → is_start (graph_kept keep g) i ≡ true → (n : ℕ) × (is_start g n ≡ true) × (keep n ≡ true) × (i ≡ kept_below keep n)
    start_from_kept i s =
        let m = IsIn-map_parts (kept_below keep) (filter keep g.starts) i (start_in (graph_kept keep g) i s) in
        let f = IsIn-filter_parts keep g.starts m.0 m.1 in
        (m.0, in_start g m.0 f.0, f.1, sym m.2)

    pub is_start-kept : (n : ℕ) → keep n ≡ true → is_start (graph_kept keep g) (kept_below keep n) ≡ true → is_start g n ≡ true
    is_start-kept n h s =
        let f = start_from_kept (kept_below keep n) s in
        ap (is_start g) (kept_below-same keep n f.0 h f.2 f.3) ∙ f.1

    pub step_kept : (m n : ℕ) → has_step g m n ≡ true → keep m ≡ true → keep n ≡ true → has_step (graph_kept keep g) (kept_below keep m) (kept_below keep n) ≡ true
    step_kept m n s h k =
        in_step (graph_kept keep g) (kept_below keep m) (kept_below keep n)
        (IsIn-map (renumbered keep) (filter (both_kept keep) g.steps) (m, n)
        (IsIn-filter (both_kept keep) g.steps (m, n) (step_in g m n s) (and_from (keep m) (keep n) h k)))

    pub step_from_kept : (i j : ℕ) → has_step (graph_kept keep g) i j ≡ true →
        (m n : ℕ) × (has_step g m n ≡ true) × (keep m ≡ true) × (keep n ≡ true) × (i ≡ kept_below keep m) × (j ≡ kept_below keep n)
    step_from_kept i j s =
        let m = IsIn-map_parts (renumbered keep) (filter (both_kept keep) g.steps) (i, j) (step_in (graph_kept keep g) i j s) in
        let f = IsIn-filter_parts (both_kept keep) g.steps m.0 m.1 in
        let both = and_parts (keep m.0.0) (keep m.0.1) f.1 in
        (m.0.0, m.0.1, in_step g m.0.0 m.0.1 f.0, both.0, both.1, ap (λ (r : ℕ × ℕ). r.0) (sym m.2), ap (λ (r : ℕ × ℕ). r.1) (sym m.2))
