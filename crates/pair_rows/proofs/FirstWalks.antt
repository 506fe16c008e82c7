-- The rows of a place are those that are met there, and the least node of each shows its first walk.
use Rattle.std.proofs.Common.{◌≡◌, ℕ, ◌<◌, ◌≤◌, true, List, [], ◌∷◌, length, refl, sym, ap, ◌∙◌, subst, subst₂, arith, inl, inr, Option, Some, None, ltb-true}
use Rattle.std.specs.Prelude.{slice_get, ◌&&◌, nat_eq}
use Rattle.std.specs.List.{flat_map}
use Rattle.std.specs.Option.{option_eq}
use Rattle.std.proofs.lemmas.Bool.{and_parts, false≢true, or_cases}
use Rattle.std.proofs.lemmas.Option.{slice_get-map, slice_get_within}
use Rattle.list_law.specs.Members.{IsIn}
use Rattle.list_law.proofs.Members.{IsIn-append_cases, IsIn-filter, IsIn-flat_map_parts, IsIn-filter_parts, IsIn-map, IsIn-map_parts}
use Rattle.list_law.proofs.Options.{option_eq-is, option_map_parts}
use Rattle.net_base.specs.Network.{PlainNet}
use Rattle.net_base.specs.Prefixes.{PlainPrefix}
use Rattle.policy_base.specs.Policies.{PlainPolicy}
use Rattle.graph_base.specs.Graphs.{PlainGraph}
use Rattle.graph_base.specs.Runs.{has_step}
use Rattle.graph_base.specs.Walks.{IsShownWalk}
use Rattle.graph_base.proofs.StartsAndSteps.{in_step}
use Rattle.pair_graph.specs.declared.pair.NodePair.{NodePair}
use Rattle.pair_graph.specs.Pairs.{step_pair}
use Rattle.pair_graph.proofs.Orders.{first_of_all}
use Rattle.compare_base.specs.declared.rows.Place.{Place}
use Rattle.compare_base.specs.declared.rows.Row.{Row}
use Rattle.compare_base.specs.Order.{IsLess}
use Rattle.compare_base.specs.Ranks.{HasRow, IsFirstWalk}
use Rattle.pair_rows.specs.declared.values.Met.{Met}
use Rattle.pair_rows.specs.declared.values.FirstRow.{FirstRow}
use Rattle.pair_rows.specs.Meetings.{AreFirst, all_mets, earlier, is_at, is_row, less_rank, mets_at, node_mets, row_at, rows_alone, step_mets}
use Rattle.pair_rows.specs.Rows.{AreCompared, AreRows, IsEarlier, from_peer}
use Rattle.pair_rows.proofs.RowsMet.{along_row, met_from_row, met_of_node, met_of_step, node_met_parts, node_of, over_node, over_step, place_is, place_same, ranks_are, router_pair, row_along, row_from_met, session_pairs, step_met_parts}
use Rattle.pair_rows.proofs.ReversedWalks.{ComesFirst, comes_first, comes_first_from}

-- ---- order

is_less : (a b : Option ℕ) → less_rank a b ≡ true → IsLess a b
is_less (Some i) (Some j) less = ltb-true i j less
is_less (Some i) None less = tt
is_less None b less = absurd (false≢true less)

is_earlier : (a b : Row) → earlier a b ≡ true → IsEarlier a b
is_earlier a b is = elim (or_cases (less_rank a.old b.old) (option_eq nat_eq a.old b.old && less_rank a.new b.new) is) [
  | inl t ↦ inl (is_less a.old b.old t)
  | inr t ↦ let parts = and_parts (option_eq nat_eq a.old b.old) (less_rank a.new b.new) t in inr (option_eq-is a.old b.old parts.0, is_less a.new b.new parts.1)
]

-- ---- first walks

module _ (net : PlainNet) (old new : PlainPolicy) (p : PlainPrefix) (g h both : PlainGraph) (pairs : List NodePair) (are : AreCompared net old new p g h pairs both)
    (row : Row) (some : is_row row ≡ true) (n : ℕ) (walk : List ℕ) (shown : IsShownWalk both n walk) where
  -- the walk of a node at a router, where no lesser one has the row
  module _ (r : ℕ) (x : NodePair) (at : slice_get pairs n ≡ Some x) (there : x.place ≡ r) (is : row_at g h x ≡ row)
      (least : (m : ℕ) → IsIn (all_mets g h pairs both) (record { place = record { router = r; peer = None }; row = row; node = m }) → n ≤ m) where
    over_router : (rest : List ℕ) × (walk ≡ x.place ∷ rest) × (row_along g h (x.place ∷ rest) ≡ row_at g h x)
    over_router = over_node net old new p g h both pairs are n x walk at shown

    first_of_router : (other : List ℕ) → row_along g h (r ∷ other) ≡ row → ComesFirst walk (r ∷ other)
    first_of_router other along =
        let found = router_pair net old new p g h both pairs are r row other along some in
        let node = node_of net old new p g h both pairs are (r ∷ other) found.0 found.1 in
        let met = met_of_node net old new p g h both pairs are node.0 found.0 row node.2 found.3 some in
        let here = subst (λ (l : ℕ). IsIn (all_mets g h pairs both) (record { place = record { router = l; peer = None }; row = row; node = node.0 })) found.2 met in
        comes_first walk (r ∷ other) (first_of_all both are.is.order are.rules are.is.entered n node.0 walk (r ∷ other) (least node.0 here) shown node.1)

    router_first : IsFirstWalk net old new p r None row walk
    router_first =
        let over = over_router in
        let along : row_along g h walk ≡ row = ap (row_along g h) over.1 ∙ over.2 ∙ is in
        record {
          begins = (over.0, over.1 ∙ ap (λ l. l ∷ over.0) there);
          in_old = ap (λ (q : Row). q.old) (ranks_are net old new p g h both pairs are walk ∙ along);
          in_new = ap (λ (q : Row). q.new) (ranks_are net old new p g h both pairs are walk ∙ along);
          first = λ other one two. first_of_router other (along_row net old new p g h both pairs are (r ∷ other) row one two);
        }

  -- that of a node at a router from which a step goes to a peer
  module _ (r peer m : ℕ) (x y : NodePair) (goes : has_step both n m ≡ true) (at : slice_get pairs n ≡ Some x) (at_peer : slice_get pairs m ≡ Some y) (there : x.place ≡ r) (hears : y.place ≡ peer)
      (is : row_at g h y ≡ row) (least : (k : ℕ) → IsIn (all_mets g h pairs both) (record { place = record { router = r; peer = Some peer }; row = row; node = k }) → n ≤ k) where
    over_session : (rest : List ℕ) × (walk ≡ x.place ∷ rest) × (row_along g h (y.place ∷ x.place ∷ rest) ≡ row_at g h y)
    over_session = over_step net old new p g h both pairs are n m x y walk goes at at_peer shown

    first_of_session : (other : List ℕ) → row_along g h (peer ∷ r ∷ other) ≡ row → ComesFirst (peer ∷ walk) (peer ∷ r ∷ other)
    first_of_session other along =
        let found = session_pairs net old new p g h both pairs are r peer row other along some in
        let node = node_of net old new p g h both pairs are (r ∷ other) found.0 found.2 in
        let met = met_of_step net old new p g h both pairs are node.0 found.0 found.1 row node.2 (ap (step_pair g h found.0) found.5 ∙ found.4) found.6 some in
        let here = subst₂ (λ (l k : ℕ). IsIn (all_mets g h pairs both) (record { place = record { router = l; peer = Some k }; row = row; node = node.0 })) found.3 found.5 met in
        comes_first_from peer walk (r ∷ other) (first_of_all both are.is.order are.rules are.is.entered n node.0 walk (r ∷ other) (least node.0 here) shown node.1)

    session_first : IsFirstWalk net old new p r (Some peer) row (peer ∷ walk)
    session_first =
        let over = over_session in
        let begins : peer ∷ walk ≡ y.place ∷ x.place ∷ over.0 = ap (λ k. k ∷ walk) (sym hears) ∙ ap (λ ls. y.place ∷ ls) over.1 in
        let along : row_along g h (peer ∷ walk) ≡ row = ap (row_along g h) begins ∙ over.2 ∙ is in
        record {
          begins = (over.0, ap (λ ls. peer ∷ ls) (over.1 ∙ ap (λ l. l ∷ over.0) there));
          in_old = ap (λ (q : Row). q.old) (ranks_are net old new p g h both pairs are (peer ∷ walk) ∙ along);
          in_new = ap (λ (q : Row). q.new) (ranks_are net old new p g h both pairs are (peer ∷ walk) ∙ along);
          first = λ other one two. first_of_session other (along_row net old new p g h both pairs are (peer ∷ r ∷ other) row one two);
        }

-- ---- rows

module _ (net : PlainNet) (old new : PlainPolicy) (p : PlainPrefix) (g h both : PlainGraph) (pairs : List NodePair) (are : AreCompared net old new p g h pairs both)
    (place : Place) (rows : List FirstRow) (firsts : AreFirst (mets_at (all_mets g h pairs both) place) rows) where
  -- what is met at the place
  at_place : (met : Met) → IsIn (mets_at (all_mets g h pairs both) place) met → IsIn (all_mets g h pairs both) met × (met.place ≡ place)
  at_place met at =
      let parts = IsIn-filter_parts (is_at place) (all_mets g h pairs both) met at in
      (parts.0, place_is met.place place parts.1)

  met_there : (met : Met) → IsIn (all_mets g h pairs both) met → met.place ≡ place → IsIn (mets_at (all_mets g h pairs both) place) met
  met_there met at is = IsIn-filter (is_at place) (all_mets g h pairs both) met at (place_same met.place place is)

  has_row : (row : Row) → IsIn (rows_alone rows) row → HasRow net old new p place.router place.peer row
  has_row row at =
      let x = IsIn-map_parts (λ (y : FirstRow). y.row) rows row at in
      let met = firsts.sound x.0 x.1 in
      let there = at_place met.0 met.1 in
      subst (HasRow net old new p place.router place.peer) (met.2 ∙ x.2) (row_from_met net old new p g h both pairs are place met.0 there.0 there.1)

  row_is_there : (row : Row) → HasRow net old new p place.router place.peer row → IsIn (rows_alone rows) row
  row_is_there row has =
      let met = met_from_row net old new p g h both pairs are place.router place.peer row has in
      let x = firsts.all (record { place = place; row = row; node = met.0 }) (met_there (record { place = place; row = row; node = met.0 }) met.1 refl) in
      subst (IsIn (rows_alone rows)) x.2 (IsIn-map (λ (y : FirstRow). y.row) rows x.0 x.1)

  pub rows_are : AreRows net old new p place (rows_alone rows)
  rows_are = record {
    those = λ row. (has_row row, row_is_there row);
    order = λ i j a b less at_a at_b.
        let x = option_map_parts (λ (y : FirstRow). y.row) (slice_get rows i) a (sym (slice_get-map (λ (y : FirstRow). y.row) rows i) ∙ at_a) in
        let z = option_map_parts (λ (y : FirstRow). y.row) (slice_get rows j) b (sym (slice_get-map (λ (y : FirstRow). y.row) rows j) ∙ at_b) in
        is_earlier a b (subst₂ (λ (q s : Row). earlier q s ≡ true) x.2 z.2 (firsts.order i j x.0 z.0 less x.1 z.1));
  }

  -- ---- walks

  -- no node with which the row is met is less
  least : (x : FirstRow) → IsIn rows x → (q : Place) → q ≡ place → (n : ℕ) → IsIn (all_mets g h pairs both) (record { place = q; row = x.row; node = n }) → x.node ≤ n
  least x at q is n met = firsts.least x (record { place = q; row = x.row; node = n }) at (met_there (record { place = q; row = x.row; node = n }) met is) refl

  Shows : FirstRow → List ℕ → Type 0
  Shows x walk = (x.node < length both.nodes) × (IsShownWalk both x.node walk → IsFirstWalk net old new p place.router place.peer x.row (from_peer place.peer walk))

  within : (n : ℕ) (z : NodePair) → slice_get pairs n ≡ Some z → n < length both.nodes
  within n z at = omega (arith, slice_get_within pairs n z at, are.is.size)

  shows : (x : FirstRow) (walk : List ℕ) → IsIn rows x → Shows x walk
  unfolding Shows
  shows x walk at =
      let met = firsts.sound x at in
      let there = at_place met.0 met.1 in
      elim (IsIn-append_cases (node_mets g h pairs 0) (flat_map (step_mets g h pairs) both.steps) met.0 there.0) [
        | inl t ↦
            let node = node_met_parts g h pairs 0 met.0 t in
            let number : node.at ≡ x.node = omega (arith, node.node, met.3) in
            let here : slice_get pairs x.node ≡ Some node.pair = ap (slice_get pairs) (sym number) ∙ node.is in
            let router : node.pair.place ≡ place.router = sym node.router ∙ ap (λ (q : Place). q.router) there.1 in
            let peer : place.peer ≡ None = ap (λ (q : Place). q.peer) (sym there.1) ∙ node.peer in
            let row : row_at g h node.pair ≡ x.row = sym node.row ∙ met.2 in
            let some : is_row x.row ≡ true = ap is_row (sym met.2) ∙ node.some in (
              within x.node node.pair here,
              λ shown. subst (λ (o : Option ℕ). IsFirstWalk net old new p place.router o x.row (from_peer o walk)) (sym peer)
                  (router_first net old new p g h both pairs are x.row some x.node walk shown place.router node.pair here router row
                  (least x at (record { router = place.router; peer = None }) (place_from (sym peer)))),
            )
        | inr t ↦
            let found = IsIn-flat_map_parts (step_mets g h pairs) both.steps met.0 t in
            let step = step_met_parts g h pairs found.0 met.0 found.2 in
            let number : found.0.0 ≡ x.node = sym step.node ∙ met.3 in
            let here : slice_get pairs x.node ≡ Some step.from = ap (slice_get pairs) (sym number) ∙ step.at_from in
            let router : step.from.place ≡ place.router = sym step.router ∙ ap (λ (q : Place). q.router) there.1 in
            let peer : place.peer ≡ Some step.to.place = ap (λ (q : Place). q.peer) (sym there.1) ∙ step.peer in
            let row : row_at g h step.to ≡ x.row = sym step.row ∙ met.2 in
            let some : is_row x.row ≡ true = ap is_row (sym met.2) ∙ step.some in
            let goes : has_step both x.node found.0.1 ≡ true = ap (λ k. has_step both k found.0.1) (sym number) ∙ in_step both found.0.0 found.0.1 found.1 in (
              within x.node step.from here,
              λ shown. subst (λ (o : Option ℕ). IsFirstWalk net old new p place.router o x.row (from_peer o walk)) (sym peer)
                  (session_first net old new p g h both pairs are x.row some x.node walk shown place.router step.to.place found.0.1 step.from step.to goes here step.at_to router refl row
                  (least x at (record { router = place.router; peer = Some step.to.place }) (place_from (sym peer)))),
            )
      ]
    where
      place_from : {o : Option ℕ} → o ≡ place.peer → record { router = place.router; peer = o } ≡ place
      place_from e = λ i. record { router = place.router; peer = e i }

  pub nodes_within : (x : FirstRow) → IsIn rows x → x.node < length both.nodes
  unfolding Shows
  nodes_within x at = (shows x [] at).0

  pub first_walks : (x : FirstRow) (walk : List ℕ) → IsIn rows x → IsShownWalk both x.node walk → IsFirstWalk net old new p place.router place.peer x.row (from_peer place.peer walk)
  unfolding Shows
  first_walks x walk at shown = (shows x walk at).1 shown
