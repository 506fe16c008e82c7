-- What is met at a place are the rows of its walks.
use Rattle.std.proofs.Common.{◌≡◌, ◌≢◌, ℕ, zero, suc, ◌+◌, Bool, true, false, List, [], ◌∷◌, ◌++◌, refl, sym, ap, ◌∙◌, subst, arith, inl, inr, Option, Some, None}
use Rattle.std.specs.Prelude.{is_some, slice_get, ◌||◌, ◌==◌, nat_eq, if◌then◌else◌}
use Rattle.std.specs.List.{flat_map}
use Rattle.std.specs.Option.{option_and_then, option_eq}
use Rattle.std.proofs.lemmas.Bool.{and_from, and_parts, cases_Bool, eq-eqb, eqb-true, true≢false}
use Rattle.std.proofs.lemmas.Option.{same_Some, slice_get_within}
use Rattle.list_law.specs.Members.{IsIn}
use Rattle.list_law.proofs.Members.{IsIn-append_cases, IsIn-append_left, IsIn-append_right, IsIn-flat_map, IsIn-flat_map_parts}
use Rattle.list_law.proofs.Options.{cases_Option, is-option_eq, option_and_then_parts, option_eq-is}
use Rattle.net_base.specs.Network.{PlainNet}
use Rattle.net_base.specs.Prefixes.{PlainPrefix}
use Rattle.policy_base.specs.Policies.{PlainPolicy}
use Rattle.graph_base.specs.Graphs.{PlainGraph}
use Rattle.graph_base.specs.Runs.{has_step, place_of, rank_at, run}
use Rattle.graph_base.specs.Walks.{IsShownWalk, shown_walk}
use Rattle.graph_base.proofs.ShownWalks.{shown_walk_is}
use Rattle.graph_base.proofs.StartsAndSteps.{in_step, step_in}
use Rattle.pair_graph.specs.declared.pair.NodePair.{NodePair}
use Rattle.pair_graph.specs.Pairs.{joined, run_pair, step_pair}
use Rattle.pair_graph.proofs.WalkPairs.{run_pair_next}
use Rattle.impact_law.specs.Impacts.{begin_at}
use Rattle.compare_base.specs.declared.rows.Place.{Place}
use Rattle.compare_base.specs.declared.rows.Row.{Row}
use Rattle.compare_base.specs.Ranks.{HasRow, rank_for}
use Rattle.compare_base.specs.Same.{same_place}
use Rattle.pair_rows.specs.declared.values.Met.{Met}
use Rattle.pair_rows.specs.Meetings.{all_mets, is_row, met_between, met_if, node_mets, row_at, step_mets}
use Rattle.pair_rows.specs.Rows.{AreCompared}

-- ---- places

pub place_is : (a b : Place) → same_place a b ≡ true → a ≡ b
place_is a b same =
    let parts = and_parts (a.router == b.router) (option_eq nat_eq a.peer b.peer) same in
    let router : a.router ≡ b.router = eqb-true a.router b.router parts.0 in
    let peer = option_eq-is a.peer b.peer parts.1 in
    λ i. record { router = router i; peer = peer i }

pub place_same : (a b : Place) → a ≡ b → same_place a b ≡ true
place_same a b is = and_from _ _ (eq-eqb a.router b.router (ap (λ (q : Place). q.router) is)) (is-option_eq a.peer b.peer (ap (λ (q : Place). q.peer) is))

-- ---- rows

abbrev no_row : Row
no_row = record { old = None; new = None }

pub row_of_some : (row : Row) → is_row row ≡ true → row ≢ record { old = None; new = None }
row_of_some row is none = absurd (true≢false (sym is ∙ ap is_row none))

pub some_of_row : (row : Row) → row ≢ record { old = None; new = None } → is_row row ≡ true
some_of_row row is = elim (cases_Bool (is_row row)) [
  | inl t ↦ t
  | inr t ↦ absurd (is (none row.old row.new t))
]
  where
    none : (a b : Option ℕ) → (is_some a || is_some b) ≡ false → record { old = a; new = b } ≡ no_row
    none None None off = refl
    none None (Some j) off = absurd (true≢false off)
    none (Some i) b off = absurd (true≢false off)

met_if_on : (met : Met) → is_row met.row ≡ true → IsIn (met_if met) met
met_if_on met on = subst (λ (b : Bool). IsIn (if b then met ∷ [] else []) met) (sym on) (0, refl)

met_if_parts : (met m : Met) → IsIn (met_if met) m → (is_row met.row ≡ true) × (met ≡ m)
met_if_parts met m at = elim (cases_Bool (is_row met.row)) [
  | inl t ↦ (t, only (subst (λ (b : Bool). IsIn (if b then met ∷ [] else []) m) t at))
  | inr t ↦ absurd (nothing (subst (λ (b : Bool). IsIn (if b then met ∷ [] else []) m) t at))
]
  where
    only : IsIn (met ∷ []) m → met ≡ m
    only (zero, here) = cc
    only (suc i, here) = absurd cc

    nothing : IsIn [] m → ⊥
    nothing (i, here) = cc

-- ---- pairs to which walks lead

joined_is : (l : ℕ) (a b : Option ℕ) (x : NodePair) → joined l a b ≡ Some x → (x.place ≡ l) × (x.first ≡ a) × (x.second ≡ b)
joined_is l (Some m) b x is = let same : record { place = l; first = Some m; second = b } ≡ x = cc in
    (ap (λ (y : NodePair). y.place) (sym same), ap (λ (y : NodePair). y.first) (sym same), ap (λ (y : NodePair). y.second) (sym same))
joined_is l None (Some n) x is = let same : record { place = l; first = None; second = Some n } ≡ x = cc in
    (ap (λ (y : NodePair). y.place) (sym same), ap (λ (y : NodePair). y.first) (sym same), ap (λ (y : NodePair). y.second) (sym same))
joined_is l None None x is = absurd cc

joined_none : (l : ℕ) (a b : Option ℕ) → joined l a b ≡ None → (a ≡ None) × (b ≡ None)
joined_none l (Some m) b is = absurd cc
joined_none l None (Some n) is = absurd cc
joined_none l None None is = (refl, refl)

module _ (g h : PlainGraph) where
  -- the ranks of the nodes to which a walk leads
  abbrev pub row_along : List ℕ → Row
  row_along path = record { old = option_and_then (rank_at g) (run g path); new = option_and_then (rank_at h) (run h path) }

  pub row_of_pair : (l : ℕ) (ls : List ℕ) (x : NodePair) → run_pair g h (l ∷ ls) ≡ Some x → (x.place ≡ l) × (row_at g h x ≡ row_along (l ∷ ls))
  row_of_pair l ls x is =
      let parts = joined_is l (run g (l ∷ ls)) (run h (l ∷ ls)) x is in
      (parts.0, λ i. record { old = option_and_then (rank_at g) (parts.1 i); new = option_and_then (rank_at h) (parts.2 i) })

  pub pair_of_row : (l : ℕ) (ls : List ℕ) → row_along (l ∷ ls) ≢ record { old = None; new = None } → (x : NodePair) × (run_pair g h (l ∷ ls) ≡ Some x)
  pair_of_row l ls is = elim (cases_Option (run_pair g h (l ∷ ls))) [
    | inl none ↦
        let parts = joined_none l (run g (l ∷ ls)) (run h (l ∷ ls)) none in
        absurd (is (λ i. record { old = option_and_then (rank_at g) (parts.0 i); new = option_and_then (rank_at h) (parts.1 i) }))
    | inr some ↦ some
  ]

  -- ---- what is met

  node_met : (xs : List NodePair) (k i : ℕ) (x : NodePair) → slice_get xs i ≡ Some x → is_row (row_at g h x) ≡ true
      → IsIn (node_mets g h xs k) (record { place = record { router = x.place; peer = None }; row = row_at g h x; node = k + i })
  node_met [] k i x at on = absurd cc
  node_met (y ∷ ys) k zero x at on =
      let same : y ≡ x = same_Some y x at in
      let number : k ≡ k + zero = omega arith in
      let first : Met = record { place = record { router = x.place; peer = None }; row = row_at g h x; node = k } in
      let here : IsIn (met_if first) first = met_if_on first on in
      let turned = subst (λ (z : NodePair). IsIn (met_if (record { place = record { router = z.place; peer = None }; row = row_at g h z; node = k })) first) (sym same) here in
      let there = IsIn-append_left (met_if (record { place = record { router = y.place; peer = None }; row = row_at g h y; node = k })) (node_mets g h ys (k + 1)) first turned in
      subst (λ (m : ℕ). IsIn (node_mets g h (y ∷ ys) k) (record { place = record { router = x.place; peer = None }; row = row_at g h x; node = m })) number there
  node_met (y ∷ ys) k (suc i) x at on =
      let number : (k + 1) + i ≡ k + suc i = omega arith in
      let later = node_met ys (k + 1) i x at on in
      let there =
      IsIn-append_right (met_if (record { place = record { router = y.place; peer = None }; row = row_at g h y; node = k })) (node_mets g h ys (k + 1))
      (record { place = record { router = x.place; peer = None }; row = row_at g h x; node = (k + 1) + i }) later in
      subst (λ (m : ℕ). IsIn (node_mets g h (y ∷ ys) k) (record { place = record { router = x.place; peer = None }; row = row_at g h x; node = m })) number there

  pub record IsNodeMet (xs : List NodePair) (k : ℕ) (met : Met) : Type 0 where
    pub at : ℕ
    pub pair : NodePair
    pub is : slice_get xs at ≡ Some pair
    pub router : met.place.router ≡ pair.place
    pub peer : met.place.peer ≡ None
    pub row : met.row ≡ row_at g h pair
    pub node : met.node ≡ k + at
    pub some : is_row met.row ≡ true

  pub node_met_parts : (xs : List NodePair) (k : ℕ) (met : Met) → IsIn (node_mets g h xs k) met → IsNodeMet xs k met
  node_met_parts [] k met (i, at) = absurd cc
  node_met_parts (y ∷ ys) k met at =
      elim (IsIn-append_cases (met_if (record { place = record { router = y.place; peer = None }; row = row_at g h y; node = k })) (node_mets g h ys (k + 1)) met at) [
        | inl t ↦
            let parts = met_if_parts (record { place = record { router = y.place; peer = None }; row = row_at g h y; node = k }) met t in
            record {
              at = 0;
              pair = y;
              is = refl;
              router = ap (λ (m : Met). m.place.router) (sym parts.1);
              peer = ap (λ (m : Met). m.place.peer) (sym parts.1);
              row = ap (λ (m : Met). m.row) (sym parts.1);
              node = omega (arith, ap (λ (m : Met). m.node) parts.1);
              some = ap (λ (m : Met). is_row m.row) (sym parts.1) ∙ parts.0;
            }
        | inr t ↦
            let later = node_met_parts ys (k + 1) met t in
            record {
              at = suc later.at;
              pair = later.pair;
              is = later.is;
              router = later.router;
              peer = later.peer;
              row = later.row;
              node = omega (arith, later.node);
              some = later.some;
            }
      ]

  module _ (pairs : List NodePair) where
    step_met : (m n : ℕ) (x y : NodePair) → slice_get pairs m ≡ Some x → slice_get pairs n ≡ Some y → is_row (row_at g h y) ≡ true
        → IsIn (step_mets g h pairs (m, n)) (record { place = record { router = x.place; peer = Some y.place }; row = row_at g h y; node = m })
    step_met m n x y at_m at_n on =
        let met : Met = record { place = record { router = x.place; peer = Some y.place }; row = row_at g h y; node = m } in
        subst (λ (o : Option NodePair). IsIn (met_between g h m o (slice_get pairs n)) met) (sym at_m)
        (subst (λ (o : Option NodePair). IsIn (met_between g h m (Some x) o) met) (sym at_n) (met_if_on met on))

    pub record IsStepMet (step : ℕ × ℕ) (met : Met) : Type 0 where
      pub from : NodePair
      pub to : NodePair
      pub at_from : slice_get pairs step.0 ≡ Some from
      pub at_to : slice_get pairs step.1 ≡ Some to
      pub router : met.place.router ≡ from.place
      pub peer : met.place.peer ≡ Some to.place
      pub row : met.row ≡ row_at g h to
      pub node : met.node ≡ step.0
      pub some : is_row met.row ≡ true

    pub step_met_parts : (step : ℕ × ℕ) (met : Met) → IsIn (step_mets g h pairs step) met → IsStepMet step met
    step_met_parts step met at = by (slice_get pairs step.0) (slice_get pairs step.1) refl refl at
      where
        by : (a b : Option NodePair) → slice_get pairs step.0 ≡ a → slice_get pairs step.1 ≡ b → IsIn (met_between g h step.0 a b) met → IsStepMet step met
        by (Some x) (Some y) one other there =
            let parts = met_if_parts (record { place = record { router = x.place; peer = Some y.place }; row = row_at g h y; node = step.0 }) met there in
            record {
              from = x;
              to = y;
              at_from = one;
              at_to = other;
              router = ap (λ (m : Met). m.place.router) (sym parts.1);
              peer = ap (λ (m : Met). m.place.peer) (sym parts.1);
              row = ap (λ (m : Met). m.row) (sym parts.1);
              node = ap (λ (m : Met). m.node) (sym parts.1);
              some = ap (λ (m : Met). is_row m.row) (sym parts.1) ∙ parts.0;
            }
        by (Some x) None one other (i, there) = absurd cc
        by None (Some y) one other (i, there) = absurd cc
        by None None one other (i, there) = absurd cc

-- ---- rows that are met

shown_head : (p : PlainGraph) (n : ℕ) (walk : List ℕ) → IsShownWalk p n walk → (rest : List ℕ) × (walk ≡ place_of p n ∷ rest)
shown_head p n [] shown = absurd shown
shown_head p n (l ∷ []) shown = ([], ap (λ k. k ∷ []) shown.1)
shown_head p n (l ∷ k ∷ ls) shown = (k ∷ ls, ap (λ j. j ∷ k ∷ ls) shown.1)

module _ (net : PlainNet) (old new : PlainPolicy) (p : PlainPrefix) (g h both : PlainGraph) (pairs : List NodePair) (are : AreCompared net old new p g h pairs both) where
  pub ranks_are : (path : List ℕ) → record { old = rank_for net old p path; new = rank_for net new p path } ≡ row_along g h path
  ranks_are path = λ i. record { old = are.one path i; new = are.other path i }

  -- the walk by which a node is shown, with the pair of the node
  pub shown_pair : (n : ℕ) (x : NodePair) (walk : List ℕ) → slice_get pairs n ≡ Some x → IsShownWalk both n walk
      → (rest : List ℕ) × (walk ≡ x.place ∷ rest) × (run_pair g h (x.place ∷ rest) ≡ Some x)
  shown_pair n x walk at shown =
      let head = shown_head both n walk shown in
      let begins : walk ≡ x.place ∷ head.0 = head.1 ∙ ap (λ l. l ∷ head.0) (are.is.places n x at) in
      (head.0, begins, ap (run_pair g h) (sym begins) ∙ are.is.shown n x walk at shown)

  some_walk : (n : ℕ) (x : NodePair) → slice_get pairs n ≡ Some x → (walk : List ℕ) × IsShownWalk both n walk
  some_walk n x at =
      (shown_walk both n, shown_walk_is both are.is.entered n (omega (arith, slice_get_within pairs n x at, are.is.size)))

  -- a walk over a node, and from a peer over the node before it
  pub over_node : (n : ℕ) (x : NodePair) (walk : List ℕ) → slice_get pairs n ≡ Some x → IsShownWalk both n walk
      → (rest : List ℕ) × (walk ≡ x.place ∷ rest) × (row_along g h (x.place ∷ rest) ≡ row_at g h x)
  over_node n x walk at shown =
      let found = shown_pair n x walk at shown in
      (found.0, found.1, sym (row_of_pair g h x.place found.0 x found.2).1)

  pub over_step : (m n : ℕ) (x y : NodePair) (walk : List ℕ) → has_step both m n ≡ true → slice_get pairs m ≡ Some x → slice_get pairs n ≡ Some y → IsShownWalk both m walk
      → (rest : List ℕ) × (walk ≡ x.place ∷ rest) × (row_along g h (y.place ∷ x.place ∷ rest) ≡ row_at g h y)
  over_step m n x y walk has at_m at_n shown =
      let found = shown_pair m x walk at_m shown in
      let leads : run_pair g h (y.place ∷ x.place ∷ found.0) ≡ Some y =
      run_pair_next g h y.place x.place found.0 ∙ ap (option_and_then (λ z. step_pair g h z y.place)) found.2 ∙ are.is.steps.goes m n x y has at_m at_n in
      (found.0, found.1, sym (row_of_pair g h y.place (x.place ∷ found.0) y leads).1)

  has_row : (r : ℕ) (peer : Option ℕ) (row : Row) (rest : List ℕ) → row_along g h (begin_at r peer ++ rest) ≡ row → is_row row ≡ true → HasRow net old new p r peer row
  has_row r peer row rest along some =
      let both_are = ranks_are (begin_at r peer ++ rest) ∙ along in
      (rest, ap (λ (q : Row). q.old) both_are, ap (λ (q : Row). q.new) both_are, row_of_some row some)

  -- where a row is met, a walk has it
  pub row_from_met : (place : Place) (met : Met) → IsIn (all_mets g h pairs both) met → met.place ≡ place → HasRow net old new p place.router place.peer met.row
  row_from_met place met at is = elim (IsIn-append_cases (node_mets g h pairs 0) (flat_map (step_mets g h pairs) both.steps) met at) [
    | inl t ↦
        let node = node_met_parts g h pairs 0 met t in
        let walk = some_walk node.at node.pair node.is in
        let over = over_node node.at node.pair walk.0 node.is walk.1 in
        let here : met.place ≡ record { router = node.pair.place; peer = None } = λ i. record { router = node.router i; peer = node.peer i } in
        let has = has_row node.pair.place None met.row over.0 (over.2 ∙ sym node.row) node.some in
        subst (λ (q : Place). HasRow net old new p q.router q.peer met.row) (sym here ∙ is) has
    | inr t ↦
        let some = IsIn-flat_map_parts (step_mets g h pairs) both.steps met t in
        let step = step_met_parts g h pairs some.0 met some.2 in
        let walk = some_walk some.0.0 step.from step.at_from in
        let over = over_step some.0.0 some.0.1 step.from step.to walk.0 (in_step both some.0.0 some.0.1 some.1) step.at_from step.at_to walk.1 in
        let here : met.place ≡ record { router = step.from.place; peer = Some step.to.place } = λ i. record { router = step.router i; peer = step.peer i } in
        let has = has_row step.from.place (Some step.to.place) met.row over.0 (over.2 ∙ sym step.row) step.some in
        subst (λ (q : Place). HasRow net old new p q.router q.peer met.row) (sym here ∙ is) has
  ]

  -- ---- a walk that has a row

  pub along_row : (path : List ℕ) (row : Row) → rank_for net old p path ≡ row.old → rank_for net new p path ≡ row.new → row_along g h path ≡ row
  along_row path row one other = sym (ranks_are path) ∙ (λ i. record { old = one i; new = other i })

  pub node_of : (path : List ℕ) (x : NodePair) → run_pair g h path ≡ Some x → (n : ℕ) × (run both path ≡ Some n) × (slice_get pairs n ≡ Some x)
  node_of path x is = option_and_then_parts (slice_get pairs) (run both path) x (are.is.runs path ∙ is)

  -- the pair to which a walk of a router leads
  pub router_pair : (r : ℕ) (row : Row) (rest : List ℕ) → row_along g h (r ∷ rest) ≡ row → is_row row ≡ true
      → (x : NodePair) × (run_pair g h (r ∷ rest) ≡ Some x) × (x.place ≡ r) × (row_at g h x ≡ row)
  router_pair r row rest along some =
      let found = pair_of_row g h r rest (λ none. row_of_some row some (sym along ∙ none)) in
      let parts = row_of_pair g h r rest found.0 found.1 in
      (found.0, found.1, parts.0, parts.1 ∙ along)

  -- and one of a session: those to which its walk leads at the router and at the peer
  pub session_pairs : (r peer : ℕ) (row : Row) (rest : List ℕ) → row_along g h (peer ∷ r ∷ rest) ≡ row → is_row row ≡ true
      → (x y : NodePair) × (run_pair g h (r ∷ rest) ≡ Some x) × (x.place ≡ r) × (step_pair g h x peer ≡ Some y) × (y.place ≡ peer) × (row_at g h y ≡ row)
  session_pairs r peer row rest along some =
      let found = pair_of_row g h peer (r ∷ rest) (λ none. row_of_some row some (sym along ∙ none)) in
      let parts = row_of_pair g h peer (r ∷ rest) found.0 found.1 in
      let before = option_and_then_parts (λ z. step_pair g h z peer) (run_pair g h (r ∷ rest)) found.0 (sym (run_pair_next g h peer r rest) ∙ found.1) in
      (before.0, found.0, before.1, (row_of_pair g h r rest before.0 before.1).0, before.2, parts.0, parts.1 ∙ along)

  pub met_of_node : (n : ℕ) (x : NodePair) (row : Row) → slice_get pairs n ≡ Some x → row_at g h x ≡ row → is_row row ≡ true
      → IsIn (all_mets g h pairs both) (record { place = record { router = x.place; peer = None }; row = row; node = n })
  met_of_node n x row at is some =
      let number : 0 + n ≡ n = omega arith in
      let first = node_met g h pairs 0 n x at (ap is_row is ∙ some) in
      let second = subst (λ (m : ℕ). IsIn (node_mets g h pairs 0) (record { place = record { router = x.place; peer = None }; row = row_at g h x; node = m })) number first in
      let third = subst (λ (q : Row). IsIn (node_mets g h pairs 0) (record { place = record { router = x.place; peer = None }; row = q; node = n })) is second in
      IsIn-append_left (node_mets g h pairs 0) (flat_map (step_mets g h pairs) both.steps) (record { place = record { router = x.place; peer = None }; row = row; node = n }) third

  pub met_of_step : (n : ℕ) (x y : NodePair) (row : Row) → slice_get pairs n ≡ Some x → step_pair g h x y.place ≡ Some y → row_at g h y ≡ row → is_row row ≡ true
      → IsIn (all_mets g h pairs both) (record { place = record { router = x.place; peer = Some y.place }; row = row; node = n })
  met_of_step n x y row at goes is some =
      let step = are.is.steps.all n y.place x y at goes in
      let first = step_met g h pairs n step.0 x y at step.2 (ap is_row is ∙ some) in
      let second =
      IsIn-flat_map (step_mets g h pairs) both.steps (n, step.0) (record { place = record { router = x.place; peer = Some y.place }; row = row_at g h y; node = n })
      (step_in both n step.0 step.1) first in
      let third = subst (λ (q : Row). IsIn (flat_map (step_mets g h pairs) both.steps) (record { place = record { router = x.place; peer = Some y.place }; row = q; node = n })) is second in
      IsIn-append_right (node_mets g h pairs 0) (flat_map (step_mets g h pairs) both.steps) (record { place = record { router = x.place; peer = Some y.place }; row = row; node = n }) third

  -- where a walk has a row, it's met
  pub met_from_row : (r : ℕ) (peer : Option ℕ) (row : Row) → HasRow net old new p r peer row
      → (n : ℕ) × IsIn (all_mets g h pairs both) (record { place = record { router = r; peer = peer }; row = row; node = n })
  met_from_row r None row has =
      let some = some_of_row row has.3 in
      let found = router_pair r row has.0 (along_row (r ∷ has.0) row has.1 has.2) some in
      let node = node_of (r ∷ has.0) found.0 found.1 in (
        node.0,
        subst (λ (l : ℕ). IsIn (all_mets g h pairs both) (record { place = record { router = l; peer = None }; row = row; node = node.0 })) found.2
            (met_of_node node.0 found.0 row node.2 found.3 some),
      )
  met_from_row r (Some peer) row has =
      let some = some_of_row row has.3 in
      let found = session_pairs r peer row has.0 (along_row (peer ∷ r ∷ has.0) row has.1 has.2) some in
      let node = node_of (r ∷ has.0) found.0 found.2 in (
        node.0,
        subst (λ (l : ℕ). IsIn (all_mets g h pairs both) (record { place = record { router = l; peer = Some peer }; row = row; node = node.0 })) found.3
            (subst (λ (k : ℕ). IsIn (all_mets g h pairs both) (record { place = record { router = found.0.place; peer = Some k }; row = row; node = node.0 })) found.5
            (met_of_step node.0 found.0 found.1 row node.2 (ap (step_pair g h found.0) found.5 ∙ found.4) found.6 some)),
      )
