-- What the graph of pairs is, once all of them were asked.
use Rattle.std.proofs.Common.{◌≡◌, ℕ, ◌<◌, ◌≤◌, true, false, List, [], ◌∷◌, length, Option, Some, None, refl, sym, ap, ◌∙◌, arith, inl, inr}
use Rattle.std.specs.Prelude.{◌&&◌, ◌==◌, IsTrue, slice_get, unwrap_or}
use Rattle.std.specs.Option.{option_and_then, option_map}
use Rattle.std.proofs.lemmas.Bool.{and_from, both_ways, cases_Bool, cases_lt, eq-eqb}
use Rattle.std.proofs.lemmas.List.{length-map}
use Rattle.std.proofs.lemmas.Option.{slice_get-map, slice_get_within}
use Rattle.list_law.specs.Members.{IsIn}
use Rattle.list_law.proofs.Items.{slice_get_inside}
use Rattle.list_law.proofs.Members.{AllByRecursion-from_IsIn, list_any-from_IsIn}
use Rattle.list_law.proofs.Options.{cases_Option, none_from}
use Rattle.list_law.proofs.Tests.{find_from}
use Rattle.net_base.proofs.NumbersBelow.{In-numbers_below, below_from_In}
use Rattle.graph_base.specs.declared.graph.Node.{Node}
use Rattle.graph_base.specs.Graphs.{PlainGraph, IsGraph}
use Rattle.graph_base.specs.Runs.{has_step, is_start, place_of, run, start_at, step_at}
use Rattle.graph_base.specs.Walks.{IsEnteredFromBefore, IsFirstBefore, IsShownWalk}
use Rattle.graph_base.proofs.RunSteps.{run_inside}
use Rattle.graph_base.proofs.StartsAndSteps.{in_start, start_at-is, start_in, step_at-is, step_in}
use Rattle.pair_graph.specs.declared.pair.NodePair.{NodePair}
use Rattle.pair_graph.specs.Growth.{AreWalks, IsGrown, Walks, finder}
use Rattle.pair_graph.specs.Made.{AreFinders, AreShown, IsPairGraph, StandsForBoth, graph_over, pair_node}
use Rattle.pair_graph.specs.Order.{IsInOrder}
use Rattle.pair_graph.specs.Pairs.{run_pair, walks_of}
use Rattle.pair_graph.proofs.WalkPairs.{run_pair_next}

module _ (w : Walks) (starts : ℕ) (pairs : List NodePair) (before : List ℕ) (steps : List (ℕ × ℕ)) (k : ℕ) (walks : AreWalks w) (all : length pairs ≤ k)
    (is : IsGrown w starts pairs before steps k 0) where
  abbrev pub made : PlainGraph
  made = graph_over pairs starts steps

  pub size_made : length made.nodes ≡ length pairs
  size_made = length-map pairs pair_node

  pub place_made : (n : ℕ) (x : NodePair) → slice_get pairs n ≡ Some x → place_of made n ≡ x.place
  place_made n x at = ap (λ o. unwrap_or (option_map (λ (node : Node). node.loc) o) 0) (slice_get-map pair_node pairs n ∙ ap (option_map pair_node) at)

  pub start_below : (n : ℕ) → is_start made n ≡ true → n < starts
  start_below n h = below_from_In n starts (start_in made n h)

  pub below_start : (n : ℕ) → n < starts → is_start made n ≡ true
  below_start n lt = in_start made n (In-numbers_below n starts lt)

  not_start : (n : ℕ) → is_start made n ≡ false → starts ≤ n
  not_start n h = elim (cases_lt n starts) [
    | inl lt ↦ absurd (both_ways _ h (below_start n lt))
    | inr ge ↦ ge
  ]

  pub is_graph : IsGraph made
  is_graph = record {
    count = omega (arith, size_made, is.few);
    starts = AllByRecursion-from_IsIn (λ n. n < length made.nodes) made.starts (λ n at. omega (arith, size_made, below_from_In n starts at, is.begun));
    steps = AllByRecursion-from_IsIn (λ (s : ℕ × ℕ). (s.0 < length made.nodes) × (s.1 < length made.nodes)) made.steps (λ s at. step_within s.0 s.1 at);
  }
    where
      step_within : (m n : ℕ) → IsIn steps (m, n) → (m < length made.nodes) × (n < length made.nodes)
      step_within m n at =
          let link = is.link m n (list_any-from_IsIn (λ (s : ℕ × ℕ). s.0 == m && s.1 == n) steps (m, n) at (and_from _ _ (eq-eqb m m refl) (eq-eqb n n refl))) in
          (omega (arith, size_made, slice_get_within pairs m link.from link.at_from), omega (arith, size_made, slice_get_within pairs n link.to link.at_to))

  -- ---- starts and steps

  start_pairs : (l : ℕ) → option_and_then (slice_get pairs) (start_at made l) ≡ w.start l
  start_pairs l = elim (cases_Option (start_at made l)) [
    | inl none ↦ ap (option_and_then (slice_get pairs)) none ∙ sym (none_from (w.start l) (λ x goes. gone x goes none))
    | inr some ↦ (
        let h = start_at-is made l some.0 some.1 in
        let low = start_below some.0 h.0 in
        let item = slice_get_inside pairs some.0 (omega (arith, low, is.begun)) in
        let here : item.0.place ≡ l = sym (place_made some.0 item.0 item.1) ∙ h.1 in
        ap (option_and_then (slice_get pairs)) some.1 ∙ item.1 ∙ sym (is.start some.0 item.0 low item.1) ∙ ap w.start here)
  ]
    where
      gone : (x : NodePair) → w.start l ≡ Some x → start_at made l ≡ None → ⊥
      gone x goes none =
          let known = is.all_starts l x goes in
          let here : place_of made known.0 ≡ l = place_made known.0 x known.2 ∙ walks.starts l x goes in
          let at = start_in made known.0 (below_start known.0 known.1) in
          let found = find_from (λ n. place_of made n == l) made.starts at.0 known.0 at.1 (eq-eqb (place_of made known.0) l here) in
          let some = found.1 in
          cc

  step_pairs : (m l : ℕ) (x : NodePair) → slice_get pairs m ≡ Some x → option_and_then (slice_get pairs) (step_at made m l) ≡ w.next x l
  step_pairs m l x at = elim (cases_Option (step_at made m l)) [
    | inl none ↦ ap (option_and_then (slice_get pairs)) none ∙ sym (none_from (w.next x l) (λ y goes. gone y goes none))
    | inr some ↦ (
        let n = some.0 in
        let h = step_at-is made m l n some.1 in
        let link = is.link m n h.0 in
        let both : Some link.from ≡ Some x = sym link.at_from ∙ at in
        let from : link.from ≡ x = cc in
        let here : link.to.place ≡ l = sym (place_made n link.to link.at_to) ∙ h.1 in
        ap (option_and_then (slice_get pairs)) some.1 ∙ link.at_to ∙ sym link.goes ∙ ap (λ z. w.next z link.to.place) from ∙ ap (w.next x) here)
  ]
    where
      gone : (y : NodePair) → w.next x l ≡ Some y → step_at made m l ≡ None → ⊥
      gone y goes none =
          let known = is.all_links m l x y at (inl (omega (arith, slice_get_within pairs m x at, all))) goes in
          let n = known.0 in
          let here : place_of made n ≡ l = place_made n y known.2 ∙ walks.steps x l y goes in
          let there = step_in made m n known.1 in
          let found = find_from (λ (s : ℕ × ℕ). s.0 == m && place_of made s.1 == l) made.steps there.0 (m, n) there.1 (and_from _ _ (eq-eqb m m refl) (eq-eqb (place_of made n) l here)) in
          let some : step_at made m l ≡ Some found.0.1 = ap (option_map (λ (s : ℕ × ℕ). s.1)) found.1 in
          cc

  pub step_goes : (m n : ℕ) (x y : NodePair) → IsTrue (has_step made m n) → slice_get pairs m ≡ Some x → slice_get pairs n ≡ Some y → w.next x y.place ≡ Some y
  step_goes m n x y has at_m at_n =
      let link = is.link m n has in
      let one : Some link.from ≡ Some x = sym link.at_from ∙ at_m in
      let other : Some link.to ≡ Some y = sym link.at_to ∙ at_n in
      let from : link.from ≡ x = cc in
      let to : link.to ≡ y = cc in
      ap (λ z. w.next z y.place) (sym from) ∙ ap (λ (z : NodePair). w.next link.from z.place) (sym to) ∙ link.goes ∙ ap Some to

  pub step_there : (m l : ℕ) (x y : NodePair) → slice_get pairs m ≡ Some x → w.next x l ≡ Some y → (n : ℕ) × IsTrue (has_step made m n) × (slice_get pairs n ≡ Some y)
  step_there m l x y at goes = is.all_links m l x y at (inl (omega (arith, slice_get_within pairs m x at, all))) goes

  -- ---- the first node before each

  pub finders : AreFinders made before
  finders n lt h =
      let item = slice_get_inside pairs n (omega (arith, lt, size_made)) in
      let found = is.found n item.0 (not_start n h) item.1 in
      ((found.step, found.least), found.less)

  pub entered : IsEnteredFromBefore made
  entered n lt = elim (cases_Bool (is_start made n)) [
    | inl begins ↦ inl begins
    | inr no_start ↦ (let found = finders n lt no_start in inr (finder before n, found.1, found.0.0))
  ]

  -- the first node before a node is the one from which it was found
  first_is : (n j : ℕ) (y : NodePair) → starts ≤ n → slice_get pairs n ≡ Some y → IsFirstBefore made j n → j ≡ finder before n
  first_is n j y ge at first =
      let found = is.found n y ge at in
      let one = first.1 (finder before n) found.step in
      let other = found.least j first.0 in
      omega (arith, one, other)

  pub in_order : IsInOrder made
  in_order = record {
    starts = λ m n hm hn lt. (
        let low = start_below n hn in
        let x = slice_get_inside pairs m (omega (arith, start_below m hm, is.begun)) in
        let y = slice_get_inside pairs n (omega (arith, low, is.begun)) in
        let places = is.start_order m n x.0 y.0 lt low x.1 y.1 in
        omega (arith, places, place_made m x.0 x.1, place_made n y.0 y.1));
    first = λ m n j hm hn first. omega (arith, start_below m hm, not_start n hn);
    steps = λ m n i j hm hn first_m first_n lt. (
        let at_m = is.link i m first_m.0 in
        let at_n = is.link j n first_n.0 in
        let ge_m = not_start m hm in
        let ge_n = not_start n hn in
        let one = first_is m i at_m.to ge_m at_m.at_to first_m in
        let other = first_is n j at_n.to ge_n at_n.at_to first_n in
        elim (is.order m n at_m.to at_n.to ge_m lt at_m.at_to at_n.at_to) [
          | inl less ↦ inl (omega (arith, less, one, other))
          | inr same ↦ inr (omega (arith, same.0, one, other), omega (arith, same.1, place_made m at_m.to at_m.at_to, place_made n at_n.to at_n.at_to))
        ]);
  }

  -- ---- paths

  pub runs_from : (path : List ℕ) (l : ℕ) (ends : ℕ → List ℕ → Option NodePair) → ((i : ℕ) → ends i [] ≡ w.start i)
      → ((i j : ℕ) (ls : List ℕ) → ends i (j ∷ ls) ≡ option_and_then (λ x. w.next x i) (ends j ls)) → option_and_then (slice_get pairs) (run made (l ∷ path)) ≡ ends l path
  runs_from [] l ends begin more = start_pairs l ∙ sym (begin l)
  runs_from (j ∷ ls) l ends begin more = elim (cases_Option (run made (j ∷ ls))) [
    | inl none ↦
        let rest : None ≡ ends j ls = sym (ap (option_and_then (slice_get pairs)) none) ∙ runs_from ls j ends begin more in
        ap (λ o. option_and_then (slice_get pairs) (option_and_then (λ n. step_at made n l) o)) none ∙ ap (option_and_then (λ x. w.next x l)) rest ∙ sym (more l j ls)
    | inr some ↦
        let inside = run_inside made is_graph (j ∷ ls) some.0 some.1 in
        let item = slice_get_inside pairs some.0 (omega (arith, inside, size_made)) in
        let rest : Some item.0 ≡ ends j ls = sym item.1 ∙ sym (ap (option_and_then (slice_get pairs)) some.1) ∙ runs_from ls j ends begin more in
        ap (λ o. option_and_then (slice_get pairs) (option_and_then (λ n. step_at made n l) o)) some.1
        ∙ step_pairs some.0 l item.0 item.1 ∙ ap (option_and_then (λ x. w.next x l)) rest ∙ sym (more l j ls)
  ]

  -- the walk by which a node is shown leads to its pair
  pub shown_from : (path : List ℕ) (l n : ℕ) (x : NodePair) (ends : ℕ → List ℕ → Option NodePair) → ((i : ℕ) → ends i [] ≡ w.start i)
      → ((i j : ℕ) (ls : List ℕ) → ends i (j ∷ ls) ≡ option_and_then (λ x. w.next x i) (ends j ls)) → slice_get pairs n ≡ Some x → IsShownWalk made n (l ∷ path) → ends l path ≡ Some x
  shown_from [] l n x ends begin more at shown =
      let here : l ≡ x.place = shown.1 ∙ place_made n x at in
      begin l ∙ ap w.start here ∙ is.start n x (start_below n shown.0) at
  shown_from (j ∷ ls) l n x ends begin more at shown =
      let m = shown.2.0 in
      let link = is.link m n shown.2.1.0 in
      let both : Some link.to ≡ Some x = sym link.at_to ∙ at in
      let to : link.to ≡ x = cc in
      let here : l ≡ link.to.place = shown.1 ∙ place_made n link.to link.at_to in
      more l j ls ∙ ap (option_and_then (λ y. w.next y l)) (shown_from ls j m link.from ends begin more link.at_from shown.2.2) ∙ ap (w.next link.from) here ∙ link.goes ∙ ap Some to

pub stands_for_both : (g h : PlainGraph) (starts : ℕ) (pairs : List NodePair) (before : List ℕ) (steps : List (ℕ × ℕ)) (k : ℕ) → AreWalks (walks_of g h)
    → length pairs ≤ k → IsGrown (walks_of g h) starts pairs before steps k 0 → StandsForBoth g h pairs (graph_over pairs starts steps)
stands_for_both g h starts pairs before steps k walks all is [] = refl
stands_for_both g h starts pairs before steps k walks all is (l ∷ ls) =
    runs_from (walks_of g h) starts pairs before steps k walks all is ls l (λ i path. run_pair g h (i ∷ path)) (λ i. refl) (λ i j path. run_pair_next g h i j path)

pub are_shown : (g h : PlainGraph) (starts : ℕ) (pairs : List NodePair) (before : List ℕ) (steps : List (ℕ × ℕ)) (k : ℕ) → AreWalks (walks_of g h)
    → length pairs ≤ k → IsGrown (walks_of g h) starts pairs before steps k 0 → AreShown g h pairs (graph_over pairs starts steps)
are_shown g h starts pairs before steps k walks all is n x [] at shown = absurd shown
are_shown g h starts pairs before steps k walks all is n x (l ∷ ls) at shown =
    shown_from (walks_of g h) starts pairs before steps k walks all is ls l n x (λ i path. run_pair g h (i ∷ path)) (λ i. refl) (λ i j path. run_pair_next g h i j path) at shown

pub is_pair_graph : (g h : PlainGraph) (starts : ℕ) (pairs : List NodePair) (before : List ℕ) (steps : List (ℕ × ℕ)) (k : ℕ) → AreWalks (walks_of g h)
    → length pairs ≤ k → IsGrown (walks_of g h) starts pairs before steps k 0 → IsPairGraph g h pairs (graph_over pairs starts steps)
is_pair_graph g h starts pairs before steps k walks all is = record {
  runs = stands_for_both g h starts pairs before steps k walks all is;
  shown = are_shown g h starts pairs before steps k walks all is;
  steps = record {
    goes = step_goes (walks_of g h) starts pairs before steps k walks all is;
    all = step_there (walks_of g h) starts pairs before steps k walks all is;
  };
  size = sym (size_made (walks_of g h) starts pairs before steps k walks all is);
  places = place_made (walks_of g h) starts pairs before steps k walks all is;
  entered = entered (walks_of g h) starts pairs before steps k walks all is;
  order = in_order (walks_of g h) starts pairs before steps k walks all is;
}
