-- The steps of the graph of pairs are counted by the two graphs alone.
use Rattle.std.proofs.Common.{◌≡◌, ◌⊎◌, ℕ, ◌<◌, ◌≤◌, List, length, Some, sym, ap, ◌∙◌, subst, arith, inl, inr}
use Rattle.std.specs.Prelude.{slice_get}
use Rattle.std.proofs.lemmas.Bool.{cases_lt}
use Rattle.std.proofs.lemmas.List.{length-map}
use Rattle.std.proofs.lemmas.Option.{slice_get_within}
use Rattle.indexmap.proofs.IndexTableLemmas.Probe.{pigeonhole}
use Rattle.list_law.specs.Members.{IsIn}
use Rattle.list_law.proofs.Items.{slice_get_inside}
use Rattle.list_law.proofs.Options.{is_some_parts, option_and_then_parts}
use Rattle.graph_base.specs.Graphs.{PlainGraph}
use Rattle.graph_base.specs.Runs.{run}
use Rattle.pair_graph.specs.declared.pair.NodePair.{NodePair}
use Rattle.pair_graph.specs.Growth.{AreWalks, IsGrown}
use Rattle.pair_graph.specs.Pairs.{step_pair, walks_of}
use Rattle.pair_graph.specs.Room.{GoesOn, HasPairSteps, PassesRoom}
use Rattle.pair_graph.specs.Made.{graph_over}
use Rattle.pair_graph.proofs.Made.{stands_for_both, step_there}
use Rattle.pair_graph.proofs.Rooms.{step_among, steps_are_ways, way_of, ways_of_steps}

-- ---- a list that has each item once is no longer than one that has all of its items

module _ {A : Type 0} (xs ys : List A) (apart : (i j : ℕ) (x : A) → slice_get xs i ≡ Some x → slice_get xs j ≡ Some x → i ≡ j)
    (within : (i : ℕ) (x : A) → slice_get xs i ≡ Some x → IsIn ys x) where
  -- where the item stands in the other list
  abbrev spot : (i : ℕ) → (i < length xs) ⊎ (length xs ≤ i) → ℕ
  spot i (inl lt) = let item = slice_get_inside xs i lt in (within i item.0 item.1).0
  spot i (inr ge) = 0

  spot_has : (i : ℕ) (where_is : (i < length xs) ⊎ (length xs ≤ i)) → i < length xs → (x : A) × (slice_get xs i ≡ Some x) × (slice_get ys (spot i where_is) ≡ Some x)
  spot_has i (inl lt) less = let item = slice_get_inside xs i lt in (item.0, item.1, (within i item.0 item.1).1)
  spot_has i (inr ge) less = absurd (omega (arith, ge, less))

  abbrev spot_at : ℕ → ℕ
  spot_at i = spot i (cases_lt i (length xs))

  one_spot : (i j : ℕ) → i < length xs → j < length xs → spot_at i ≡ spot_at j → i ≡ j
  one_spot i j low_i low_j same =
      let a = spot_has i (cases_lt i (length xs)) low_i in
      let b = spot_has j (cases_lt j (length xs)) low_j in
      let both : Some a.0 ≡ Some b.0 = sym a.2 ∙ ap (slice_get ys) same ∙ b.2 in
      apart i j b.0 (a.1 ∙ both) b.1

  pub no_longer : length xs ≤ length ys
  no_longer =
      pigeonhole (length xs) (length ys) spot_at
      (λ i lt. let a = spot_has i (cases_lt i (length xs)) lt in slice_get_within ys (spot_at i) a.0 a.2) one_spot

-- ---- counts

module _ (g h : PlainGraph) where
  -- where the steps are so many, there is no room for fewer
  pub room_is_passed : (count room : ℕ) → HasPairSteps g h count → PassesRoom g h room → room < count
  room_is_passed count room has passes =
      let fewer = no_longer passes.ways has.ways passes.are.apart (λ i way at. has.all way.0 way.1 (passes.are.taken i way at)) in
      omega (arith, fewer, passes.more, has.steps)

  no_more_steps : (m n : ℕ) → HasPairSteps g h m → HasPairSteps g h n → m ≤ n
  no_more_steps m n one other =
      let fewer = no_longer one.ways other.ways one.are.apart (λ i way at. other.all way.0 way.1 (one.are.taken i way at)) in
      omega (arith, fewer, one.steps, other.steps)

  pub one_count : (m n : ℕ) → HasPairSteps g h m → HasPairSteps g h n → m ≡ n
  one_count m n one other = omega (arith, no_more_steps m n one other, no_more_steps n m other one)

-- ---- once all pairs were asked, the steps are all ways

module _ (g h : PlainGraph) (starts : ℕ) (pairs : List NodePair) (before : List ℕ) (steps : List (ℕ × ℕ)) (k : ℕ) (walks : AreWalks (walks_of g h))
    (all_asked : length pairs ≤ k) (is : IsGrown (walks_of g h) starts pairs before steps k 0) where
  every_way : (x : NodePair) (l : ℕ) → GoesOn g h x l → IsIn (ways_of_steps g h starts pairs before steps k 0 walks is) (x, l)
  every_way x l way =
      let led = option_and_then_parts (slice_get pairs) (run (graph_over pairs starts steps) way.path) x
      (stands_for_both g h starts pairs before steps k walks all_asked is way.path ∙ way.leads) in
      let next = is_some_parts (step_pair g h x l) way.on in
      let known = step_there (walks_of g h) starts pairs before steps k walks all_asked is led.0 l x next.0 led.2 next.1 in
      subst (λ i. IsIn (ways_of_steps g h starts pairs before steps k 0 walks is) (x, i)) (walks.steps x l next.0 next.1)
      (step_among g h starts pairs before steps k 0 walks is led.0 known.0 x next.0 known.1 led.2 known.2)

  pub has_all_steps : HasPairSteps g h (length steps)
  has_all_steps = record {
    ways = ways_of_steps g h starts pairs before steps k 0 walks is;
    are = steps_are_ways g h starts pairs before steps k 0 walks is;
    all = every_way;
    steps = sym (length-map steps (way_of g h starts pairs before steps k 0 walks is));
  }
