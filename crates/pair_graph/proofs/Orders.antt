-- In a graph in order a node is shown by the first of the shortest walks to it.
use Rattle.std.proofs.Common.{◌≡◌, ◌⊎◌, ℕ, ◌<◌, ◌≤◌, List, [], ◌∷◌, length, Some, refl, sym, ap, ◌∙◌, subst, arith, inl, inr}
use Rattle.std.proofs.lemmas.Bool.{both_ways, cases_lt}
use Rattle.graph_base.specs.Graphs.{PlainGraph, IsGraph}
use Rattle.graph_base.specs.Runs.{run}
use Rattle.graph_base.specs.Walks.{IsEnteredFromBefore, IsShownWalk, shown_walk}
use Rattle.graph_base.proofs.RunSteps.{last_step, run_inside}
use Rattle.graph_base.proofs.ShownWalks.{shown_walk_is, shown_walk_same}
use Rattle.graph_base.proofs.StartsAndSteps.{start_at-is}
use Rattle.pair_graph.specs.Order.{ComesBefore, IsInOrder, IsLesser}

-- ---- walks one before another

lesser_length : (v w : List ℕ) → IsLesser v w → length v ≡ length w
lesser_length [] w h = absurd h
lesser_length (l ∷ v) [] h = absurd h
lesser_length (l ∷ v) (k ∷ w) (inl h) = let rest = lesser_length v w h in omega (arith, rest)
lesser_length (l ∷ v) (k ∷ w) (inr e) = let rest : length v ≡ length w = ap length e.0 in omega (arith, rest)

lesser_trans : (u v w : List ℕ) → IsLesser u v → IsLesser v w → IsLesser u w
lesser_trans [] v w a b = absurd a
lesser_trans (i ∷ u) [] w a b = absurd a
lesser_trans (i ∷ u) (l ∷ v) [] a b = absurd b
lesser_trans (i ∷ u) (l ∷ v) (k ∷ w) (inl a) (inl b) = inl (lesser_trans u v w a b)
lesser_trans (i ∷ u) (l ∷ v) (k ∷ w) (inl a) (inr b) = inl (subst (IsLesser u) b.0 a)
lesser_trans (i ∷ u) (l ∷ v) (k ∷ w) (inr a) (inl b) = inl (subst (λ x. IsLesser x w) (sym a.0) b)
lesser_trans (i ∷ u) (l ∷ v) (k ∷ w) (inr a) (inr b) = inr (a.0 ∙ b.0, omega (arith, a.1, b.1))

before_trans : (u v w : List ℕ) → ComesBefore u v → ComesBefore v w → ComesBefore u w
before_trans u v w (inl a) (inl b) = inl (omega (arith, a, b))
before_trans u v w (inl a) (inr b) = let same = lesser_length v w b in inl (omega (arith, a, same))
before_trans u v w (inr a) (inl b) = let same = lesser_length u v a in inl (omega (arith, same, b))
before_trans u v w (inr a) (inr b) = inr (lesser_trans u v w a b)

before_longer : (l k : ℕ) (v w : List ℕ) → ComesBefore v w → ComesBefore (l ∷ v) (k ∷ w)
before_longer l k v w (inl h) = inl (omega (arith, h))
before_longer l k v w (inr h) = inr (inl h)

-- ---- in a graph

module _ (g : PlainGraph) (order : IsInOrder g) where
  -- nodes are shown by walks in the order of their numbers
  pub shown_in_order : (m n : ℕ) (v w : List ℕ) → m < n → IsShownWalk g m v → IsShownWalk g n w → ComesBefore v w
  shown_in_order m n [] w lt at_m at_n = absurd at_m
  shown_in_order m n (l ∷ v) [] lt at_m at_n = absurd at_n
  shown_in_order m n (l ∷ []) (k ∷ []) lt at_m at_n = (
      let places = order.starts m n at_m.0 at_n.0 lt in
      inr (inr (refl, omega (arith, places, at_m.1, at_n.1))))
  shown_in_order m n (l ∷ []) (k ∷ j ∷ w) lt at_m at_n = inl (omega arith)
  shown_in_order m n (l ∷ i ∷ v) (k ∷ []) lt at_m at_n = (
      let later = order.first n m at_m.2.0 at_n.0 at_m.0 at_m.2.1 in
      absurd (omega (arith, lt, later)))
  shown_in_order m n (l ∷ i ∷ v) (k ∷ j ∷ w) lt at_m at_n = elim (order.steps m n at_m.2.0 at_n.2.0 at_m.0 at_n.0 at_m.2.1 at_n.2.1 lt) [
    | inl less ↦ before_longer l k (i ∷ v) (j ∷ w) (shown_in_order at_m.2.0 at_n.2.0 (i ∷ v) (j ∷ w) less at_m.2.2 at_n.2.2)
    | inr same ↦
        let one : i ∷ v ≡ j ∷ w = shown_walk_same g at_m.2.0 (i ∷ v) (j ∷ w) at_m.2.2 (subst (λ x. IsShownWalk g x (j ∷ w)) (sym same.0) at_n.2.2) in
        inr (inr (one, omega (arith, same.1, at_m.1, at_n.1)))
  ]

  -- no other walk to a node comes before the one by which it is shown
  pub shown_is_first : IsGraph g → IsEnteredFromBefore g → (n : ℕ) (w v : List ℕ) → IsShownWalk g n w → run g v ≡ Some n → (w ≡ v) ⊎ ComesBefore w v
  shown_is_first rules entered n [] v shown ran = absurd shown
  shown_is_first rules entered n (k ∷ w) [] shown ran = absurd cc
  shown_is_first rules entered n (k ∷ []) (l ∷ []) shown ran =
      let is = start_at-is g l n ran in
      let here : k ≡ l = shown.1 ∙ is.1 in
      inl (ap (λ x. x ∷ []) here)
  shown_is_first rules entered n (k ∷ []) (l ∷ i ∷ v) shown ran = inr (inl (omega arith))
  shown_is_first rules entered n (k ∷ j ∷ w) (l ∷ []) shown ran = absurd (both_ways _ shown.0 (start_at-is g l n ran).0)
  shown_is_first rules entered n (k ∷ j ∷ w) (l ∷ i ∷ v) shown ran =
      let last = last_step g l i n v ran in
      let m = last.0 in
      let first = shown.2.0 in
      let least : first ≤ m = shown.2.1.1 m last.2 in
      let here : k ≡ l = shown.1 ∙ last.3 in
      elim (cases_lt first m) [
        | inl less ↦
            let inside = run_inside g rules (i ∷ v) m last.1 in
            let other = shown_walk_is g entered m inside in
            let before = shown_in_order first m (j ∷ w) (shown_walk g m) less shown.2.2 other in
            elim (shown_is_first rules entered m (shown_walk g m) (i ∷ v) other last.1) [
              | inl same ↦ inr (before_longer k l (j ∷ w) (i ∷ v) (subst (ComesBefore (j ∷ w)) same before))
              | inr later ↦ inr (before_longer k l (j ∷ w) (i ∷ v) (before_trans (j ∷ w) (shown_walk g m) (i ∷ v) before later))
            ]
        | inr ge ↦
            let one : first ≡ m = omega (arith, least, ge) in
            elim (shown_is_first rules entered m (j ∷ w) (i ∷ v) (subst (λ x. IsShownWalk g x (j ∷ w)) one shown.2.2) last.1) [
              | inl same ↦ inl (λ t. here t ∷ same t)
              | inr before ↦ inr (before_longer k l (j ∷ w) (i ∷ v) before)
            ]
      ]

  -- the first of the nodes that pass a test is shown by the first of the walks that lead to such nodes
  pub first_of_all : IsGraph g → IsEnteredFromBefore g → (n m : ℕ) (w v : List ℕ) → n ≤ m → IsShownWalk g n w → run g v ≡ Some m → (w ≡ v) ⊎ ComesBefore w v
  first_of_all rules entered n m w v le shown ran = elim (cases_lt n m) [
    | inl less ↦
        let other = shown_walk_is g entered m (run_inside g rules v m ran) in
        let before = shown_in_order n m w (shown_walk g m) less shown other in
        elim (shown_is_first rules entered m (shown_walk g m) v other ran) [
          | inl same ↦ inr (subst (ComesBefore w) same before)
          | inr later ↦ inr (before_trans w (shown_walk g m) v before later)
        ]
    | inr ge ↦
        let one : n ≡ m = omega (arith, le, ge) in
        shown_is_first rules entered n w v shown (ran ∙ ap Some (sym one))
  ]
