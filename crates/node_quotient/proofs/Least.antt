-- Nodes that are joined, and the least ones among them.
use Rattle.std.proofs.Common.{◌≡◌, ℕ, ◌<◌, ◌≤◌, true, List, [], ◌∷◌, ◌++◌, length, option_map, option_and_then, Option, Some, None, refl, sym, ap, ◌∙◌, arith}
use Rattle.std.proofs.lemmas.Bool.{eq-eqb, eqb-true}
use Rattle.std.proofs.lemmas.Option.{same_Some}
use Rattle.graph_base.specs.Refuting.{HasSingleSteps}
use Rattle.graph_base.specs.Graphs.{PlainGraph}
use Rattle.graph_base.specs.Runs.{place_of, rank_at, has_step, step_at}
use Rattle.node_quotient.specs.Quotient.{follow, end_of, AreJoined, AreLeast, is_least}
use Rattle.graph_base.proofs.StartsAndSteps.{step_at-is}
use Rattle.node_quotient.proofs.Steps.{step_at-alone}

module _ (g : PlainGraph) where
  pub joined_refl : (n : ℕ) → AreJoined g n n
  joined_refl n = record { place = refl; ends = λ path. refl }

  pub joined_sym : (m n : ℕ) → AreJoined g m n → AreJoined g n m
  joined_sym m n h = record { place = sym h.place; ends = λ path. sym (h.ends path) }

  pub joined_trans : (a b c : ℕ) → AreJoined g a b → AreJoined g b c → AreJoined g a c
  joined_trans a b c h k = record { place = h.place ∙ k.place; ends = λ path. h.ends path ∙ k.ends path }

  pub joined_rank : (m n : ℕ) → AreJoined g m n → rank_at g m ≡ rank_at g n
  joined_rank m n h = same_Some (rank_at g m) (rank_at g n) (h.ends [])

  -- what is followed from where a step leads is followed from before it
  pub follow_on : (n l b : ℕ) → step_at g n l ≡ Some b → (path : List ℕ) → follow g n (path ++ l ∷ []) ≡ follow g b path
  follow_on n l b h [] = h
  follow_on n l b h (k ∷ ks) = ap (option_and_then (λ m. step_at g m k)) (follow_on n l b h ks)

  ends_on : (m n l a b : ℕ) → AreJoined g m n → step_at g m l ≡ Some a → step_at g n l ≡ Some b → (path : List ℕ) → end_of g a path ≡ end_of g b path
  ends_on m n l a b h p q path =
      sym (ap (option_map (rank_at g)) (follow_on m l a p path)) ∙ h.ends (path ++ l ∷ []) ∙ ap (option_map (rank_at g)) (follow_on n l b q path)

  some_end : (o : Option ℕ) (i : Option ℕ) → option_map (rank_at g) o ≡ Some i → (a : ℕ) × (o ≡ Some a)
  some_end None i h = absurd (cc)
  some_end (Some a) i h = (a, refl)

  -- nodes that are joined step alike, to nodes that are joined
  pub joined_steps : HasSingleSteps g → (m n b : ℕ) → AreJoined g m n → has_step g n b ≡ true →
      (a : ℕ) × (has_step g m a ≡ true) × AreJoined g a b
  joined_steps formed m n b h st =
      let l = place_of g b in
      let there : step_at g n l ≡ Some b = step_at-alone g formed n b st in
      let end : end_of g m (l ∷ []) ≡ Some (rank_at g b) = h.ends (l ∷ []) ∙ ap (option_map (rank_at g)) there in
      let found = some_end (step_at g m l) (rank_at g b) end in
      let is = step_at-is g m l found.0 found.1 in
      (found.0, is.0, record { place = is.1; ends = ends_on m n l found.0 b h found.1 there })

  module _ (least : ℕ → ℕ) (are : AreLeast g least) where
    pub least_le : (n : ℕ) → n < length g.nodes → least n ≤ n
    least_le n lt = are.first n n lt lt (joined_refl n)

    pub least_same : (m n : ℕ) → m < length g.nodes → n < length g.nodes → AreJoined g m n → least m ≡ least n
    least_same m n lm ln h =
        let one = are.first (least n) m (are.within n ln) lm (joined_trans (least n) n m (are.joined n ln) (joined_sym m n h)) in
        let two = are.first (least m) n (are.within m lm) ln (joined_trans (least m) m n (are.joined m lm) h) in
        omega (arith, one, two)

    pub least_least : (n : ℕ) → n < length g.nodes → least (least n) ≡ least n
    least_least n lt = least_same (least n) n (are.within n lt) lt (are.joined n lt)

    pub least_kept : (n : ℕ) → n < length g.nodes → is_least least (least n) ≡ true
    least_kept n lt = eq-eqb (least (least n)) (least n) (least_least n lt)

    pub kept_least : (n : ℕ) → is_least least n ≡ true → least n ≡ n
    kept_least n h = eqb-true (least n) n h
