-- Each round keeps what is joined together, and where one changes nothing, the classes are those of joined nodes.
use Rattle.std.proofs.Common.{◌≡◌, ◌⊎◌, ℕ, ◌<◌, List, [], ◌∷◌, length, option_map, option_and_then, Option, Some, None, refl, sym, ap, ◌∙◌, subst, arith, inl, inr}
use Rattle.graph_base.specs.Refuting.{HasSingleSteps}
use Rattle.graph_base.specs.Graphs.{PlainGraph, IsGraph}
use Rattle.graph_base.specs.Runs.{place_of, rank_at, step_at}
use Rattle.node_quotient.specs.Quotient.{follow, AreJoined, AreLeast}
use Rattle.node_quotient.specs.Rounds.{AreLike, AreClasses, IsNextRound}
use Rattle.graph_base.proofs.StartsAndSteps.{step_at-is, step_nodes}
use Rattle.node_quotient.proofs.Steps.{step_at-alone}
use Rattle.node_quotient.proofs.Least.{joined_sym, joined_steps}

module _ (g : PlainGraph) (ok : IsGraph g) (single : HasSingleSteps g) where
  like_trans : (least : ℕ → ℕ) (a b c : ℕ) → AreLike g least a b → AreLike g least b c → AreLike g least a c
  like_trans least a b c h k = record {
    class = h.class ∙ k.class;
    forth = λ x st. let f = h.forth x st in let e = k.forth f.0 f.1 in (e.0, e.1, f.2 ∙ e.2);
    back = λ x st. let f = k.back x st in let e = h.back f.0 f.1 in (e.0, e.1, e.2 ∙ f.2);
  }

  like_sym : (least : ℕ → ℕ) (a b : ℕ) → AreLike g least a b → AreLike g least b a
  like_sym least a b h = record {
    class = sym h.class;
    forth = λ x st. let f = h.back x st in (f.0, f.1, sym f.2);
    back = λ x st. let f = h.forth x st in (f.0, f.1, sym f.2);
  }

  like_refl : (least : ℕ → ℕ) (a : ℕ) → AreLike g least a a
  like_refl least a = record { class = refl; forth = λ x st. (x, st, refl); back = λ x st. (x, st, refl) }

  -- joined nodes are like one another in each round
  joined_like : (least : ℕ → ℕ) → AreClasses g least → (m n : ℕ) → m < length g.nodes → n < length g.nodes → AreJoined g m n → AreLike g least m n
  joined_like least are m n lm ln h = record {
    class = are.coarse m n lm ln h;
    forth = λ a st.
        let f = joined_steps g single n m a (joined_sym g m n h) st in
        (f.0, f.1, are.coarse a f.0 ((step_nodes g m a ok st).1) ((step_nodes g n f.0 ok f.1).1) (joined_sym g f.0 a f.2));
    back = λ b st.
        let f = joined_steps g single m n b h st in
        (f.0, f.1, are.coarse f.0 b ((step_nodes g m f.0 ok f.1).1) ((step_nodes g n b ok st).1) f.2);
  }

  module _ (least next : ℕ → ℕ) (are : AreClasses g least) (round : IsNextRound g least next) where
    one_place : (m n : ℕ) → m < length g.nodes → n < length g.nodes → least m ≡ least n → place_of g m ≡ place_of g n
    one_place m n lm ln e = sym (are.place m lm) ∙ ap (place_of g) e ∙ are.place n ln

    one_rank : (m n : ℕ) → m < length g.nodes → n < length g.nodes → least m ≡ least n → rank_at g m ≡ rank_at g n
    one_rank m n lm ln e = sym (are.rank m lm) ∙ ap (rank_at g) e ∙ are.rank n ln

    next_same : (m n : ℕ) → m < length g.nodes → n < length g.nodes → AreLike g least m n → next m ≡ next n
    next_same m n lm ln h =
        let one = round.first (next n) m (round.within n ln) lm (like_trans least (next n) n m (round.like n ln) (like_sym least m n h)) in
        let two = round.first (next m) n (round.within m lm) ln (like_trans least (next m) m n (round.like m lm) h) in
        omega (arith, one, two)

    pub next_classes : AreClasses g next
    next_classes = record {
      le = λ n lt. round.first n n lt lt (like_refl least n);
      idle = λ n lt. next_same (next n) n (round.within n lt) lt (round.like n lt);
      place = λ n lt. one_place (next n) n (round.within n lt) lt (round.like n lt).class;
      rank = λ n lt. one_rank (next n) n (round.within n lt) lt (round.like n lt).class;
      coarse = λ m n lm ln h. next_same m n lm ln (joined_like least are m n lm ln h);
    }

    -- two nodes, or none, of one class
    abbrev Both : Option ℕ → Option ℕ → Type 0
    Both o p = ((o ≡ None) × (p ≡ None)) ⊎ ((a b : ℕ) × (o ≡ Some a) × (p ≡ Some b) × (a < length g.nodes) × (b < length g.nodes) × (least a ≡ least b))

    module _ (settled : (n : ℕ) → n < length g.nodes → next n ≡ least n) where
      like_there : (m n : ℕ) → m < length g.nodes → n < length g.nodes → least m ≡ least n → AreLike g least m n
      like_there m n lm ln e =
          let at : next m ≡ next n = settled m lm ∙ e ∙ sym (settled n ln) in
          like_trans least m (next n) n (subst (AreLike g least m) at (like_sym least (next m) m (round.like m lm))) (round.like n ln)

      steps_both : (m n l : ℕ) → m < length g.nodes → n < length g.nodes → least m ≡ least n → Both (step_at g m l) (step_at g n l)
      steps_both m n l lm ln e = by (step_at g m l) refl (step_at g n l) refl
        where
          like : AreLike g least m n
          like = like_there m n lm ln e

          by : (o : Option ℕ) → step_at g m l ≡ o → (p : Option ℕ) → step_at g n l ≡ p → Both (step_at g m l) (step_at g n l)
          by None h None k = inl (h, k)
          by (Some a) h p k =
              let s = step_at-is g m l a h in
              let f = like.forth a s.0 in
              let la = (step_nodes g m a ok s.0).1 in
              let lb = (step_nodes g n f.0 ok f.1).1 in
              let place : place_of g f.0 ≡ l = sym (one_place a f.0 la lb f.2) ∙ s.1 in
              inr (a, f.0, h, subst (λ x. step_at g n x ≡ Some f.0) place (step_at-alone g single n f.0 f.1), la, lb, f.2)
          by None h (Some b) k =
              let s = step_at-is g n l b k in
              let f = like.back b s.0 in
              let la = (step_nodes g m f.0 ok f.1).1 in
              let lb = (step_nodes g n b ok s.0).1 in
              let place : place_of g f.0 ≡ l = one_place f.0 b la lb f.2 ∙ s.1 in
              inr (f.0, b, subst (λ x. step_at g m x ≡ Some f.0) place (step_at-alone g single m f.0 f.1), k, la, lb, f.2)

      follow_both : (m n : ℕ) → m < length g.nodes → n < length g.nodes → least m ≡ least n → (path : List ℕ) → Both (follow g m path) (follow g n path)
      follow_both m n lm ln e [] = inr (m, n, refl, refl, lm, ln, e)
      follow_both m n lm ln e (l ∷ ls) = elim (follow_both m n lm ln e ls) [
        | inl none ↦ inl (ap (option_and_then (λ x. step_at g x l)) none.0, ap (option_and_then (λ x. step_at g x l)) none.1)
        | inr b ↦
            let one = ap (option_and_then (λ x. step_at g x l)) b.2 in
            let two = ap (option_and_then (λ x. step_at g x l)) b.3 in
            elim (steps_both b.0 b.1 l b.4 b.5 b.6) [
              | inl none ↦ inl (one ∙ none.0, two ∙ none.1)
              | inr c ↦ inr (c.0, c.1, one ∙ c.2, two ∙ c.3, c.4, c.5, c.6)
            ]
      ]

      class_joined : (m n : ℕ) → m < length g.nodes → n < length g.nodes → least m ≡ least n → AreJoined g m n
      class_joined m n lm ln e = record {
        place = one_place m n lm ln e;
        ends = λ path. elim (follow_both m n lm ln e path) [
          | inl none ↦ ap (option_map (rank_at g)) none.0 ∙ sym (ap (option_map (rank_at g)) none.1)
          | inr b ↦ ap (option_map (rank_at g)) b.2 ∙ ap Some (one_rank b.0 b.1 b.4 b.5 b.6) ∙ sym (ap (option_map (rank_at g)) b.3)
        ];
      }

      pub settled_is_least : AreLeast g least
      settled_is_least =
          let within : (n : ℕ) → n < length g.nodes → least n < length g.nodes = λ n lt. let le = are.le n lt in omega (arith, le, lt) in
          record {
            within = within;
            joined = λ n lt. class_joined (least n) n (within n lt) lt (are.idle n lt);
            first = λ m n lm ln h. let same = are.coarse m n lm ln h in let le = are.le m lm in omega (arith, same, le);
          }
