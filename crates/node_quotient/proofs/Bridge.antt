-- A round over lists of steps is a round of the graph, and classes only rise.
use Rattle.std.proofs.Common.{◌≡◌, ◌⊎◌, ℕ, zero, suc, ◌+◌, ◌<◌, ◌≤◌, Bool, cond, List, [], ◌∷◌, length, refl, sym, ap, ap₂, ◌∙◌, inl, inr, arith}
use Rattle.std.proofs.lemmas.Bool.{cases_eq}
use Rattle.graph_base.specs.Graphs.{PlainGraph}
use Rattle.graph_base.specs.Runs.{has_step}
use Rattle.reach_prune.specs.Searches.{is_listed}
use Rattle.node_quotient.specs.Alike.{class_in, AreFirst}
use Rattle.node_quotient.specs.Rounds.{AreClasses, AreLike, IsNextRound}
use Rattle.node_quotient.proofs.Like.{Like, like_from, like_to}

module _ (g : PlainGraph) (lists : List (List ℕ)) (steps : (a b : ℕ) → is_listed lists a b ≡ has_step g a b) (least next : List ℕ) (size : length least ≡ length g.nodes) where
  graph_like : (m n : ℕ) → Like lists least m n → AreLike g (class_in least) m n
  graph_like m n h = record {
    class = h.class;
    forth = λ a st. let f = h.forth a (steps m a ∙ st) in (f.0, sym (steps n f.0) ∙ f.1, f.2);
    back = λ b st. let f = h.back b (steps n b ∙ st) in (f.0, sym (steps m f.0) ∙ f.1, f.2);
  }

  list_like : (m n : ℕ) → AreLike g (class_in least) m n → Like lists least m n
  list_like m n h = record {
    class = h.class;
    forth = λ a st. let f = h.forth a (sym (steps m a) ∙ st) in (f.0, steps n f.0 ∙ f.1, f.2);
    back = λ b st. let f = h.back b (sym (steps n b) ∙ st) in (f.0, steps m f.0 ∙ f.1, f.2);
  }

  pub graph_round : AreFirst lists least next → IsNextRound g (class_in least) (class_in next)
  graph_round are = record {
    within = λ n lt. let w = are.within n (omega (arith, size, lt)) in omega (arith, size, w);
    like = λ n lt. graph_like (class_in next n) n (like_from lists least (class_in next n) n (are.alike n (omega (arith, size, lt))));
    first = λ m n lm ln h. are.first m n (omega (arith, size, lm)) (omega (arith, size, ln)) (like_to lists least m n (list_like m n h));
  }

  -- no node's class falls
  pub rises : AreClasses g (class_in least) → AreFirst lists least next → (n : ℕ) → n < length least → class_in least n ≤ class_in next n
  rises classes are n lt =
      let w = are.within n lt in
      let same = (like_from lists least (class_in next n) n (are.alike n lt)).class in
      let le = classes.le (class_in next n) (omega (arith, size, w)) in
      omega (arith, same, le)

abbrev pub total : List ℕ → ℕ
total [] = 0
total (x ∷ xs) = x + total xs

-- a last round is left, where it isn't settled
abbrev pub to_come : Bool → ℕ
to_come settled = cond settled 0 1

-- so many times the number
abbrev pub times : ℕ → ℕ → ℕ
times zero top = 0
times (suc n) top = top + times n top

-- lists of one length of which one is nowhere lesser: they are one, or its total is greater
pub same_or_more : (xs ys : List ℕ) → length ys ≡ length xs → ((n : ℕ) → n < length xs → class_in xs n ≤ class_in ys n) → (xs ≡ ys) ⊎ (total xs < total ys)
same_or_more [] [] e h = inl refl
same_or_more [] (y ∷ ys) e h = absurd (omega (arith, e))
same_or_more (x ∷ xs) [] e h = absurd (omega (arith, e))
same_or_more (x ∷ xs) (y ∷ ys) e h =
    let first : x ≤ y = h zero (omega arith) in
    elim (same_or_more xs ys (omega (arith, e)) (λ n lt. h (suc n) (omega (arith, lt)))) [
      | inl same ↦ elim (cases_eq x y) [
        | inl eq ↦ inl (ap₂ (λ z zs. z ∷ zs) eq same)
        | inr ne ↦ let s : total xs ≡ total ys = ap total same in inr (omega (arith, first, ne, s))
      ]
      | inr more ↦ inr (omega (arith, first, more))
    ]

total_bound : (xs : List ℕ) (top : ℕ) → ((n : ℕ) → n < length xs → class_in xs n ≤ top) → total xs ≤ times (length xs) top
total_bound [] top h = omega arith
total_bound (x ∷ xs) top h =
    let first : x ≤ top = h zero (omega arith) in
    let rest = total_bound xs top (λ n lt. h (suc n) (omega (arith, lt))) in
    omega (arith, first, rest)

pub total_most : (xs : List ℕ) → ((n : ℕ) → n < length xs → class_in xs n ≤ n) → total xs ≤ times (length xs) (length xs)
total_most xs h = total_bound xs (length xs) (λ n lt. let le = h n lt in omega (arith, le, lt))
