-- What joining keeps: nodes that are joined step to nodes that are joined, or that wait to be.
use Rattle.std.proofs.Common.{◌≡◌, ◌≢◌, ◌⊎◌, ℕ, cond, List, [], ◌∷◌, ◌++◌, map, filter, Option, Some, None, refl, sym, ap, ◌∙◌, subst, arith, inl, inr, eq-eqb}
use Rattle.std.specs.Prelude.{◌==◌, is_some, not, option_and_then}
use Rattle.std.proofs.lemmas.Bool.{cases_eq, ne_eqb}
use Rattle.node_classes.specs.declared.way.Way.{Way}
use Rattle.node_classes.specs.Classes.{Tied, AreClasses, AreApart, class_in}
use Rattle.node_classes.specs.Forest.{parent, IsForest, leader}
use Rattle.node_classes.specs.Ways.{comes_from, next, follow}
use Rattle.node_classes.proofs.Forests.{leader-leader, leader-root}
use Rattle.node_classes.specs.Stages.{InPairs, targets, Respects, Related, StepAlike, Stage}
use Rattle.node_classes.proofs.Pairs.{in_front, in_back, in_either, tied_steps}

-- ---- relations

tied_weaker : (R S : ℕ → ℕ → Type 0) → ((u v : ℕ) → R u v → S u v) → (o p : Option ℕ) → Tied R o p → Tied S o p
tied_weaker R S to None None h = tt
tied_weaker R S to None (Some v) h = h
tied_weaker R S to (Some u) None h = h
tied_weaker R S to (Some u) (Some v) h = to u v h

tied_turned : (R : ℕ → ℕ → Type 0) → ((u v : ℕ) → R u v → R v u) → (o p : Option ℕ) → Tied R o p → Tied R p o
tied_turned R turn None None h = tt
tied_turned R turn None (Some v) h = h
tied_turned R turn (Some u) None h = h
tied_turned R turn (Some u) (Some v) h = turn u v h

tied_on : (R : ℕ → ℕ → Type 0) → ((u v w : ℕ) → R u v → R v w → R u w) → (o p q : Option ℕ) → Tied R o p → Tied R p q → Tied R o q
tied_on R on None None None h k = tt
tied_on R on None None (Some w) h k = k
tied_on R on None (Some v) q h k = absurd h
tied_on R on (Some u) None q h k = absurd h
tied_on R on (Some u) (Some v) None h k = k
tied_on R on (Some u) (Some v) (Some w) h k = on u v w h k

tied_same : (R : ℕ → ℕ → Type 0) → ((u : ℕ) → R u u) → (o : Option ℕ) → Tied R o o
tied_same R same None = tt
tied_same R same (Some u) = same u

turned : (up : List ℕ) (todo : List (ℕ × ℕ)) (u v : ℕ) → Related up todo u v → Related up todo v u
turned up todo u v h f r = sym (h f r)

on : (up : List ℕ) (todo : List (ℕ × ℕ)) (u v w : ℕ) → Related up todo u v → Related up todo v w → Related up todo u w
on up todo u v w h k f r = h f r ∙ k f r

-- ---- at the beginning each node is a tree of its own

pub begun : (ways : List Way) (a b : ℕ) (up : List ℕ) → ((x : ℕ) → parent up x ≡ x) → Stage ways a b up ((a, b) ∷ [])
begun ways a b up roots = record {
  forest = λ x. let e = roots x in omega (arith, e);
  closed = λ x y e l.
      let same : x ≡ y = sym (leader-root up x (roots x)) ∙ e ∙ leader-root up y (roots y) in
      subst (λ z. Tied (Related up ((a, b) ∷ [])) (next ways x l) (next ways z l)) same (tied_same (Related up ((a, b) ∷ [])) (λ u f r. refl) (next ways x l));
  first = λ f r. r.pairs a b (inl (refl, refl));
  met = λ x y h. elim h [
    | inl e ↦ ([], ap Some (sym e.0), ap Some (sym e.1))
    | inr n ↦ absurd n
  ];
}

-- ---- a pair whose nodes are of one tree goes

module _ (ways : List Way) (a b : ℕ) (old new : List ℕ) (rest : List (ℕ × ℕ)) (x y : ℕ) (stage : Stage ways a b old (rest ++ (x, y) ∷ []))
    (forest : IsForest new) (same : (z : ℕ) → leader new z ≡ leader old z)
    (one : leader old x ≡ leader old y) where
  skip_respects : (f : ℕ → ℕ) → Respects new rest f → Respects old (rest ++ (x, y) ∷ []) f
  skip_respects f r = record {
    trees = λ z. ap f (sym (same z)) ∙ r.trees z;
    pairs = λ u v h. elim (in_either u v rest ((x, y) ∷ []) h) [
      | inl k ↦ r.pairs u v k
      | inr k ↦ elim k [
        | inl e ↦ ap f e.0 ∙ sym (r.trees x) ∙ ap f (same x ∙ one ∙ sym (same y)) ∙ r.trees y ∙ ap f (sym e.1)
        | inr n ↦ absurd n
      ]
    ];
  }

  skip_related : (u v : ℕ) → Related old (rest ++ (x, y) ∷ []) u v → Related new rest u v
  skip_related u v h f r = h f (skip_respects f r)

  pub skipped : Stage ways a b new rest
  skipped = record {
    forest = forest;
    closed = λ u v e l. tied_weaker (Related old (rest ++ (x, y) ∷ [])) (Related new rest) skip_related (next ways u l) (next ways v l) (stage.closed u v (sym (same u) ∙ e ∙ same v) l);
    first = skip_related a b stage.first;
    met = λ u v h. stage.met u v (in_front u v rest ((x, y) ∷ []) h);
  }

-- ---- a pair whose nodes step at the same places is joined, and the targets of their steps wait

module _ (ways : List Way) (a b : ℕ) (old new : List ℕ) (rest : List (ℕ × ℕ)) (x y : ℕ) (vs ws : List Way) (stage : Stage ways a b old (rest ++ (x, y) ∷ [])) (forest : IsForest new)
    (low high : ℕ) (trees : (z : ℕ) → leader new z ≡ cond (leader old z == high) low (leader old z)) (apart : low ≢ high)
    (ends : ((leader old x ≡ low) × (leader old y ≡ high)) ⊎ ((leader old x ≡ high) × (leader old y ≡ low)))
    (of_x : vs ≡ filter (comes_from x) ways) (of_y : ws ≡ filter (comes_from y) ways) (alike : map (λ (w : Way). w.at) vs ≡ map (λ (w : Way). w.at) ws) where
  abbrev More : List (ℕ × ℕ)
  More = rest ++ targets vs ws

  tree_high : (z : ℕ) → leader old z ≡ high → leader new z ≡ low
  tree_high z e = trees z ∙ rw (eq-eqb (leader old z) high e) refl

  tree_other : (z : ℕ) → leader old z ≢ high → leader new z ≡ leader old z
  tree_other z n = trees z ∙ rw (ne_eqb (leader old z) high n) refl

  tree_low : (z : ℕ) → leader old z ≡ low → leader new z ≡ low
  tree_low z e = tree_other z (λ h. apart (sym e ∙ h)) ∙ e

  x_low : leader new x ≡ low
  x_low = elim ends [ inl e ↦ tree_low x e.0 | inr e ↦ tree_high x e.0 ]

  y_low : leader new y ≡ low
  y_low = elim ends [ inl e ↦ tree_high y e.1 | inr e ↦ tree_low y e.1 ]

  -- one old tree is within one new tree
  kept_one : (u v : ℕ) → leader old u ≡ leader old v → leader new u ≡ leader new v
  kept_one u v e = trees u ∙ ap (λ r. cond (r == high) low r) e ∙ sym (trees v)

  join_respects : (f : ℕ → ℕ) → Respects new More f → Respects old (rest ++ (x, y) ∷ []) f
  join_respects f r = record {
    trees = λ z. one (leader old z) z (kept_one (leader old z) z (leader-leader old stage.forest z));
    pairs = λ u v h. elim (in_either u v rest ((x, y) ∷ []) h) [
      | inl k ↦ r.pairs u v (in_front u v rest (targets vs ws) k)
      | inr k ↦ elim k [
        | inl e ↦ ap f e.0 ∙ one x y (x_low ∙ sym y_low) ∙ ap f (sym e.1)
        | inr n ↦ absurd n
      ]
    ];
  }
    where
      one : (u v : ℕ) → leader new u ≡ leader new v → f u ≡ f v
      one u v e = sym (r.trees u) ∙ ap f e ∙ r.trees v

  join_related : (u v : ℕ) → Related old (rest ++ (x, y) ∷ []) u v → Related new More u v
  join_related u v h f r = h f (join_respects f r)

  abbrev Alike : ℕ → ℕ → Type 0
  Alike = StepAlike ways (Related new More)

  alike_turned : (u v : ℕ) → Alike u v → Alike v u
  alike_turned u v h l = tied_turned (Related new More) (turned new More) (next ways u l) (next ways v l) (h l)

  alike_on : (u v w : ℕ) → Alike u v → Alike v w → Alike u w
  alike_on u v w h k l = tied_on (Related new More) (on new More) (next ways u l) (next ways v l) (next ways w l) (h l) (k l)

  alike_old : (u v : ℕ) → leader old u ≡ leader old v → Alike u v
  alike_old u v e l = tied_weaker (Related old (rest ++ (x, y) ∷ [])) (Related new More) join_related (next ways u l) (next ways v l) (stage.closed u v e l)

  alike_ends : Alike x y
  alike_ends l = tied_weaker (λ u v. InPairs u v (targets vs ws)) (Related new More) (λ u v h f r. r.pairs u v (in_back u v rest (targets vs ws) h)) (next ways x l) (next ways y l)
      (tied_steps ways vs ws x y of_x of_y alike l)

  -- nodes of the lower tree and of the higher one
  alike_across : (u v : ℕ) → leader old u ≡ low → leader old v ≡ high → Alike u v
  alike_across u v at_low at_high = elim ends [
    | inl e ↦ alike_on u x v (alike_old u x (at_low ∙ sym e.0)) (alike_on x y v alike_ends (alike_old y v (e.1 ∙ sym at_high)))
    | inr e ↦ alike_on u y v (alike_old u y (at_low ∙ sym e.1)) (alike_on y x v (alike_turned x y alike_ends) (alike_old x v (e.0 ∙ sym at_high)))
  ]

  alike_new : (u v : ℕ) → leader new u ≡ leader new v → Alike u v
  alike_new u v e = elim (cases_eq (leader old u) high) [
    | inl h ↦ elim (cases_eq (leader old v) high) [
      | inl k ↦ alike_old u v (h ∙ sym k)
      | inr k ↦ alike_turned v u (alike_across v u (sym (tree_other v k) ∙ sym e ∙ tree_high u h) h)
    ]
    | inr h ↦ elim (cases_eq (leader old v) high) [
      | inl k ↦ alike_across u v (sym (tree_other u h) ∙ e ∙ tree_high v k) k
      | inr k ↦ alike_old u v (sym (tree_other u h) ∙ e ∙ tree_other v k)
    ]
  ]

  pub joined : ((u v : ℕ) → InPairs u v (targets vs ws) → (path : List ℕ) × (follow ways a path ≡ Some u) × (follow ways b path ≡ Some v)) → Stage ways a b new More
  joined met = record {
    forest = forest;
    closed = alike_new;
    first = join_related a b stage.first;
    met = λ u v h. elim (in_either u v rest (targets vs ws) h) [
      | inl k ↦ stage.met u v (in_front u v rest ((x, y) ∷ []) k)
      | inr k ↦ met u v k
    ];
  }

-- ---- at the end

pub ended : (ways : List Way) (a b : ℕ) (up : List ℕ) → Stage ways a b up [] → (classes : List ℕ) → ((x : ℕ) → class_in classes x ≡ leader up x) → AreClasses ways a b classes
ended ways a b up stage classes are = record {
  joined = are a ∙ stage.first (leader up) respects ∙ sym (are b);
  closed = λ x y l e. tied_weaker (Related up []) (λ u v. class_in classes u ≡ class_in classes v) (λ u v h. are u ∙ h (leader up) respects ∙ sym (are v)) (next ways x l) (next ways y l)
      (stage.closed x y (sym (are x) ∙ e ∙ are y) l);
}
  where
    respects : Respects up [] (leader up)
    respects = record {
      trees = leader-leader up stage.forest;
      pairs = λ x y h. absurd h;
    }

-- ---- what classes say of lists of places

pub classes_follow : (ways : List Way) (a b : ℕ) (classes : List ℕ) → AreClasses ways a b classes → (path : List ℕ) →
    Tied (λ u v. class_in classes u ≡ class_in classes v) (follow ways a path) (follow ways b path)
classes_follow ways a b classes are [] = are.joined
classes_follow ways a b classes are (l ∷ ls) = go (follow ways a ls) (follow ways b ls) (classes_follow ways a b classes are ls)
  where
    go : (o p : Option ℕ) → Tied (λ u v. class_in classes u ≡ class_in classes v) o p →
        Tied (λ u v. class_in classes u ≡ class_in classes v) (option_and_then (λ m. next ways m l) o) (option_and_then (λ m. next ways m l) p)
    go None None h = tt
    go None (Some v) h = absurd h
    go (Some u) None h = absurd h
    go (Some u) (Some v) h = are.closed u v l h

pub tied_some : (R : ℕ → ℕ → Type 0) (o p : Option ℕ) → Tied R o p → is_some o ≡ is_some p
tied_some R None None h = refl
tied_some R None (Some v) h = absurd h
tied_some R (Some u) None h = absurd h
tied_some R (Some u) (Some v) h = refl

-- so the same lists can be followed from both
pub followed_alike : (ways : List Way) (a b : ℕ) (classes : List ℕ) → AreClasses ways a b classes → (path : List ℕ) → is_some (follow ways a path) ≡ is_some (follow ways b path)
followed_alike ways a b classes are path = tied_some (λ u v. class_in classes u ≡ class_in classes v) (follow ways a path) (follow ways b path) (classes_follow ways a b classes are path)

-- two nodes that were met and don't step alike tell the first two apart
pub told_apart : (ways : List Way) (a b x y l : ℕ) (path : List ℕ) → follow ways a path ≡ Some x → follow ways b path ≡ Some y
    → is_some (next ways x l) ≡ not (is_some (next ways y l)) → AreApart ways a b
told_apart ways a b x y l path at_x at_y differ =
    (l ∷ path, ap (λ o. is_some (option_and_then (λ m. next ways m l) o)) at_x ∙ differ ∙ ap (λ o. not (is_some (option_and_then (λ m. next ways m l) o))) (sym at_y))
