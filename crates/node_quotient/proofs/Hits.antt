-- Nodes that are joined step to the same classes, so a split by those that step to a class keeps them together.
use Rattle.std.proofs.Common.{◌≡◌, ℕ, ◌+◌, ◌<◌, ◌||◌, Bool, true, false, eqb, List, get_or, length, set, take, refl, sym, ap, ◌∙◌, inl, inr, subst, arith}
use Rattle.std.specs.Prelude.{All, if◌then◌else◌, not, slice_index_or}
use Rattle.std.proofs.Math.Bool.{or-false, or-true}
use Rattle.std.proofs.lemmas.Bool.{cond-true}
use Rattle.std.proofs.lemmas.Bool.Decides.{eqb_tells}
use Rattle.std.proofs.lemmas.List.{get_or-set_other, get_or-set_same, take_more}
use mathlib.Core.Bool.{beq}
use Rattle.list_law.proofs.Truth.{same_tests}
use Rattle.graph_base.specs.Graphs.{PlainGraph, IsGraph}
use Rattle.graph_base.specs.Refuting.{HasSingleSteps}
use Rattle.graph_base.specs.Runs.{has_step, place_of, rank_at}
use Rattle.graph_base.proofs.StartsAndSteps.{step_nodes}
use Rattle.reach_prune.specs.Searches.{AreLists, is_among, is_listed}
use Rattle.reach_prune.proofs.Among.{member_passes, passing_member}
use Rattle.reach_prune.proofs.Trails.{waited}
use Rattle.node_quotient.specs.Alike.{class_in, list_of}
use Rattle.node_quotient.specs.Quotient.{AreJoined}
use Rattle.node_quotient.specs.Rounds.{AreClasses}
use Rattle.node_quotient.specs.Splits.{AreGroups, AreNamed, AreSplit, is_hit}
use Rattle.node_quotient.proofs.Least.{joined_steps, joined_sym}
use Rattle.node_quotient.proofs.Turns.{among_get}

-- where no other node was marked, those that are marked now are these, and none is once their marks are taken away
-- a mark is as it is meant to be where the two are one
pub marked_as : (mark meant : Bool) → (if meant then mark else not mark) ≡ beq mark meant
marked_as true true = refl
marked_as true false = refl
marked_as false true = refl
marked_as false false = refl

pub marked_alone : (b m : Bool) → m ≡ false → (if b then true else m) ≡ b
marked_alone true m h = refl
marked_alone false m h = h

pub unmarked : (b m n : Bool) → n ≡ (if b then true else m) → m ≡ false → (if b then false else n) ≡ false
unmarked true m n e h = refl
unmarked false m n e h = e ∙ h

-- one more of the listed items is set
pub set_more : {A : Type 0} (d : A) (old now : List A) (list : List ℕ) (i : ℕ) (x : A) → i < length list → get_or list i 0 < length now
    → ((n : ℕ) → get_or now n d ≡ (if is_among (take i list) n then x else get_or old n d))
    → (n : ℕ) → get_or (set now (get_or list i 0) x) n d ≡ (if is_among (take (i + 1) list) n then x else get_or old n d)
set_more d old now list i x within inside before n = elim (eqb_tells (get_or list i 0) n) [
  | inl here ↦
      ap (λ k. get_or (set now (get_or list i 0) x) k d) (sym here.1) ∙ get_or-set_same now (get_or list i 0) x d inside
      ∙ sym (cond-true (is_among (take (i + 1) list) n) x (get_or old n d) (more ∙ ap (λ b. is_among (take i list) n || b) here.0 ∙ or-true (is_among (take i list) n)))
  | inr other ↦
      get_or-set_other now (get_or list i 0) n x d (λ e. other.1 (sym e)) ∙ before n
      ∙ ap (λ b. if b then x else get_or old n d) (sym (more ∙ ap (λ b. is_among (take i list) n || b) other.0 ∙ or-false (is_among (take i list) n)))
]
  where
    more : is_among (take (i + 1) list) n ≡ (is_among (take i list) n || eqb (get_or list i 0) n)
    more = waited (take (i + 1) list) (take i list) (get_or list i 0) n (take_more list i 0 within)

-- what is listed for some nodes is a node
pub hits_below : (before : List (List ℕ)) (nodes all list : List ℕ) → AreLists before → ((m : ℕ) → is_among all m ≡ is_hit before nodes m) → list ≡ all → All (λ n. n < length before) list
hits_below before nodes all list are h e k d lt =
    let x = slice_index_or list k d in
    let there : is_among all x ≡ true = ap (λ xs. is_among xs x) (sym e) ∙ among_get list k d lt in
    let t = passing_member (λ s. is_listed before s x) nodes (sym (h x) ∙ there) in
    are t.0 x t.2

module _ (g : PlainGraph) (ok : IsGraph g) (single : HasSingleSteps g) (before : List (List ℕ)) (steps : (a b : ℕ) → is_listed before a b ≡ has_step g b a)
    (classes : List ℕ) (members : List (List ℕ)) (groups : AreGroups (length g.nodes) classes members) (are : AreClasses g (class_in classes)) where
  joined_hit : (c m n : ℕ) → AreJoined g m n → is_hit before (list_of members c) n ≡ true → is_hit before (list_of members c) m ≡ true
  joined_hit c m n h there =
      let t = passing_member (λ s. is_listed before s n) (list_of members c) there in
      let from = groups.only c t.0 t.1 in
      let step = joined_steps g single m n t.0 h (sym (steps t.0 n) ∙ t.2) in
      let node = (step_nodes g m step.0 ok step.1).1 in
      let class : class_in classes step.0 ≡ c = are.coarse step.0 t.0 node from.0 step.2 ∙ from.1 in
      member_passes (λ s. is_listed before s m) (list_of members c) step.0 (subst (λ k. is_listed members k step.0 ≡ true) class (groups.listed step.0 node)) (steps step.0 m ∙ step.1)

  joined_hits : (c m n : ℕ) → AreJoined g m n → is_hit before (list_of members c) m ≡ is_hit before (list_of members c) n
  joined_hits c m n h = same_tests _ _ (joined_hit c n m (joined_sym g m n h)) (joined_hit c m n h)

  pub split_are_classes : (c : ℕ) (new : List ℕ) → length classes ≡ length g.nodes → length new ≡ length g.nodes → AreNamed new
      → AreSplit (is_hit before (list_of members c)) classes new → AreClasses g (class_in new)
  split_are_classes c new old_len new_len named split = record {
    le = λ n lt. named.le n (omega (arith, lt, new_len));
    idle = λ n lt. named.idle n (omega (arith, lt, new_len));
    place = λ n lt.
        let f = first n lt in
        sym (are.place (class_in new n) f.0) ∙ ap (place_of g) f.1 ∙ are.place n lt;
    rank = λ n lt.
        let f = first n lt in
        sym (are.rank (class_in new n) f.0) ∙ ap (rank_at g) f.1 ∙ are.rank n lt;
    coarse = λ m n lm ln h. split.alike m n (omega (arith, lm, old_len)) (omega (arith, ln, old_len)) (are.coarse m n lm ln h) (joined_hits c m n h);
  }
    where
      first : (n : ℕ) → n < length g.nodes → (class_in new n < length g.nodes) × (class_in classes (class_in new n) ≡ class_in classes n)
      first n lt =
          let le = named.le n (omega (arith, lt, new_len)) in
          let there : class_in new n < length g.nodes = omega (arith, le, lt) in
          (there, split.finer (class_in new n) n (omega (arith, there, old_len)) (omega (arith, lt, old_len)) (named.idle n (omega (arith, lt, new_len))))
