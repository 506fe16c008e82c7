-- Classes of all nodes tell whether the same paths have runs in both graphs.
use Rattle.std.proofs.Common.{◌≡◌, ℕ, ◌+◌, ◌<◌, List, [], ◌∷◌, length, Option, Some, None, refl, ap, sym, ◌∙◌, subst, arith}
use Rattle.std.specs.Prelude.{option_map, is_some, not}
use Rattle.std.proofs.lemmas.Bool.{true≢false}
use Rattle.graph_base.specs.Graphs.{PlainGraph, IsGraph}
use Rattle.graph_base.specs.Runs.{run}
use Rattle.graph_base.proofs.RunSteps.{run_inside}
use Rattle.node_classes.specs.declared.way.Way.{Way}
use Rattle.node_classes.specs.Classes.{AreApart, AreClasses, AreOneClass, Tied, class_in}
use Rattle.node_classes.specs.Ways.{follow}
use Rattle.node_classes.proofs.Stages.{classes_follow}
use Rattle.walk_check.specs.Alike.{AreAlike, AreUnlike, IsSingleStepped}
use Rattle.walk_check.specs.declared.comparing.WalkClasses.{WalkClasses}
use Rattle.walk_check.specs.WaysOf.{both_sizes}
use Rattle.walk_check.proofs.Followed.{AreWaysOf, follow-run}

module _ (t g : PlainGraph) (live_rules : IsGraph t) (rules : IsGraph g) (live_single : IsSingleStepped t) (single : IsSingleStepped g) (ways : List Way)
    (live_are : AreWaysOf ways t 0 (both_sizes t g)) (graph_are : AreWaysOf ways g (length t.nodes) (both_sizes t g + 1)) where
  abbrev live_root : ℕ
  live_root = both_sizes t g

  abbrev graph_root : ℕ
  graph_root = both_sizes t g + 1

  abbrev counted : ℕ → Option ℕ → Option ℕ
  counted first o = option_map (λ n. first + n) o

  live_run : (l : ℕ) (ls : List ℕ) → follow ways live_root (l ∷ ls) ≡ counted 0 (run t (l ∷ ls))
  live_run = follow-run ways t 0 live_root live_rules live_single live_are

  graph_run : (l : ℕ) (ls : List ℕ) → follow ways graph_root (l ∷ ls) ≡ counted (length t.nodes) (run g (l ∷ ls))
  graph_run = follow-run ways g (length t.nodes) graph_root rules single graph_are

  pub AreAlike-classes : (also : List Way) (a b : ℕ) (all : List ℕ) (k : WalkClasses) → also ≡ ways → a ≡ live_root → b ≡ graph_root
      → AreClasses also a b all → ((p : ℕ) → p < length t.nodes → class_in k.live p ≡ class_in all p)
      → ((n : ℕ) → n < length g.nodes → class_in k.graph n ≡ class_in all (length t.nodes + n)) → AreAlike t g k
  AreAlike-classes also a b all k same at_a at_b are_also in_live in_graph [] = tt
  AreAlike-classes also a b all k same at_a at_b are_also in_live in_graph (l ∷ ls) =
      let are : AreClasses ways live_root graph_root all
      = subst (λ n. AreClasses ways live_root n all) at_b (subst (λ n. AreClasses ways n b all) at_a (subst (λ ws. AreClasses ws a b all) same are_also)) in
      go (run t (l ∷ ls)) (run g (l ∷ ls)) refl refl
      (subst (λ o. Tied (AreOneClass all) o (counted (length t.nodes) (run g (l ∷ ls)))) (live_run l ls)
      (subst (λ o. Tied (AreOneClass all) (follow ways live_root (l ∷ ls)) o) (graph_run l ls) (classes_follow ways live_root graph_root all are (l ∷ ls))))
    where
      go : (o p : Option ℕ) → run t (l ∷ ls) ≡ o → run g (l ∷ ls) ≡ p → Tied (AreOneClass all) (counted 0 o) (counted (length t.nodes) p)
          → Tied (λ p n. class_in k.live p ≡ class_in k.graph n) o p
      go None None e f h = tt
      go None (Some n) e f h = h
      go (Some p) None e f h = h
      go (Some p) (Some n) e f h =
          let none : 0 + p ≡ p = omega arith in
          in_live p (run_inside t live_rules (l ∷ ls) p e) ∙ ap (class_in all) (sym none) ∙ h ∙ sym (in_graph n (run_inside g rules (l ∷ ls) n f))

  is_some-counted : (first : ℕ) (o : Option ℕ) → is_some (counted first o) ≡ is_some o
  is_some-counted first None = refl
  is_some-counted first (Some n) = refl

  pub AreUnlike-apart : (also : List Way) (a b : ℕ) → also ≡ ways → a ≡ live_root → b ≡ graph_root → AreApart also a b → AreUnlike t g
  AreUnlike-apart also a b same at_a at_b apart =
      let h : AreApart ways live_root graph_root
      = subst (λ n. AreApart ways live_root n) at_b (subst (λ n. AreApart ways n b) at_a (subst (λ ws. AreApart ws a b) same apart)) in
      go h.0 h.1
    where
      go : (path : List ℕ) → is_some (follow ways live_root path) ≡ not (is_some (follow ways graph_root path)) → AreUnlike t g
      go [] e = absurd (true≢false e)
      go (l ∷ ls) e =
          let one : is_some (follow ways live_root (l ∷ ls)) ≡ is_some (run t (l ∷ ls)) = ap is_some (live_run l ls) ∙ is_some-counted 0 (run t (l ∷ ls)) in
          let other : is_some (follow ways graph_root (l ∷ ls)) ≡ is_some (run g (l ∷ ls)) = ap is_some (graph_run l ls) ∙ is_some-counted (length t.nodes) (run g (l ∷ ls)) in
          (l ∷ ls, sym one ∙ e ∙ ap not other)
