-- The loop over rounds: what it keeps, and why it ends.
use Rattle.std.proofs.Common.{◌≡◌, ℕ, ◌+◌, ◌-◌, ◌<◌, ◌≤◌, Bool, true, false, eqb, List, length, refl, sym, ap, ap₂, ◌∙◌, subst, inl, inr, arith}
use Rattle.std.proofs.lemmas.Bool.{both_ways, cases_Bool}
use Rattle.std.proofs.lemmas.Slice.Eq.{bytes_eq-Decides}
use lib.Pointwise.{pointwise}
use Rattle.graph_base.specs.Refuting.{HasSingleSteps}
use Rattle.graph_base.specs.Graphs.{PlainGraph, IsGraph}
use Rattle.graph_base.specs.Runs.{has_step}
use Rattle.reach_prune.specs.Searches.{is_listed}
use Rattle.node_quotient.specs.Alike.{class_in, AreFirst}
use Rattle.node_quotient.specs.Quotient.{AreLeast}
use Rattle.node_quotient.specs.Rounds.{AreClasses}
use Rattle.node_quotient.proofs.Bridge.{graph_round, rises, same_or_more, times, to_come, total, total_most}
use Rattle.node_quotient.proofs.Refined.{next_classes, settled_is_least}

module _ (g : PlainGraph) (ok : IsGraph g) (single : HasSingleSteps g) (lists : List (List ℕ)) (steps : (a b : ℕ) → is_listed lists a b ≡ has_step g a b)
    (least next : List ℕ) (size : length least ≡ length g.nodes) (classes : AreClasses g (class_in least)) (are : AreFirst lists least next)
    (settled : Bool) (is : settled ≡ pointwise eqb next least) where
  pub kept_classes : AreClasses g (class_in next)
  kept_classes = next_classes g ok single (class_in least) (class_in next) classes (graph_round g lists steps least next size are)

  pub kept_settled : settled ≡ true → AreLeast g (class_in next)
  kept_settled h =
      let same : next ≡ least = (bytes_eq-Decides next least).0 (sym is ∙ h) in
      subst (λ xs. AreLeast g (class_in xs)) (sym same)
      (settled_is_least g ok single (class_in least) (class_in next) classes (graph_round g lists steps least next size are) (λ n lt. ap (λ xs. class_in xs n) same))

  pub smaller : (before : Bool) → before ≡ false →
      (to_come settled + times (length next) (length next)) - total next < (to_come before + times (length least) (length least)) - total least
  smaller before going =
      let most : total least ≤ times (length least) (length least) = total_most least (λ n lt. classes.le n (omega (arith, size, lt))) in
      let rows : times (length next) (length next) ≡ times (length least) (length least) = ap₂ times are.size are.size in
      let one : to_come before ≡ 1 = ap to_come going in
      elim (cases_Bool settled) [
        | inl t ↦
            let same : total next ≡ total least = ap total ((bytes_eq-Decides next least).0 (sym is ∙ t)) in
            let none : to_come settled ≡ 0 = ap to_come t in
            omega (arith, most, rows, one, same, none)
        | inr f ↦
            let some : to_come settled ≡ 1 = ap to_come f in
            elim (same_or_more least next are.size (λ n lt. rises g lists steps least next size classes are n lt)) [
              | inl e ↦ absurd (both_ways _ (sym is ∙ f) (subst (λ xs. pointwise eqb xs least ≡ true) e ((bytes_eq-Decides least least).1 refl)))
              | inr more ↦ omega (arith, most, rows, one, some, more)
            ]
      ]
