-- Which step decided, and what a step that failed tells.
use Rattle.std.proofs.Common.{◌≡◌, ℕ, ◌+◌, List, [], ◌∷◌, ◌++◌, length, map, Option, Some, None, Err, Bool, false, refl, sym, ◌∙◌, true≢false}
use Rattle.std.specs.Prelude.{option_map}
use Rattle.std.specs.List.{find, AllByRecursion, IsDistinct}
use Rattle.std.proofs.lemmas.List.{map-append}
use Rattle.std.proofs.lemmas.List.Folds.{list_any-append}
use Rattle.list_law.proofs.Tests.{list_any-found, list_any-map}
use Rattle.topology.specs.declared.fault.TopoFault.{TopoFault}
use Rattle.topology.specs.Rules.{all_unlike, no_fault}
use Rattle.topology.proofs.Distinct.{NotIn}
use Rattle.net_base.proofs.StepLemmas.{err_same}
use Rattle.net_base.proofs.StepOutcomes.{bind_case}

pub no_fault-err : {A : Type 0} (told : A → TopoFault) (o : Option A) (f : TopoFault) → no_fault (option_map told o) ≡ Err f → (x : A) × (o ≡ Some x) × (told x ≡ f)
no_fault-err told None f h = absurd cc
no_fault-err told (Some x) f h = (x, refl, cc)

module _ {A B : Type 0} (key : A → B) (eq : B → B → Bool) (swap : (x y : B) → eq x y ≡ false → eq y x ≡ false) (told : ℕ → A → A → TopoFault) where
  join_it : (seen : List B) (x : B) (ys : List B) → AllByRecursion (NotIn eq seen) ys → AllByRecursion (λ y. eq x y ≡ false) ys → AllByRecursion (NotIn eq (seen ++ x ∷ [])) ys
  join_it seen x [] a b = tt
  join_it seen x (y ∷ ys) a b = (list_any-append (eq y) seen (x ∷ []) ∙ rw (a.0, swap x y b.0) refl, join_it seen x ys a.1 b.1)

  -- where items are told to be alike, they aren't distinct
  pub all_unlike-breaks : (Q : TopoFault → Type 0) → ((k : ℕ) (a b : A) → Q (told k a b)) → (before xs : List A) (e : TopoFault) → all_unlike (λ a b. eq (key a) (key b)) told before xs ≡ Err e
      → (IsDistinct eq (map key xs) → AllByRecursion (NotIn eq (map key before)) (map key xs) → ⊥) × Q e
  unfolding IsDistinct
  all_unlike-breaks Q all before [] e h = absurd cc
  all_unlike-breaks Q all before (x ∷ xs) e h =
      bind_case ((IsDistinct eq (map key (x ∷ xs)) → AllByRecursion (NotIn eq (map key before)) (map key (x ∷ xs)) → ⊥) × Q e)
      (no_fault (option_map (λ earlier. told (length before + 1) earlier x) (find (λ b. eq (key x) (key b)) before))) (λ _. all_unlike (λ a b. eq (key a) (key b)) told (before ++ x ∷ []) xs) (Err e) h
      (λ d p same.
      let q = no_fault-err (λ earlier. told (length before + 1) earlier x) (find (λ b. eq (key x) (key b)) before) d p in
      let found = list_any-map (eq (key x)) key before ∙ list_any-found (λ b. eq (key x) (key b)) before q.0 q.1 in
      ((λ _ a. true≢false (sym found ∙ a.0)), rw (err_same e d same, ← q.2) (all (length before + 1) q.0 x)))
      (λ _ _ g. let q = all_unlike-breaks Q all (before ++ x ∷ []) xs e g in
      ((λ d a. q.0 d.1 (rw (map-append key before (x ∷ [])) (join_it (map key before) (key x) (map key xs) a.1 d.0))), q.1))

pub all_nothing : {B : Type 0} (eq : B → B → Bool) (ys : List B) → AllByRecursion (NotIn eq []) ys
all_nothing eq [] = tt
all_nothing eq (y ∷ ys) = (refl, all_nothing eq ys)
