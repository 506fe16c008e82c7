-- Items that are unlike all before them are distinct.
use Rattle.std.proofs.Common.{◌≡◌, ℕ, List, [], ◌∷◌, ◌++◌, length, map, Ok, Bool, false, sym, ◌∙◌}
use Rattle.std.specs.Prelude.{⊤, ◌+◌, option_map}
use Rattle.std.specs.List.{list_any, find, AllByRecursion, IsDistinct}
use Rattle.std.proofs.lemmas.List.{map-append}
use Rattle.std.proofs.lemmas.List.Folds.{list_any-append}
use Rattle.std.proofs.lemmas.Bool.{or_parts}
use Rattle.list_law.proofs.Tests.{list_any-map, list_any-not_found}
use Rattle.topology.specs.declared.fault.TopoFault.{TopoFault}
use Rattle.topology.specs.Rules.{all_unlike, no_fault}
use Rattle.net_base.proofs.StepLemmas.{bind_ok}
use Rattle.topology.proofs.Results.{no_fault-ok}

-- what is among none of these
abbrev pub NotIn : {B : Type 0} → (B → B → Bool) → List B → B → Type 0
NotIn eq seen y = list_any (eq y) seen ≡ false

module _ {A B : Type 0} (key : A → B) (eq : B → B → Bool) (swap : (x y : B) → eq x y ≡ false → eq y x ≡ false) (told : ℕ → A → A → TopoFault) where
  not_it : (seen : List B) (x y : B) → NotIn eq (seen ++ x ∷ []) y → (NotIn eq seen y) × (eq x y ≡ false)
  not_it seen x y h =
      let p = or_parts _ _ (sym (list_any-append (eq y) seen (x ∷ [])) ∙ h) in
      (p.0, swap y x (or_parts _ _ p.1).0)

  none_it : (seen : List B) (x : B) (ys : List B) → AllByRecursion (NotIn eq (seen ++ x ∷ [])) ys → AllByRecursion (NotIn eq seen) ys × AllByRecursion (λ y. eq x y ≡ false) ys
  none_it seen x [] h = (tt, tt)
  none_it seen x (y ∷ ys) h =
      let p = not_it seen x y h.0 in
      let q = none_it seen x ys h.1 in
      ((p.0, q.0), (p.1, q.1))

  pub all_unlike-distinct : (before xs : List A) (u : ⊤) → all_unlike (λ a b. eq (key a) (key b)) told before xs ≡ Ok u
      → IsDistinct eq (map key xs) × AllByRecursion (NotIn eq (map key before)) (map key xs)
  unfolding IsDistinct
  all_unlike-distinct before [] u h = (tt, tt)
  all_unlike-distinct before (x ∷ xs) u h =
      let p =
      bind_ok (no_fault (option_map (λ earlier. told (length before + 1) earlier x) (find (λ b. eq (key x) (key b)) before)))
      (λ _. all_unlike (λ a b. eq (key a) (key b)) told (before ++ x ∷ []) xs) u h in
      let none = list_any-not_found (λ b. eq (key x) (key b)) before (no_fault-ok _ _ _ p.1) in
      let q = all_unlike-distinct (before ++ x ∷ []) xs u p.2 in
      let r = none_it (map key before) (key x) (map key xs) (rw (map-append key before (x ∷ [])) at q.1) in
      ((r.1, q.0), (list_any-map (eq (key x)) key before ∙ none, r.0))
