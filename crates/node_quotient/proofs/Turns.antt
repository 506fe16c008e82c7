-- A turn of the loop of a round.
use Rattle.std.proofs.Common.{◌≡◌, ℕ, zero, suc, ◌+◌, ◌<◌, true, ◌==◌, List, [], ◌∷◌, ◌++◌, length, find, set, Option, Some, None, refl, sym, ap, ◌∙◌, subst, arith}
use Rattle.std.specs.Prelude.{All, slice_index_or}
use Rattle.std.specs.List.{list_any}
use Rattle.std.proofs.lemmas.Bool.{or_left, or_right, eq-eqb}
use Rattle.std.proofs.lemmas.List.{get_or-set_same, get_or-set_other, get_or_default, length-set}
use Rattle.reach_prune.specs.Searches.{is_among}
use Rattle.node_quotient.specs.Alike.{class_in, list_of, are_alike}
use Rattle.node_quotient.proofs.Stages.{Stage, more_found, more_founder}

pub among_get : (xs : List ℕ) (k d : ℕ) → k < length xs → is_among xs (slice_index_or xs k d) ≡ true
among_get [] k d lt = absurd (omega (arith, lt))
among_get (x ∷ xs) zero d lt = or_left (x == x) (list_any (λ w. w == x) xs) (eq-eqb x x refl)
among_get (x ∷ xs) (suc k) d lt = or_right (x == slice_index_or xs k d) (list_any (λ w. w == slice_index_or xs k d) xs) (among_get xs k d (omega (arith, lt)))

-- what was read is the list of the class
pub read : (founders : List (List ℕ)) (class : ℕ) (list got : List ℕ) → class < length founders → list ≡ got → got ≡ slice_index_or founders class got → list ≡ list_of founders class
read founders class list got lt e is = e ∙ is ∙ get_or_default founders class got [] lt

module _ (lists : List (List ℕ)) (least : List ℕ) (node : ℕ) (founders : List (List ℕ)) (next : List ℕ) (s : Stage lists least node founders next) (lt : node < length least) where
  pub founders_inside : (class : ℕ) (list : List ℕ) → list ≡ list_of founders class → All (λ m. m < length least) list
  founders_inside class list e k d l =
      let there = (s.listed class (slice_index_or list k d) (ap (λ xs. is_among xs (slice_index_or list k d)) (sym e) ∙ among_get list k d l)).0 in
      omega (arith, there, lt)

  pub turn_found : (f : ℕ) (list : List ℕ) (o : Option ℕ) → list ≡ list_of founders (class_in least node)
      → o ≡ find (λ m. are_alike lists least m node) list → o ≡ Some f → Stage lists least (node + 1) founders (next ++ f ∷ [])
  turn_found f list o e found is =
      let h = ap (find (λ m. are_alike lists least m node)) (sym e) ∙ sym found ∙ is in
      let one : suc node ≡ node + 1 = omega arith in
      subst (λ n. Stage lists least n founders (next ++ f ∷ [])) one (more_found lists least node founders next s lt f h)

  pub turn_founder : class_in least node < length least → (list new : List ℕ) (o : Option ℕ) → list ≡ list_of founders (class_in least node)
      → o ≡ find (λ m. are_alike lists least m node) list → o ≡ None →
      new ≡ list_of founders (class_in least node) ++ node ∷ [] → Stage lists least (node + 1) (set founders (class_in least node) new) (next ++ node ∷ [])
  turn_founder inside list new o e found is added =
      let h = ap (find (λ m. are_alike lists least m node)) (sym e) ∙ sym found ∙ is in
      let one : suc node ≡ node + 1 = omega arith in
      let rows = s.rows in
      let there : class_in least node < length founders = omega (arith, inside, rows) in
      let same = get_or-set_same founders (class_in least node) new [] there ∙ added in
      subst (λ n. Stage lists least n (set founders (class_in least node) new) (next ++ node ∷ [])) one
      (more_founder lists least node founders next s lt (set founders (class_in least node) new) (length-set founders (class_in least node) new) same
      (λ c a. get_or-set_other founders (class_in least node) c new [] a) h)
