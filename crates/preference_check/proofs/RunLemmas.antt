-- The runs of routers have their nodes.
use Rattle.std.proofs.Common.{◌≡◌, ◌≢◌, ℕ, ◌+◌, ◌<◌, ◌≤◌, Bool, true, false, ◌&&◌, ◌||◌, eqb, ltb, List, [], ◌∷◌, ◌++◌, length, get_or, set, refl, sym, ap, ◌∙◌, inl, inr, arith}
use Rattle.std.proofs.lemmas.Bool.{cases_eq, eq-eqb, ne_eqb}
use Rattle.std.proofs.lemmas.Bool.Decides.{nat_tests}
use Rattle.std.proofs.lemmas.List.{get_or-set_same, get_or-set_other}
use Rattle.std.proofs.lemmas.List.Folds.{list_any-append}
use Rattle.std.proofs.Math.Bool.{and-false, or-false}
use Rattle.graph_base.specs.Graphs.{PlainGraph}
use Rattle.graph_base.specs.Runs.{place_of}
use Rattle.graph_base.specs.Preferences.{number_in}
use Rattle.preference_check.specs.Runs.{has_node, is_entry}
use Rattle.preference_check.specs.declared.runs.Numbered.{Numbered}

-- a node more that isn't meant
pub further : (n node : ℕ) (q : Bool) → (n ≡ node → q ≡ false) → (ltb n node && q) ≡ (ltb n (node + 1) && q)
further n node q apart = elim (cases_eq n node) [
  | inl e ↦ rw (apart e) (and-false _ ∙ sym (and-false _))
  | inr ne ↦ ap (λ b. b && q) (grind (arith, nat_tests))
]

-- a node more that is meant
pub one_more : (n node : ℕ) (q e : Bool) → (n ≡ node → q ≡ e) → (n ≢ node → e ≡ false) → ((ltb n node && q) || e) ≡ (ltb n (node + 1) && q)
one_more n node q e same apart = elim (cases_eq n node) [
  | inl t ↦ (
      let off : ltb n node ≡ false = grind (arith, nat_tests) in
      let on : ltb n (node + 1) ≡ true = grind (arith, nat_tests) in
      rw (off, on, same t) refl)
  | inr t ↦ (
      let alike : ltb n node ≡ ltb n (node + 1) = grind (arith, nat_tests) in
      rw (apart t, alike) (or-false _))
]

-- a list with one node more
has_node-push : (run : List Numbered) (x : Numbered) (n number : ℕ) → has_node (run ++ x ∷ []) n number ≡ (has_node run n number || is_entry n number x)
has_node-push run x n number = list_any-append (is_entry n number) run (x ∷ []) ∙ ap (λ b. has_node run n number || b) (or-false (is_entry n number x))

-- the nodes below a bound, by location
abbrev pub HasNodesBelow : PlainGraph → List ℕ → ℕ → ℕ → List (List Numbered) → Type 0
HasNodesBelow g numbers size bound all = (at n number : ℕ) → at < size → has_node (get_or all at []) n number ≡ (ltb n bound && (eqb (place_of g n) at && eqb (number_in numbers n) number))

module _ (g : PlainGraph) (numbers : List ℕ) (size node place : ℕ) (all : List (List Numbered)) (at_place : place ≡ place_of g node) (so_far : HasNodesBelow g numbers size node all) where
  elsewhere : (at n number : ℕ) → place ≢ at → n ≡ node → (eqb (place_of g n) at && eqb (number_in numbers n) number) ≡ false
  elsewhere at n number apart e =
      let off : eqb (place_of g n) at ≡ false = ne_eqb (place_of g n) at (λ same. apart (at_place ∙ ap (place_of g) (sym e) ∙ same)) in
      rw off refl

  pub node_elsewhere : size ≤ place → HasNodesBelow g numbers size (node + 1) all
  node_elsewhere past at n number lt = so_far at n number lt ∙ further n node _ (elsewhere at n number (λ e. absurd (omega arith)))

  pub node_there : place < length all → HasNodesBelow g numbers size (node + 1) (set all place (get_or all place [] ++ record { number = number_in numbers node; node = node } ∷ []))
  node_there within at n number lt = elim (cases_eq place at) [
    | inl e ↦ (
        let x : Numbered = record { number = number_in numbers node; node = node } in
        let here : get_or (set all place (get_or all place [] ++ x ∷ [])) at [] ≡ get_or all at [] ++ x ∷ [] = rw (← e) (get_or-set_same all place _ [] within) in
        ap (λ run. has_node run n number) here ∙ has_node-push (get_or all at []) x n number ∙ ap (λ b. b || is_entry n number x) (so_far at n number lt)
        ∙ one_more n node _ _ (λ same. meant at n number e same) (λ apart. not_meant n number apart))
    | inr ne ↦ ap (λ run. has_node run n number) (get_or-set_other all place at _ [] (λ e. ne (sym e))) ∙ so_far at n number lt ∙ further n node _ (elsewhere at n number ne)
  ]
    where
      meant : (at n number : ℕ) → place ≡ at → n ≡ node → (eqb (place_of g n) at && eqb (number_in numbers n) number) ≡ (eqb node n && eqb (number_in numbers node) number)
      meant at n number e same =
          let one : eqb (place_of g n) at ≡ true = eq-eqb _ _ (ap (place_of g) same ∙ sym at_place ∙ e) in
          let other : eqb node n ≡ true = eq-eqb node n (sym same) in
          rw (one, other, same) refl

      not_meant : (n number : ℕ) → n ≢ node → (eqb node n && eqb (number_in numbers node) number) ≡ false
      not_meant n number apart =
          let off : eqb node n ≡ false = ne_eqb node n (λ e. apart (sym e)) in
          rw off refl
