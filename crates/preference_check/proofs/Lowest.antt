-- The least number of a run from which a node is reached.
use Rattle.std.proofs.Common.{◌≡◌, ℕ, ◌+◌, ◌-◌, ◌<◌, ◌≤◌, Bool, true, false, ◌&&◌, ◌||◌, eqb, leb, List, [], ◌∷◌, Option, length, get_or, sym, ap, ◌∙◌, inl, inr, arith}
use Rattle.std.proofs.Common.{IsTrue, le-leb, leb-true, subst}
use Rattle.std.proofs.lemmas.Bool.{cases_lt, or_cases, or_left, or_right, and_from, and_parts, both_ways, eq-eqb, eqb-true}
use Rattle.std.proofs.lemmas.Option.{get_or_from_slice_get, slice_get_within}
use Rattle.list_law.proofs.Tests.{list_any_parts}
use Rattle.graph_base.specs.Graphs.{PlainGraph}
use Rattle.graph_base.specs.Runs.{place_of}
use Rattle.reach_prune.specs.Searches.{IsChain, Leads, is_listed, is_marked}
use Rattle.graph_base.specs.Preferences.{number_in}
use Rattle.preference_check.specs.Floods.{AreLeast}
use Rattle.preference_check.specs.Rows.{has_upto}
use Rattle.preference_check.specs.Runs.{IsAscending, has_node, is_entry}
use Rattle.preference_check.specs.declared.runs.Numbered.{Numbered}

-- where a run has a node
pub entry_of : (run : List Numbered) (n v : ℕ) (d : Numbered) → IsTrue (has_node run n v) → (j : ℕ) × (j < length run) × ((get_or run j d).node ≡ n) × ((get_or run j d).number ≡ v)
entry_of run n v d h =
    let found = list_any_parts (is_entry n v) run h in
    let x = found.1 in
    let parts = and_parts (eqb x.node n) (eqb x.number v) found.3 in
    let read = get_or_from_slice_get run found.0 x d found.2 in
    (found.0, slice_get_within run found.0 x found.2, ap (λ (y : Numbered). y.node) read ∙ eqb-true x.node n parts.0, ap (λ (y : Numbered). y.number) read ∙ eqb-true x.number v parts.1)

-- a run whose last number is no greater than its first
pub one_number : (run : List Numbered) (d : Numbered) → IsAscending run → IsTrue (leb (get_or run (length run - 1) d).number (get_or run 0 d).number)
    → (k n v w : ℕ) → IsTrue (has_node run k v) → IsTrue (has_node run n w) → v ≤ w
one_number run d up flat k n v w one other =
    let i = entry_of run k v d one in
    let j = entry_of run n w d other in
    let last = up i.0 (length run - 1) d (omega (arith, i.1)) (omega (arith, i.1)) in
    let first = up 0 j.0 d (omega arith) j.1 in
    omega (arith, last, first, leb-true _ _ flat, i.3, j.3)

-- what a node with a mark leads to has no greater one
pub leads_low : (lists : List (List ℕ)) (marks : List (Option ℕ))
    → ((a b v : ℕ) → IsTrue (has_upto marks a v) → IsTrue (is_listed lists a b) → IsTrue (has_upto marks b v)) → (a b v : ℕ) → Leads lists a b
    → IsTrue (has_upto marks a v) → IsTrue (has_upto marks b v)
leads_low lists marks closed a b v leads h = along a leads.0 leads.1 h
  where
    along : (a : ℕ) (via : List ℕ) → IsChain lists a via b → IsTrue (has_upto marks a v) → IsTrue (has_upto marks b v)
    along a [] e h = ap (λ x. has_upto marks x v) (sym e) ∙ h
    along a (c ∷ cs) e h = along c cs e.1 (closed a c v h e.0)

-- ---- the least numbers at locations

module _ (g : PlainGraph) (numbers : List ℕ) (marks : List Bool) (node : ℕ) where
  pub least_there : (old new : List (Option ℕ)) → is_marked marks node ≡ true → ((l v : ℕ) → has_upto new l v ≡ (has_upto old l v || (eqb (place_of g node) l && leb (number_in numbers node) v)))
      → AreLeast g numbers marks node old → AreLeast g numbers marks (node + 1) new
  least_there old new on more so_far = record {
    whole = λ k v lt mark le. elim (cases_lt k node) [
      | inl less ↦ more (place_of g k) v ∙ or_left _ _ (so_far.whole k v less mark le)
      | inr past ↦ (
          let same : node ≡ k = omega arith in
          more (place_of g k) v
          ∙ or_right (has_upto old (place_of g k) v) _ (and_from (eqb (place_of g node) (place_of g k)) _ (eq-eqb _ _ (ap (place_of g) same))
          (le-leb (number_in numbers node) v (subst (λ n. number_in numbers n ≤ v) (sym same) le))))
    ];
    sound = λ l v h. elim (or_cases (has_upto old l v) (eqb (place_of g node) l && leb (number_in numbers node) v) (sym (more l v) ∙ h)) [
      | inl t ↦ let found = so_far.sound l v t in (found.0, omega (arith, found.1), found.2, found.3, found.4)
      | inr t ↦ let parts = and_parts (eqb (place_of g node) l) (leb (number_in numbers node) v) t in (node, omega arith, on, eqb-true _ _ parts.0, leb-true _ _ parts.1)
    ];
  }

  pub least_not : (row : List (Option ℕ)) → is_marked marks node ≡ false → AreLeast g numbers marks node row → AreLeast g numbers marks (node + 1) row
  least_not row off so_far = record {
    whole = λ k v lt mark le. elim (cases_lt k node) [
      | inl less ↦ so_far.whole k v less mark le
      | inr past ↦ let same : node ≡ k = omega arith in absurd (both_ways _ off (ap (is_marked marks) same ∙ mark))
    ];
    sound = λ l v h. let found = so_far.sound l v h in (found.0, omega (arith, found.1), found.2, found.3, found.4);
  }
