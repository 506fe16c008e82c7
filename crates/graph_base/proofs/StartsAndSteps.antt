-- Starts and steps of a graph: where they stand in its lists, to which nodes they lead, and how they are found by locations.
use Rattle.std.proofs.Common.{◌≡◌, ℕ, ◌<◌, List, true, get_or, length, Some, refl, sym, ap, ◌∙◌, subst}
use Rattle.std.specs.Prelude.{◌&&◌, ◌==◌}
use Rattle.std.specs.List.{AllByRecursion, find}
use Rattle.std.proofs.lemmas.Bool.{and_parts, and_from, eqb-true, eq-eqb}
use Rattle.std.proofs.lemmas.Option.{slice_get-get_or}
use Rattle.list_law.specs.Members.{IsIn}
use Rattle.list_law.proofs.Each.{AllByRecursion_at}
use Rattle.list_law.proofs.Members.{AllByRecursion-IsIn, list_any-from_IsIn, list_any_member}
use Rattle.list_law.proofs.Options.{option_map_parts}
use Rattle.list_law.proofs.Tests.{find_parts}
use Rattle.graph_base.specs.Graphs.{PlainGraph, IsGraph}
use Rattle.graph_base.specs.Runs.{place_of, is_start, has_step, start_at, step_at}

-- ---- in their lists

pub start_in : (g : PlainGraph) (n : ℕ) → is_start g n ≡ true → IsIn g.starts n
start_in g n h =
    let found = list_any_member (λ s. s == n) g.starts h in
    subst (IsIn g.starts) (eqb-true found.0 n found.2) found.1

pub in_start : (g : PlainGraph) (n : ℕ) → IsIn g.starts n → is_start g n ≡ true
in_start g n at = list_any-from_IsIn (λ s. s == n) g.starts n at (eq-eqb n n refl)

pub step_in : (g : PlainGraph) (n m : ℕ) → has_step g n m ≡ true → IsIn g.steps (n, m)
step_in g n m h =
    let found = list_any_member (λ (s : ℕ × ℕ). s.0 == n && s.1 == m) g.steps h in
    let parts = and_parts (found.0.0 == n) (found.0.1 == m) found.2 in
    let from : found.0.0 ≡ n = eqb-true _ _ parts.0 in
    let to : found.0.1 ≡ m = eqb-true _ _ parts.1 in
    let same : found.0 ≡ (n, m) = λ i. (from i, to i) in
    subst (IsIn g.steps) same found.1

pub in_step : (g : PlainGraph) (n m : ℕ) → IsIn g.steps (n, m) → has_step g n m ≡ true
in_step g n m at = list_any-from_IsIn (λ (s : ℕ × ℕ). s.0 == n && s.1 == m) g.steps (n, m) at (and_from _ _ (eq-eqb n n refl) (eq-eqb m m refl))

-- ---- to nodes

pub start_node : (g : PlainGraph) (n : ℕ) → IsGraph g → is_start g n ≡ true → n < length g.nodes
start_node g n rules h = AllByRecursion-IsIn (λ k. k < length g.nodes) g.starts n rules.starts (start_in g n h)

-- a step of a graph is between nodes, by its place
abbrev IsBetween : PlainGraph → ℕ × ℕ → Type 0
IsBetween g s = (s.0 < length g.nodes) × (s.1 < length g.nodes)

pub step_ends : (g : PlainGraph) (steps : List (ℕ × ℕ)) (i : ℕ) → IsGraph g → steps ≡ g.steps → i < length steps
    → ((get_or steps i (0, 0)).0 < length g.nodes) × ((get_or steps i (0, 0)).1 < length g.nodes)
step_ends g steps i is same within =
    AllByRecursion_at (IsBetween g) steps i (get_or steps i (0, 0)) (subst (AllByRecursion (IsBetween g)) (sym same) is.steps) (slice_get-get_or steps i (0, 0) within)

pub step_nodes : (g : PlainGraph) (m n : ℕ) → IsGraph g → has_step g m n ≡ true → (m < length g.nodes) × (n < length g.nodes)
step_nodes g m n rules h = AllByRecursion-IsIn (λ (s : ℕ × ℕ). (s.0 < length g.nodes) × (s.1 < length g.nodes)) g.steps (m, n) rules.steps (step_in g m n h)

-- ---- by locations

pub start_at-is : (g : PlainGraph) (l s : ℕ) → start_at g l ≡ Some s → (is_start g s ≡ true) × (place_of g s ≡ l)
start_at-is g l s h =
    let found = find_parts (λ n. place_of g n == l) g.starts s h in
    (in_start g s (found.0, found.1), eqb-true (place_of g s) l found.2)

pub step_at-is : (g : PlainGraph) (n l m : ℕ) → step_at g n l ≡ Some m → (has_step g n m ≡ true) × (place_of g m ≡ l)
step_at-is g n l m h =
    let o = option_map_parts (λ (s : ℕ × ℕ). s.1) (find (λ (s : ℕ × ℕ). s.0 == n && place_of g s.1 == l) g.steps) m h in
    let found = find_parts (λ (s : ℕ × ℕ). s.0 == n && place_of g s.1 == l) g.steps o.0 o.1 in
    let parts = and_parts (o.0.0 == n) (place_of g o.0.1 == l) found.2 in
    let from : o.0.0 ≡ n = eqb-true o.0.0 n parts.0 in (
      in_step g n m (subst (λ (s : ℕ × ℕ). IsIn g.steps s) (λ i. (from i, o.2 i)) (found.0, found.1)),
      ap (place_of g) (sym o.2) ∙ eqb-true (place_of g o.0.1) l parts.1,
    )
