-- The nodes of a graph that are kept, one after another.
use Rattle.std.proofs.Common.{◌≡◌, ℕ, ◌+◌, ◌<◌, ◌≤◌, Bool, true, false, ◌&&◌, ◌||◌, eqb, ltb, List, [], ◌∷◌, ◌++◌, length, drop, get_or, None, refl, sym, ap, ◌∙◌, inl, inr}
use Rattle.std.proofs.Common.{arith, zero, suc, append_assoc, All}
use Rattle.std.proofs.lemmas.Bool.{cases_Bool, cases_order, cond-true, cond-false, lt-ltb, le-ltb, eq-eqb, ne_eqb, cases_lt, both_ways}
use Rattle.std.proofs.lemmas.List.{drop_more}
use Rattle.std.proofs.lemmas.List.Folds.{list_any-append, list_any_at}
use Rattle.std.specs.List.{slice_get}
use Rattle.std.specs.Option.{is_some, option_and_then}
use Rattle.std.proofs.lemmas.Option.{slice_get-get_or, slice_get_past}
use Rattle.std.proofs.Math.Bool.{or-false}
use Rattle.graph_base.specs.Graphs.{PlainGraph}
use Rattle.graph_base.specs.Runs.{rank_at}
use Rattle.graph_base.specs.declared.graph.Node.{Node}
use Rattle.reach_prune.specs.Searches.{is_among}
use Rattle.list_law.specs.Counts.{kept_below}
use Rattle.reach_prune.specs.Trimmed.{nodes_kept}

pub kept_below_le : (keep : ℕ → Bool) (n : ℕ) → kept_below keep n ≤ n
kept_below_le keep zero = omega arith
kept_below_le keep (suc n) = elim (cases_Bool (keep n)) [
  | inl kept ↦ rw kept (omega (arith, kept_below_le keep n))
  | inr left ↦ rw left (omega (arith, kept_below_le keep n))
]

pub ranked_yes : (ranked : List ℕ) (test : ℕ → Bool) (i n : ℕ) → is_among ranked n ≡ (ltb n i && test n) → test i ≡ true → is_among (ranked ++ i ∷ []) n ≡ (ltb n (i + 1) && test n)
ranked_yes ranked test i n before here = list_any-append (λ x. eqb x n) ranked (i ∷ []) ∙ ap (λ x. x || (eqb i n || false)) before ∙ elim (cases_order n i) [
  | inl same ↦ rw (same, le-ltb i i (omega arith), eq-eqb i i refl, lt-ltb i (i + 1) (omega arith), here) refl
  | inr other ↦ elim other [
    | inl less ↦ rw (lt-ltb n i less, ne_eqb i n (λ e. omega arith), lt-ltb n (i + 1) (omega arith)) (or-false (test n))
    | inr more ↦ rw (le-ltb n i (omega arith), ne_eqb i n (λ e. omega arith), le-ltb n (i + 1) (omega arith)) refl
  ]
]

pub ranked_no : (ranked : List ℕ) (test : ℕ → Bool) (i n : ℕ) → is_among ranked n ≡ (ltb n i && test n) → test i ≡ false → is_among ranked n ≡ (ltb n (i + 1) && test n)
ranked_no ranked test i n before here = before ∙ elim (cases_order n i) [
  | inl same ↦ rw (same, le-ltb i i (omega arith), lt-ltb i (i + 1) (omega arith), here) refl
  | inr other ↦ elim other [
    | inl less ↦ rw (lt-ltb n i less, lt-ltb n (i + 1) (omega arith)) refl
    | inr more ↦ rw (le-ltb n i (omega arith), le-ltb n (i + 1) (omega arith)) refl
  ]
]

pub nodes_yes : (keep : ℕ → Bool) (i : ℕ) (node : Node) (list nodes all : List Node) → i < length nodes → node ≡ get_or nodes i node → keep i ≡ true → list ++ nodes_kept keep i (drop i nodes) ≡ all →
    (list ++ node ∷ []) ++ nodes_kept keep (i + 1) (drop (i + 1) nodes) ≡ all
nodes_yes keep i node list nodes all lt read kept before =
    append_assoc list (node ∷ []) _
    ∙ ap (λ rest. list ++ rest) (sym (ap (nodes_kept keep i) (drop_more nodes i node lt) ∙ cond-true (keep i) _ _ kept
    ∙ ap (λ x. x ∷ nodes_kept keep (i + 1) (drop (i + 1) nodes)) (sym read))) ∙ before

pub nodes_no : (keep : ℕ → Bool) (i : ℕ) (list nodes all : List Node) → i < length nodes → keep i ≡ false
    → list ++ nodes_kept keep i (drop i nodes) ≡ all → list ++ nodes_kept keep (i + 1) (drop (i + 1) nodes) ≡ all
nodes_no keep i list nodes all lt left before =
    ap (λ rest. list ++ rest) (sym (ap (nodes_kept keep i) (drop_more nodes i (record { loc = 0; listener = false; rank = None }) lt) ∙ cond-false (keep i) _ _ left)) ∙ before

pub rank_read : (g : PlainGraph) (nodes : List Node) (i : ℕ) (node : Node) → nodes ≡ g.nodes → i < length nodes → node ≡ get_or nodes i node → rank_at g i ≡ node.rank
rank_read g nodes i node same lt read =
    ap (λ (list : List Node). option_and_then (λ (node : Node). node.rank) (slice_get list i)) (sym same)
    ∙ ap (option_and_then (λ (node : Node). node.rank)) (slice_get-get_or nodes i node lt) ∙ ap (λ (node : Node). node.rank) (sym read)

-- what has a rank is a node
pub rank_past : (g : PlainGraph) (n : ℕ) → length g.nodes ≤ n → rank_at g n ≡ None
rank_past g n past = ap (option_and_then (λ (node : Node). node.rank)) (slice_get_past g.nodes n past)

pub ranked_all : (g : PlainGraph) (i n : ℕ) → length g.nodes ≤ i → (ltb n i && is_some (rank_at g n)) ≡ is_some (rank_at g n)
ranked_all g i n done = elim (cases_lt n i) [
  | inl lt ↦ rw (lt-ltb n i lt) refl
  | inr past ↦ rw (le-ltb n i past, rank_past g n (omega arith)) refl
]

pub ranked_nodes : (g : PlainGraph) (ranked : List ℕ) → ((n : ℕ) → is_among ranked n ≡ is_some (rank_at g n)) → All (λ n. n < length g.nodes) ranked
ranked_nodes g ranked same i d lt = elim (cases_lt (get_or ranked i d) (length g.nodes)) [
  | inl inside ↦ inside
  | inr past ↦ absurd (both_ways _ (ap is_some (rank_past g _ past)) (sym (same (get_or ranked i d)) ∙ list_any_at (λ x. eqb x (get_or ranked i d)) ranked i d lt (eq-eqb _ _ refl)))
]
