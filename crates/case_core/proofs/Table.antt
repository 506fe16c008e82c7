-- The table of first nodes, node by node.
use Rattle.std.proofs.Common.{◌≡◌, ℕ, suc, ◌+◌, ◌<◌, ◌≤◌, true, false, eqb, List, length, get_or, set, Option, Some, None, refl, arith, sym, ap, ap₂, subst, ◌∙◌, inl, inr}
use Rattle.std.specs.Option.{is_some, is_none}
use Rattle.std.proofs.lemmas.Bool.{and_from, cases_eq, eq-eqb, ne_eqb, true≢false}
use Rattle.std.proofs.lemmas.List.{get_or_read, get_or-set_other, length-set}
use Rattle.std.proofs.lemmas.Grind.{get_or-set_at}
use Rattle.net_base.specs.declared.loc.LocSet.{LocSet}
use Rattle.net_base.specs.Sets.{holds}
use Rattle.policy_base.specs.declared.policy.FromSet.{FromSet}
use Rattle.graph_base.specs.declared.graph.Node.{Node}
use Rattle.graph_base.specs.Graphs.{PlainGraph}
use Rattle.graph_base.specs.Runs.{place_of, rank_at}
use Rattle.graph_base.proofs.NodesRead.{node_read}
use Rattle.case_core.specs.declared.firsts.Firsts.{Firsts}
use Rattle.case_core.specs.declared.sources.Mixed.{Mixed}
use Rattle.case_core.specs.Mixed.{IsFirstMixed, IsMixedRow}
use Rattle.case_core.specs.Sources.{names}
use Rattle.case_core.proofs.Least.{least_found}
use Rattle.graph_base.specs.Least.{least_below, or_else}
use Rattle.case_core.specs.Firsts.{AreFirsts, firsts_below, has_both, lacks_path, is_ranked_at, is_unranked_at, no_firsts, row}

-- a row with one more node
abbrev pub row_with : Firsts → Node → ℕ → Firsts
row_with firsts node n = record { ranked = or_else firsts.ranked (is_some node.rank) n; unranked = or_else firsts.unranked (is_none node.rank) n }

or_else-no : (o : Option ℕ) (n : ℕ) → or_else o false n ≡ o
or_else-no None n = refl
or_else-no (Some m) n = refl

firsts_is : (a b : Firsts) → a.ranked ≡ b.ranked → a.unranked ≡ b.unranked → a ≡ b
firsts_is a b ranked unranked = λ i. record { ranked = ranked i; unranked = unranked i }

-- the row of the node's own location
own_row : (g : PlainGraph) (n : ℕ) (node : Node) → place_of g n ≡ node.loc → rank_at g n ≡ node.rank → (r : ℕ) → r ≡ node.loc → row_with (firsts_below g n r) node n ≡ firsts_below g (suc n) r
own_row g n node place rank r here =
    let at : eqb (place_of g n) r ≡ true = eq-eqb _ _ (place ∙ sym here) in
    firsts_is (row_with (firsts_below g n r) node n) (firsts_below g (suc n) r)
    (rw (at, rank) refl)
    (rw (at, rank) refl)

-- and of another one
other_row : (g : PlainGraph) (n : ℕ) (node : Node) → place_of g n ≡ node.loc → (r : ℕ) → (r ≡ node.loc → ⊥) → firsts_below g n r ≡ firsts_below g (suc n) r
other_row g n node place r apart =
    let at : eqb (place_of g n) r ≡ false = ne_eqb _ _ (λ e. apart (sym e ∙ place)) in
    firsts_is (firsts_below g n r) (firsts_below g (suc n) r)
    (rw at (sym (or_else-no (least_below n (is_ranked_at g r)) n)))
    (rw at (sym (or_else-no (least_below n (is_unranked_at g r)) n)))

row_set : (routers : ℕ) (g : PlainGraph) (n : ℕ) (table : List Firsts) (node : Node) (old : Firsts) → AreFirsts routers g n table → place_of g n ≡ node.loc → rank_at g n ≡ node.rank →
    node.loc < length table → old ≡ row table node.loc → AreFirsts routers g (suc n) (set table node.loc (row_with old node n))
row_set routers g n table node old are place rank inside read = record {
  size = length-set table node.loc (row_with old node n) ∙ are.size;
  rows = λ r lt. elim (cases_eq r node.loc) [
    | inl here ↦
        get_or-set_at table node.loc r (row_with old node n) no_firsts here inside
        ∙ ap (λ f. row_with f node n) (read ∙ ap (row table) (sym here) ∙ are.rows r lt)
        ∙ own_row g n node place rank r here
    | inr apart ↦ get_or-set_other table node.loc r (row_with old node n) no_firsts apart ∙ are.rows r lt ∙ other_row g n node place r apart
  ];
}

-- a node at a peer changes no row
row_kept : (routers : ℕ) (g : PlainGraph) (n : ℕ) (table : List Firsts) (node : Node) → AreFirsts routers g n table → place_of g n ≡ node.loc
    → length table ≤ node.loc → AreFirsts routers g (suc n) table
row_kept routers g n table node are place past = record {
  size = are.size;
  rows = λ r lt. are.rows r lt ∙ other_row g n node place r (λ same. absurd (omega (arith, same, past, lt, are.size)));
}

-- one turn of the loop, for a node at a router
pub row_next : (routers : ℕ) (g : PlainGraph) (nodes : List Node) (i place : ℕ) (node : Node) (old new : Firsts) (table after : List Firsts)
    → AreFirsts routers g i table → nodes ≡ g.nodes → i < length nodes → node ≡ get_or nodes i node →
    place ≡ node.loc → place < length table → old ≡ get_or table place old → new ≡ row_with old node i → after ≡ set table place new → AreFirsts routers g (i + 1) after
row_next routers g nodes i place node old new table after are same lt read at inside before row_is after_is =
    let place_rank = node_read g nodes i node same lt read in
    let here : old ≡ row table node.loc = get_or_read table place old inside before no_firsts ∙ ap (row table) at in
    let whole : set table node.loc (row_with old node i) ≡ after = sym (after_is ∙ ap₂ (set table) at row_is) in
    let next : suc i ≡ i + 1 = omega arith in
    subst (λ n. AreFirsts routers g n after) next
    (subst (AreFirsts routers g (suc i)) whole (row_set routers g i table node old are place_rank.0 place_rank.1 (omega (arith, inside, at)) here))

-- and at a peer
pub row_same : (routers : ℕ) (g : PlainGraph) (nodes : List Node) (i place : ℕ) (node : Node) (table after : List Firsts)
    → AreFirsts routers g i table → nodes ≡ g.nodes → i < length nodes → node ≡ get_or nodes i node →
    place ≡ node.loc → length table ≤ place → after ≡ table → AreFirsts routers g (i + 1) after
row_same routers g nodes i place node table after are same lt read at past after_is =
    let place_rank = node_read g nodes i node same lt read in
    let next : suc i ≡ i + 1 = omega arith in
    subst (λ n. AreFirsts routers g n after) next (subst (AreFirsts routers g (suc i)) (sym after_is) (row_kept routers g i table node are place_rank.0 (omega (arith, past, at))))

-- ---- what is found in it

pub lacks_here : (from : FromSet) (origins : LocSet) (table : List Firsts) (i : ℕ) → names from i ≡ true → holds origins i ≡ false
    → is_some (row table i).ranked ≡ false → lacks_path from origins table i ≡ true
lacks_here from origins table i named outside none = rw (named, outside) (none_here (row table i).ranked none)
  where
    none_here : (o : Option ℕ) → is_some o ≡ false → is_none o ≡ true
    none_here None h = refl
    none_here (Some n) h = absurd (true≢false h)

pub mixed_found : (table : List Firsts) (i : ℕ) (m : Mixed) → least_below i (has_both table) ≡ None → i < length table → IsMixedRow i (row table i) m → IsFirstMixed table m
mixed_found table i m before inside is =
    let both : has_both table i ≡ true = and_from (is_some (row table i).ranked) (is_some (row table i).unranked) (ap is_some is.1) (ap is_some is.2) in
    let here : row table m.router ≡ row table i = ap (row table) is.0 in
    (least_found (length table) (has_both table) i before both inside ∙ ap Some (sym is.0), (refl, ap (λ (f : Firsts). f.ranked) here ∙ is.1, ap (λ (f : Firsts). f.unranked) here ∙ is.2))
