-- What the table of first nodes says of the sources.
use Rattle.std.proofs.Common.{◌≡◌, ℕ, ◌<◌, true, List, length, Some, None, arith, sym, ap, subst, ◌∙◌, inl, inr}
use Rattle.std.specs.Prelude.{◌&&◌, ◌==◌, not, is_some, is_none}
use Rattle.std.proofs.lemmas.Bool.{and_parts, and_from, eqb-true, eq-eqb, lt-ltb, ltb-true, true≢false}
use Rattle.list_law.proofs.Options.{cases_Option, is_none_from, is_none_parts}
use Rattle.net_base.specs.declared.net.Site.{Site}
use Rattle.net_base.specs.Network.{PlainNet, IsNet, is_router}
use Rattle.net_base.specs.Sets.{holds}
use Rattle.policy_base.specs.declared.case.Case.{Case}
use Rattle.policy_base.specs.CaseNumbers.{FitsOrigins}
use Rattle.policy_base.specs.Policies.{PlainStatement}
use Rattle.policy_base.specs.Permitted.{from_holds}
use Rattle.graph_base.specs.Graphs.{PlainGraph, IsGraph}
use Rattle.graph_base.specs.Runs.{place_of, rank_at}
use Rattle.graph_base.specs.Walks.{IsShownWalk}
use Rattle.graph_base.proofs.ShownWalks.{shown_walk_run}
use Rattle.evidence_law.specs.Faithful.{IsFaithful, may_start}
use Rattle.case_core.specs.declared.firsts.Firsts.{Firsts}
use Rattle.case_core.specs.declared.sources.Mixed.{Mixed}
use Rattle.graph_base.specs.Least.{least_below}
use Rattle.case_core.specs.Firsts.{AreFirsts, has_both, is_ranked_at, is_unranked_at, lacks_path, row}
use Rattle.case_core.specs.Mixed.{IsFirstMixed}
use Rattle.graph_base.specs.Ranked.{IsRankedAt, IsUnrankedAt}
use Rattle.case_core.specs.Refusals.{IsMade, ShowsMixed}
use Rattle.case_core.specs.Sources.{HasPath, HavePaths, IsLeast, IsMixed, IsNamedSource, IsUnranked, IsWithoutPath, names}
use Rattle.case_core.proofs.Given.{made_is_faithful}
use Rattle.case_core.proofs.Least.{is_found, least_none}
use Rattle.graph_law.proofs.Claimed.{ranked_permits, run_from, claimed_where_ranked}
use Rattle.case_core.proofs.Walks.{named_from, unranked_node, unranked_walk}

-- the table is that of the first nodes of a faithful graph
pub record IsTableOf (net : PlainNet) (s : PlainStatement) (c : Case) (g : PlainGraph) (table : List Firsts) : Type 0 where
  pub graph_rules : IsGraph g
  pub faithful : IsFaithful net s (holds c.origins) c.external g
  pub are : AreFirsts (length net.routers) g (length g.nodes) table

-- a graph that is made of a case is faithful
pub made_table : {net : PlainNet} {s : PlainStatement} {c : Case} {g : PlainGraph} {routers : List Site} {table : List Firsts} → IsNet net → FitsOrigins net c → IsGraph g
    → ((room : ℕ) × (built : PlainGraph) × IsMade net room s c built g) → routers ≡ net.routers → AreFirsts (length routers) g (length g.nodes) table → IsTableOf net s c g table
made_table {net} {s} {c} {g} {routers} {table} rules origins graph made same are = record {
  graph_rules = graph;
  faithful = made_is_faithful net made.0 s c made.1 g rules origins made.2;
  are = subst (λ n. AreFirsts n g (length g.nodes) table) (ap length same) are;
}

module _ {net : PlainNet} {s : PlainStatement} {c : Case} {g : PlainGraph} {table : List Firsts} (of : IsTableOf net s c g table) where
  router_row : (r : ℕ) → is_router net r ≡ true → r < length table
  router_row r h = omega (arith, ltb-true r (length net.routers) h, of.are.size)

  row_router : (r : ℕ) → r < length table → r < length net.routers
  row_router r h = omega (arith, h, of.are.size)

  -- the nodes of a row are the first ones
  ranked_row : (r n : ℕ) → r < length table → (row table r).ranked ≡ Some n → IsLeast (IsRankedAt g r) n
  ranked_row r n lt h =
      let found = is_found (length g.nodes) (is_ranked_at g r) n (ap (λ (f : Firsts). f.ranked) (sym (of.are.rows r (row_router r lt))) ∙ h) in
      let parts = and_parts (place_of g n == r) (is_some (rank_at g n)) found.passes in
      ((found.below, eqb-true _ _ parts.0, parts.1), λ k at. found.least k (and_from (place_of g k == r) (is_some (rank_at g k)) (eq-eqb _ _ at.1) at.2))

  unranked_row : (r n : ℕ) → r < length table → (row table r).unranked ≡ Some n → IsLeast (IsUnrankedAt g r) n
  unranked_row r n lt h =
      let found = is_found (length g.nodes) (is_unranked_at g r) n (ap (λ (f : Firsts). f.unranked) (sym (of.are.rows r (row_router r lt))) ∙ h) in
      let parts = and_parts (place_of g n == r) (is_none (rank_at g n)) found.passes in
      ((found.below, eqb-true _ _ parts.0, is_none_parts _ parts.1), λ k at. found.least k (and_from (place_of g k == r) (is_none (rank_at g k)) (eq-eqb _ _ at.1) (is_none_from _ at.2)))

  -- where there is a node, the row has one
  no_ranked_row : (r n : ℕ) → r < length table → IsRankedAt g r n → (row table r).ranked ≡ None → ⊥
  no_ranked_row r n lt at none =
      let no = least_none (length g.nodes) (is_ranked_at g r) (ap (λ (f : Firsts). f.ranked) (sym (of.are.rows r (row_router r lt))) ∙ none) n at.0 in
      true≢false (sym (and_from (place_of g n == r) (is_some (rank_at g n)) (eq-eqb _ _ at.1) at.2) ∙ no)

  no_unranked_row : (r n : ℕ) → r < length table → IsUnrankedAt g r n → (row table r).unranked ≡ None → ⊥
  no_unranked_row r n lt at none =
      let no = least_none (length g.nodes) (is_unranked_at g r) (ap (λ (f : Firsts). f.unranked) (sym (of.are.rows r (row_router r lt))) ∙ none) n at.0 in
      true≢false (sym (and_from (place_of g n == r) (is_none (rank_at g n)) (eq-eqb _ _ at.1) (is_none_from _ at.2)) ∙ no)

  -- ---- sources without a path

  source_may : (r : ℕ) → IsNamedSource net s c r → may_start (holds c.origins) s r ≡ true
  source_may r source = and_from (from_holds s.from r) (not (holds c.origins r)) (named_from s.from r source.named) source.no_origin

  has_path : (r n : ℕ) → is_router net r ≡ true → r < length table → (row table r).ranked ≡ Some n → HasPath net s c r
  has_path r n router lt h = ((claimed_where_ranked net s c g of.graph_rules of.faithful r).0 (router, (n, (ranked_row r n lt h).0))).starts

  lacking : (r : ℕ) → r < length table → lacks_path s.from c.origins table r ≡ true → IsWithoutPath net s c r
  lacking r lt h =
      let parts = and_parts (names s.from r && not (holds c.origins r)) (is_none (row table r).ranked) h in
      let source = and_parts (names s.from r) (not (holds c.origins r)) parts.0 in
      let named : IsNamedSource net s c r = record { at_router = lt-ltb r (length net.routers) (row_router r lt); named = source.0; no_origin = source.1 } in (
        named,
        λ path.
            let node = ((claimed_where_ranked net s c g of.graph_rules of.faithful r).1 (record { at_router = named.at_router; may = source_may r named; starts = path })).1 in
            no_ranked_row r node.0 lt node.1 (is_none_parts _ parts.1),
      )

  lacks : (r : ℕ) → IsWithoutPath net s c r → lacks_path s.from c.origins table r ≡ true
  lacks r without =
      let source = without.0 in
      let lt = router_row r source.at_router in
      let no_node : is_none (row table r).ranked ≡ true = elim (cases_Option (row table r).ranked) [
        | inr n ↦ absurd (without.1 (has_path r n.0 source.at_router lt n.1))
        | inl none ↦ is_none_from _ none
      ] in
      and_from (names s.from r && not (holds c.origins r)) (is_none (row table r).ranked) (and_from (names s.from r) (not (holds c.origins r)) source.named source.no_origin) no_node

  pub least_without_path : (r : ℕ) → least_below (length table) (lacks_path s.from c.origins table) ≡ Some r → IsLeast (IsWithoutPath net s c) r
  least_without_path r h =
      let found = is_found (length table) (lacks_path s.from c.origins table) r h in
      (lacking r found.below found.passes, λ k without. found.least k (lacks k without))

  pub all_have_paths : least_below (length table) (lacks_path s.from c.origins table) ≡ None → HavePaths net s c
  all_have_paths h = λ r source.
      let lt = router_row r source.at_router in
      elim (cases_Option (row table r).ranked) [
        | inr n ↦ has_path r n.0 source.at_router lt n.1
        | inl none ↦
            let yes = and_from (names s.from r && not (holds c.origins r)) (is_none (row table r).ranked)
            (and_from (names s.from r) (not (holds c.origins r)) source.named source.no_origin) (is_none_from _ none) in
            absurd (true≢false (sym yes ∙ least_none (length table) (lacks_path s.from c.origins table) h r lt))
      ]

  -- ---- sources with a rank and without one

  mixed_row : (r : ℕ) → IsMixed net s c r → (r < length table) × (has_both table r ≡ true)
  mixed_row r mixed =
      let claimed = mixed.0 in
      let lt = router_row r claimed.at_router in
      let ranked = ((claimed_where_ranked net s c g of.graph_rules of.faithful r).1 claimed).1 in
      let unranked = unranked_node net s c g of.graph_rules of.faithful r mixed.1.0 claimed.may mixed.1.1 in
      let some : is_some (row table r).ranked ≡ true = elim (cases_Option (row table r).ranked) [
        | inr n ↦ ap is_some n.1
        | inl none ↦ absurd (no_ranked_row r ranked.0 lt ranked.1 none)
      ] in
      let other : is_some (row table r).unranked ≡ true = elim (cases_Option (row table r).unranked) [
        | inr n ↦ ap is_some n.1
        | inl none ↦ absurd (no_unranked_row r unranked.0 lt unranked.1 none)
      ] in
      (lt, and_from (is_some (row table r).ranked) (is_some (row table r).unranked) some other)

  pub none_mixed : least_below (length table) (has_both table) ≡ None → (r : ℕ) → IsMixed net s c r → ⊥
  none_mixed h r mixed =
      let both = mixed_row r mixed in
      true≢false (sym both.1 ∙ least_none (length table) (has_both table) h r both.0)

  pub first_shows : (m : Mixed) (with without : List ℕ) → IsFirstMixed table m → IsShownWalk g m.ranked with → IsShownWalk g m.unranked without → ShowsMixed net s c g m.router with without
  first_shows m with without first shown other =
      let r = m.router in
      let found = is_found (length table) (has_both table) r first.0 in
      let router = lt-ltb r (length net.routers) (row_router r found.below) in
      let ranked = ranked_row r m.ranked found.below first.1.1 in
      let unranked = unranked_row r m.unranked found.below first.1.2 in
      let claimed = (claimed_where_ranked net s c g of.graph_rules of.faithful r).0 (router, (m.ranked, ranked.0)) in
      let run = shown_walk_run net (holds c.origins) c.external g m.ranked with of.faithful.formed shown in
      let other_run = shown_walk_run net (holds c.origins) c.external g m.unranked without of.faithful.formed other in
      let starts = run_from net s c g of.graph_rules of.faithful r m.ranked with ranked.0.1 claimed.may run in
      let other_starts = run_from net s c g of.graph_rules of.faithful r m.unranked without unranked.0.1 claimed.may other_run in
      let suffix = unranked_walk net s c g of.graph_rules of.faithful r m.unranked without unranked.0.1 claimed.may other_run unranked.0.2 in
      record {
        first = ((claimed, (other_starts.0, subst (IsUnranked net s c) other_starts.1 suffix)), λ k mixed. found.least k (mixed_row k mixed).1);
        with_starts = (starts.0, starts.1);
        with_permitted = ranked_permits net s c g of.graph_rules of.faithful r m.ranked with ranked.0.1 claimed.may run ranked.0.2;
        with_least = (m.ranked, ranked, shown);
        without_starts = (other_starts.0, other_starts.1);
        without_unranked = suffix;
        without_least = (m.unranked, unranked, other);
      }

  -- the nodes of such a row are nodes
  pub mixed_nodes : (m : Mixed) → IsFirstMixed table m → (m.ranked < length g.nodes) × (m.unranked < length g.nodes)
  mixed_nodes m first =
      let lt = (is_found (length table) (has_both table) m.router first.0).below in
      ((ranked_row m.router m.ranked lt first.1.1).0.0, (unranked_row m.router m.unranked lt first.1.2).0.0)
