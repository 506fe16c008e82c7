-- Nodes of rows are nodes of the graph, and the rows of a kind are rows of each of its places.
use Rattle.std.proofs.Common.{◌≡◌, ◌<◌, false, List, [], filter, length, sym, ap, ◌∙◌, subst, arith, inl, inr, Some}
use Rattle.std.specs.Prelude.{IsTrue}
use Rattle.std.specs.List.{find, flat_map}
use Rattle.std.proofs.lemmas.Bool.{cases_Bool}
use Rattle.std.proofs.lemmas.Option.{slice_get_within}
use Rattle.list_law.specs.Members.{IsIn}
use Rattle.list_law.proofs.Members.{IsIn-append_cases, IsIn-filter_parts, IsIn-flat_map_parts, IsIn-map_parts}
use Rattle.list_law.proofs.Options.{option_map_parts}
use Rattle.list_law.proofs.Tests.{find_from, find_parts}
use Rattle.net_base.specs.Network.{PlainNet}
use Rattle.graph_base.specs.Graphs.{PlainGraph}
use Rattle.pair_graph.specs.declared.pair.NodePair.{NodePair}
use Rattle.compare_base.specs.declared.rows.Kind.{Kind}
use Rattle.compare_base.specs.declared.rows.Place.{Place}
use Rattle.compare_base.specs.declared.rows.Row.{Row}
use Rattle.compare_base.specs.declared.rows.Words.{Words}
use Rattle.compare_base.specs.Same.{same_row}
use Rattle.pair_rows.specs.declared.values.FirstRow.{FirstRow}
use Rattle.pair_rows.specs.Meetings.{AreFirst, all_mets, is_at, mets_at, node_mets, rows_alone, step_mets}
use Rattle.pair_rows.proofs.RowsMet.{node_met_parts, step_met_parts}
use Rattle.place_rows.proofs.Order.{row_is, row_same}
use Rattle.place_rows.specs.Told.{is_told}
use Rattle.row_words.specs.WordsOfRows.{is_shown, shown_rows, words_of}
use Rattle.pair_changes.specs.declared.ways.Way.{Way}
use Rattle.pair_changes.specs.Kinds.{AreKinds, differs_so, way_by}
use Rattle.pair_changes.proofs.KindTests.{of_parts, so_parts}

pub nodes_within : (g h both : PlainGraph) (pairs : List NodePair) (firsts : List FirstRow) (place : Place) (x : FirstRow) → length pairs ≡ length both.nodes
    → AreFirst (mets_at (all_mets g h pairs both) place) firsts → IsIn firsts x → x.node < length both.nodes
nodes_within g h both pairs firsts place x size met at =
    let found = met.sound x at in
    let among = (IsIn-filter_parts (is_at place) (all_mets g h pairs both) found.0 found.1).0 in
    elim (IsIn-append_cases (node_mets g h pairs 0) (flat_map (step_mets g h pairs) both.steps) found.0 among) [
      | inl t ↦
          let node = node_met_parts g h pairs 0 found.0 t in
          omega (arith, slice_get_within pairs node.at node.pair node.is, node.node, found.3, size)
      | inr t ↦
          let some = IsIn-flat_map_parts (step_mets g h pairs) both.steps found.0 t in
          let step = step_met_parts g h pairs some.0 found.0 some.2 in
          omega (arith, slice_get_within pairs some.0.0 step.from step.at_from, step.node, found.3, size)
    ]

-- so they are where a place that isn't told has no rows
pub nodes_within_any : (net : PlainNet) (g h both : PlainGraph) (pairs : List NodePair) (firsts : List FirstRow) (place : Place) (x : FirstRow) → length pairs ≡ length both.nodes
    → (IsTrue (is_told net place.router place.peer) → AreFirst (mets_at (all_mets g h pairs both) place) firsts) → (is_told net place.router place.peer ≡ false → firsts ≡ [])
    → IsIn firsts x → x.node < length both.nodes
nodes_within_any net g h both pairs firsts place x size met none at = elim (cases_Bool (is_told net place.router place.peer)) [
  | inl t ↦ nodes_within g h both pairs firsts place x size (met t) at
  | inr t ↦ absurd (nothing (subst (λ (xs : List FirstRow). IsIn xs x) (none t) at))
]
  where
    nothing : IsIn [] x → ⊥
    nothing (i, here) = cc

module _ (firsts : Place → List FirstRow) (places : List Place) (bare : List Kind) (grouped : AreKinds (λ q. way_by (rows_alone (firsts q))) places bare) where
  pub some_place : (kind : Kind) → IsIn bare kind → 0 < length kind.places
  some_place kind at = let first = grouped.some kind at in slice_get_within kind.places 0 first.0 first.1

  pub rows_known : (kind : Kind) (place : Place) (row : Row) → IsIn bare kind → IsIn kind.places place → IsIn kind.rows row → (x : FirstRow) × IsIn (firsts place) x × (x.row ≡ row)
  rows_known kind place row at there among =
      let all = rows_alone (firsts place) in
      let in_filter : IsIn (filter (λ q. differs_so kind (way_by (rows_alone (firsts q)))) places) place = subst (λ (ps : List Place). IsIn ps place) (grouped.each kind at) there in
      let w = so_parts kind (way_by all) (IsIn-filter_parts (λ q. differs_so kind (way_by (rows_alone (firsts q)))) places place in_filter).1 in
      let found = option_map_parts (λ (x : Words). record { words = x; rows = shown_rows all }) (words_of all) w.0 w.1 in
      let are : kind.rows ≡ shown_rows all = (of_parts w.0 kind w.2).1 ∙ ap (λ (v : Way). v.rows) (sym found.2) in
      IsIn-map_parts (λ (x : FirstRow). x.row) (firsts place) row (IsIn-filter_parts (is_shown all) all row (subst (λ (xs : List Row). IsIn xs row) are among)).0

-- a row is found among those of a place
pub row_found : (rows : List FirstRow) (row : Row) → (x : FirstRow) × IsIn rows x × (x.row ≡ row) → (y : FirstRow) × (find (λ (z : FirstRow). same_row z.row row) rows ≡ Some y)
row_found rows row x = find_from (λ (z : FirstRow). same_row z.row row) rows x.1.0 x.0 x.1.1 (row_same x.0.row row (ap (λ (r : Row). r.old) x.2) (ap (λ (r : Row). r.new) x.2))

pub found_row : (rows : List FirstRow) (row : Row) (y : FirstRow) → find (λ (z : FirstRow). same_row z.row row) rows ≡ Some y → IsIn rows y × (y.row ≡ row)
found_row rows row y is = let parts = find_parts (λ (z : FirstRow). same_row z.row row) rows y is in ((parts.0, parts.1), row_is y.row row parts.2)
