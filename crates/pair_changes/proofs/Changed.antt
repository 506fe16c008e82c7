-- What is found of a pair of cases is what changes for its prefixes.
use Rattle.std.proofs.Common.{◌≡◌, ℕ, ◌<◌, true, List, filter, sym, ap, ◌∙◌, subst, arith, None, Option, Some}
use Rattle.std.specs.Prelude.{◌&&◌, IsTrue, not, option_map, slice_get}
use Rattle.std.proofs.lemmas.Bool.{and_parts}
use Rattle.std.proofs.lemmas.Option.{slice_get_within}
use Rattle.list_law.specs.Members.{IsIn}
use Rattle.list_law.proofs.Items.{slice_get_inside}
use Rattle.list_law.proofs.Members.{IsIn-filter, IsIn-filter_parts}
use Rattle.list_law.proofs.Options.{option_map_parts}
use Rattle.net_base.specs.Network.{PlainNet, is_peer, is_router}
use Rattle.net_base.specs.Prefixes.{PlainPrefix}
use Rattle.policy_base.specs.Governing.{is_origin_by}
use Rattle.policy_base.specs.Policies.{PlainPolicy}
use Rattle.graph_base.specs.Graphs.{PlainGraph}
use Rattle.pair_graph.specs.declared.pair.NodePair.{NodePair}
use Rattle.compare_base.specs.declared.rows.Kind.{Kind}
use Rattle.compare_base.specs.declared.rows.Place.{Place}
use Rattle.compare_base.specs.declared.rows.Row.{Row}
use Rattle.compare_base.specs.declared.rows.Words.{Words}
use Rattle.compare_base.specs.declared.cases.CasePair.{CasePair}
use Rattle.compare_base.specs.Cases.{is_originated, is_place, pair_for}
use Rattle.compare_base.specs.Ranks.{IsFirstWalk}
use Rattle.pair_rows.specs.declared.values.FirstRow.{FirstRow}
use Rattle.pair_rows.specs.Meetings.{AreFirst, all_mets, mets_at, rows_alone}
use Rattle.pair_rows.specs.Rows.{AreCompared, AreRows, from_peer}
use Rattle.pair_rows.proofs.EarlierRows.{rows_are_one}
use Rattle.pair_rows.proofs.FirstWalks.{first_walks, rows_are}
use Rattle.place_rows.specs.Told.{is_told}
use Rattle.row_words.specs.WordsOfRows.{shown_rows, words_of}
use Rattle.pair_changes.specs.declared.ways.Way.{Way}
use Rattle.pair_changes.specs.Changes.{AreCarriers, AreFirstWalks, AreInOrder, ComesBefore, ComesFirst, Differs, IsExample, IsKind, IsPairChange, IsPlace}
use Rattle.pair_changes.specs.Kinds.{AreKinds, differs_so, way_by}
use Rattle.pair_changes.specs.Places.{ArePlaces}
use Rattle.pair_changes.specs.Walks.{AreAllShown, AreWalks, IsShown}
use Rattle.pair_changes.proofs.Examples.{example_by}
use Rattle.pair_changes.proofs.InOrder.{order_filter}
use Rattle.pair_changes.proofs.KindTests.{of_from, of_parts, so_parts}

-- a place of a pair is a router or a session to a peer
places_are_told : (net : PlainNet) (cases : CasePair) (r : ℕ) (peer : Option ℕ) → IsTrue (is_place net cases r peer) → IsTrue (is_told net r peer)
places_are_told net cases r None is = (and_parts (is_router net r) _ (and_parts (is_router net r && not (is_origin_by net cases.old.origins r)) _ is).0).0
places_are_told net cases r (Some q) is = (and_parts (is_originated cases && is_router net r) (is_peer net q) (and_parts (is_originated cases && is_router net r && is_peer net q) _ is).0).1

module _ (net : PlainNet) (old new : PlainPolicy) (p : PlainPrefix) where
  module _ (g h both : PlainGraph) (pairs : List NodePair) (are : AreCompared net old new p g h pairs both) (firsts : Place → List FirstRow)
      (met : (place : Place) → IsTrue (is_told net place.router place.peer) → AreFirst (mets_at (all_mets g h pairs both) place) (firsts place)) where
    abbrev way : Place → Option Way
    way q = way_by (rows_alone (firsts q))

    met_there : (place : Place) → IsPlace net old new p place → AreFirst (mets_at (all_mets g h pairs both) place) (firsts place)
    met_there place is = met place (places_are_told net (pair_for old new p) place.router place.peer is)

    rows_at : (place : Place) → IsPlace net old new p place → AreRows net old new p place (rows_alone (firsts place))
    rows_at place is = rows_are net old new p g h both pairs are place (firsts place) (met_there place is)

    -- ---- how a place differs

    way_of : (words : Words) (shown : List Row) (place : Place) → Differs net old new p words shown place → way place ≡ Some (record { words = words; rows = shown })
    way_of words shown place d =
        let same : d.rows ≡ rows_alone (firsts place) = rows_are_one net old new p place d.rows (rows_alone (firsts place)) d.are_rows (rows_at place d.is_place) in
        ap way_by (sym same) ∙ ap (option_map (λ (w : Words). record { words = w; rows = shown_rows d.rows })) d.in_words
        ∙ ap (λ (xs : List Row). Some (record { words = words; rows = xs })) (sym d.are_shown)

    differs_by : (place : Place) (w : Way) → IsPlace net old new p place → way place ≡ Some w → Differs net old new p w.words w.rows place
    differs_by place w is differs =
        let found = option_map_parts (λ (x : Words). record { words = x; rows = shown_rows (rows_alone (firsts place)) }) (words_of (rows_alone (firsts place))) w differs in
        record {
          is_place = is;
          rows = rows_alone (firsts place);
          are_rows = rows_at place is;
          in_words = found.1 ∙ ap (λ (v : Way). Some v.words) found.2;
          are_shown = ap (λ (v : Way). v.rows) (sym found.2);
        }

    module _ (places : List Place) (all : ArePlaces net (pair_for old new p) places) (bare kinds : List Kind) (grouped : AreKinds way places bare) (shown : AreAllShown both firsts bare kinds) where
      -- ---- a kind

      module _ (a b : Kind) (at : IsIn bare a) (is : IsShown both firsts a b) where
        differs_there : (place : Place) → IsIn b.places place → Differs net old new p b.words b.rows place
        differs_there place there =
            let among : IsIn (filter (λ q. differs_so a (way q)) places) place = subst (λ (ps : List Place). IsIn ps place) (is.places ∙ grouped.each a at) there in
            let parts = IsIn-filter_parts (λ q. differs_so a (way q)) places place among in
            let w = so_parts a (way place) parts.1 in
            let same = of_parts w.0 a w.2 in
            subst (λ (x : Words). Differs net old new p x b.rows place) (sym (is.words ∙ same.0))
            (subst (λ (xs : List Row). Differs net old new p w.0.words xs place) (sym (is.rows ∙ same.1)) (differs_by place w.0 ((all.those place).0 parts.0) w.1))

        there_differs : (place : Place) → Differs net old new p b.words b.rows place → IsIn b.places place
        there_differs place d =
            let on : differs_so a (way place) ≡ true =
            ap (differs_so a) (way_of b.words b.rows place d) ∙ of_from (record { words = b.words; rows = b.rows }) a (sym is.words) (sym is.rows) in
            subst (λ (ps : List Place). IsIn ps place) (sym (is.places ∙ grouped.each a at))
            (IsIn-filter (λ q. differs_so a (way q)) places place ((all.those place).1 d.is_place) on)

        is_there : (place : Place) → IsIn a.places place → IsPlace net old new p place
        is_there place at_a =
            let among : IsIn (filter (λ q. differs_so a (way q)) places) place = subst (λ (ps : List Place). IsIn ps place) (grouped.each a at) at_a in
            (all.those place).0 (IsIn-filter_parts (λ q. differs_so a (way q)) places place among).0

        walks_are : (place : Place) (walks : List (List ℕ)) → IsIn a.places place → AreWalks both (firsts place) place.peer a.rows walks → AreFirstWalks net old new p place a.rows walks
        walks_are place walks at_a found = record {
          count = found.count;
          each = λ i row walk at_row at_walk. (
              let x = found.each i row walk at_row at_walk in
              let first : IsFirstWalk net old new p place.router place.peer x.0.row (from_peer place.peer x.3.0) =
              first_walks net old new p g h both pairs are place (firsts place) (met_there place (is_there place at_a)) x.0 x.3.0 x.1 x.3.1 in
              subst (λ (w : List ℕ). IsFirstWalk net old new p place.router place.peer row w) (sym x.3.2)
              (subst (λ (y : Row). IsFirstWalk net old new p place.router place.peer y (from_peer place.peer x.3.0)) x.2 first));
        }

        is_kind : IsKind net old new p b
        is_kind = record {
          places = λ place. (differs_there place, there_differs place);
          order = subst AreInOrder (sym (is.places ∙ grouped.each a at)) (order_filter ComesFirst (λ q. differs_so a (way q)) places all.order);
          example =
              subst (λ (ps : List Place). IsExample (λ place. AreFirstWalks net old new p place b.rows) ps b.walks) (sym is.places)
              (subst (λ (xs : List Row). IsExample (λ place. AreFirstWalks net old new p place xs) a.places b.walks) (sym is.rows)
              (example_by (λ place. AreWalks both (firsts place) place.peer a.rows) (λ place. AreFirstWalks net old new p place a.rows) a.places b.walks walks_are is.example));
        }

      -- ---- all kinds

      bare_of : (i : ℕ) (b : Kind) → slice_get kinds i ≡ Some b → (a : Kind) × (slice_get bare i ≡ Some a)
      bare_of i b at = slice_get_inside bare i (omega (arith, slice_get_within kinds i b at, shown.count))

      each : (b : Kind) → IsIn kinds b → IsKind net old new p b
      each b at = let a = bare_of at.0 b at.1 in is_kind a.0 b (at.0, a.1) (shown.each at.0 a.0 b a.1 at.1)

      each_place : (words : Words) (rows : List Row) (place : Place) → Differs net old new p words rows place → (b : Kind) × IsIn kinds b × IsIn b.places place
      each_place words rows place d =
          let differs = way_of words rows place d in
          let a = grouped.all place (record { words = words; rows = rows }) ((all.those place).1 d.is_place) differs in
          let b = slice_get_inside kinds a.1.0 (omega (arith, slice_get_within bare a.1.0 a.0 a.1.1, shown.count)) in
          let is = shown.each a.1.0 a.0 b.0 a.1.1 b.1 in
          let same = of_parts (record { words = words; rows = rows }) a.0 a.2 in (
            b.0,
            (a.1.0, b.1),
            there_differs a.0 b.0 a.1 is place
                (subst (λ (x : Words). Differs net old new p x b.0.rows place) (sym (is.words ∙ same.0)) (subst (λ (xs : List Row). Differs net old new p words xs place) (sym (is.rows ∙ same.1)) d)),
          )

      order : (i j : ℕ) (a b : Kind) → i < j → slice_get kinds i ≡ Some a → slice_get kinds j ≡ Some b → ComesBefore a b
      order i j a b less at_a at_b x y first_a first_b =
          let c = bare_of i a at_a in
          let d = bare_of j b at_b in
          let is_a = shown.each i c.0 a c.1 at_a in
          let is_b = shown.each j d.0 b d.1 at_b in
          grouped.order i j c.0 d.0 less c.1 d.1 x y (ap (λ (ps : List Place). slice_get ps 0) (sym is_a.places) ∙ first_a) (ap (λ (ps : List Place). slice_get ps 0) (sym is_b.places) ∙ first_b)

      pub is_change : (lost gained : List ℕ) → AreCarriers net old new p old new lost → AreCarriers net old new p new old gained
          → IsPairChange net old new p (record { kinds = kinds; lost = lost; gained = gained })
      is_change lost gained are_lost are_gained = record { each = each; all = each_place; order = order; lost = are_lost; gained = are_gained }
