-- What is found by graphs that show the walks of a prefix in two policies is what these change for it.
use Rattle.std.proofs.Common.{◌≡◌, ℕ, List, sym, subst}
use Rattle.std.specs.Prelude.{IsTrue}
use Rattle.net_base.specs.declared.loc.LocSet.{LocSet}
use Rattle.net_base.specs.Network.{PlainNet}
use Rattle.net_base.specs.Prefixes.{PlainPrefix}
use Rattle.net_base.specs.Sets.{holds}
use Rattle.policy_base.specs.Policies.{PlainPolicy}
use Rattle.graph_base.specs.Graphs.{IsGraph, PlainGraph}
use Rattle.pair_graph.specs.declared.pair.NodePair.{NodePair}
use Rattle.pair_graph.specs.Made.{IsPairGraph}
use Rattle.compare_base.specs.declared.cases.CasePair.{CasePair}
use Rattle.compare_base.specs.declared.rows.Kind.{Kind}
use Rattle.compare_base.specs.declared.rows.Place.{Place}
use Rattle.compare_base.specs.Cases.{pair_for}
use Rattle.pair_rows.specs.declared.values.FirstRow.{FirstRow}
use Rattle.pair_rows.specs.Meetings.{AreFirst, all_mets, mets_at, rows_alone}
use Rattle.place_rows.specs.Told.{is_told}
use Rattle.pair_changes.specs.Carriers.{all_in_one_alone, has_node_at}
use Rattle.pair_changes.specs.Changes.{IsPairChange}
use Rattle.pair_changes.specs.Kinds.{AreKinds, way_by}
use Rattle.pair_changes.specs.Places.{ArePlaces}
use Rattle.pair_changes.specs.Shown.{ShowsWalks}
use Rattle.pair_changes.specs.Walks.{AreAllShown}
use Rattle.pair_changes.proofs.Carrying.{are_carriers}
use Rattle.pair_changes.proofs.Changed.{is_change}

module _ (net : PlainNet) (old new : PlainPolicy) (p : PlainPrefix) (g h both : PlainGraph) (pairs : List NodePair) (is : IsPairGraph g h pairs both) (rules : IsGraph both) (rules_old : IsGraph g)
    (rules_new : IsGraph h) (shows_old : ShowsWalks net old p g) (shows_new : ShowsWalks net new p h) (firsts : Place → List FirstRow)
    (met : (place : Place) → IsTrue (is_told net place.router place.peer) → AreFirst (mets_at (all_mets g h pairs both) place) (firsts place)) (places : List Place) (bare kinds : List Kind)
    (grouped : AreKinds (λ q. way_by (rows_alone (firsts q))) places bare) (shown : AreAllShown both firsts bare kinds) (in_old in_new : LocSet)
    (those_old : (r : ℕ) → holds in_old r ≡ has_node_at net g.nodes r) (those_new : (r : ℕ) → holds in_new r ≡ has_node_at net h.nodes r) where
  own_change : ArePlaces net (pair_for old new p) places
      → IsPairChange net old new p (record { kinds = kinds; lost = all_in_one_alone net (pair_for old new p) in_old in_new; gained = all_in_one_alone net (pair_for old new p) in_new in_old })
  own_change all =
      is_change net old new p g h both pairs (record { one = shows_old.ranks; other = shows_new.ranks; is = is; rules = rules }) firsts met places all bare kinds grouped shown
      (all_in_one_alone net (pair_for old new p) in_old in_new) (all_in_one_alone net (pair_for old new p) in_new in_old)
      (are_carriers net old new p old new g h rules_old rules_new shows_old shows_new in_old in_new those_old those_new)
      (are_carriers net old new p new old h g rules_new rules_old shows_new shows_old in_new in_old those_new those_old)

  pub whole_change : (cases : CasePair) (lost gained : List ℕ) → pair_for old new p ≡ cases → ArePlaces net cases places
      → lost ≡ all_in_one_alone net cases in_old in_new → gained ≡ all_in_one_alone net cases in_new in_old
      → IsPairChange net old new p (record { kinds = kinds; lost = lost; gained = gained })
  whole_change cases lost gained has all are_lost are_gained =
      subst (λ (ls : List ℕ). IsPairChange net old new p (record { kinds = kinds; lost = ls; gained = gained })) (sym are_lost)
      (subst (λ (ls : List ℕ). IsPairChange net old new p (record { kinds = kinds; lost = all_in_one_alone net cases in_old in_new; gained = ls })) (sym are_gained)
      (subst (λ (c : CasePair). IsPairChange net old new p (record { kinds = kinds; lost = all_in_one_alone net c in_old in_new; gained = all_in_one_alone net c in_new in_old })) has
      (own_change (subst (λ (c : CasePair). ArePlaces net c places) (sym has) all))))
