-- Rows are added cut by cut.
use Rattle.std.proofs.Common.{◌≡◌, ℕ, ◌+◌, ◌<◌, List, [], ◌∷◌, ◌++◌, get_or, length, take, sym, ap, ap₂, ◌∙◌, subst}
use Rattle.std.proofs.lemmas.List.{map-append, take_more}
use Rattle.net_base.specs.Network.{PlainNet}
use Rattle.graph_base.specs.Graphs.{PlainGraph}
use Rattle.evidence_base.specs.Made.{PlainCaseEvidence}
use Rattle.impact_law.specs.Impacts.{changed, row_of}
use Rattle.impact_law.specs.declared.impact.Cut.{Cut}
use Rattle.impact_law.specs.declared.impact.CutRow.{CutRow}
use Rattle.impact_law.specs.declared.impact.SourceRank.{SourceRank}
use Rattle.impact_report.specs.Rows.{AreRows, IsChange}

module _ (net : PlainNet) (c : PlainCaseEvidence) (opened : PlainGraph) (base : List SourceRank) where
  rows_more : (cuts : List Cut) (rows : List CutRow) (cut : Cut) (list : List SourceRank) → AreRows net c opened base cuts rows → IsChange net c opened base cut list
      → AreRows net c opened base (cuts ++ cut ∷ []) (rows ++ row_of cut list ∷ [])
  rows_more cuts rows cut list are one policy f p s is after ranked =
      let Of : Cut → CutRow = λ (k : Cut). row_of k (changed base (after k)) in
      ap₂ (λ (xs : List CutRow) (ys : List SourceRank). xs ++ row_of cut ys ∷ []) (are policy f p s is after ranked) (one policy f p s is (after cut) (ranked cut))
      ∙ sym (map-append Of cuts (cut ∷ []))

  -- the next of some cuts
  pub rows_next : (cuts : List Cut) (i : ℕ) (cut : Cut) (rows : List CutRow) (list : List SourceRank) → i < length cuts → cut ≡ get_or cuts i cut
      → AreRows net c opened base (take i cuts) rows → IsChange net c opened base cut list → AreRows net c opened base (take (i + 1) cuts) (rows ++ row_of cut list ∷ [])
  rows_next cuts i cut rows list within is are one =
      subst (λ (ks : List Cut). AreRows net c opened base ks (rows ++ row_of cut list ∷ [])) (sym (take_more cuts i cut within ∙ ap (λ (k : Cut). take i cuts ++ k ∷ []) (sym is)))
      (rows_more (take i cuts) rows cut list are one)
