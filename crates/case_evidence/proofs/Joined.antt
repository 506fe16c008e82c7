-- The graph that is given for a case fits it, and there is one.
use Rattle.std.proofs.Common.{◌≡◌, ℕ, ◌<◌, [], length, sym, subst}
use Rattle.std.specs.Prelude.{IsSome}
use Rattle.net_base.specs.Network.{PlainNet}
use Rattle.net_base.specs.Sets.{holds}
use Rattle.policy_base.specs.declared.case.Case.{Case}
use Rattle.policy_base.specs.Policies.{PlainStatement}
use Rattle.graph_base.specs.Graphs.{IsGraph, PlainGraph}
use Rattle.graph_base.specs.Runs.{place_of, rank_at}
use Rattle.graph_base.specs.Walks.{IsEnteredFromBefore}
use Rattle.evidence_law.specs.Faithful.{IsFaithful}
use Rattle.evidence_law.specs.Passes.{IsClaimed}
use Rattle.node_quotient.specs.Quotient.{AreAllToldApart, IsQuotient}
use Rattle.quotient_law.proofs.Faith.{quotient_entered, quotient_is_faithful, quotient_ranked}
use Rattle.quotient_law.proofs.One.{one_quotient, quotient_is_graph}
use Rattle.quotient_law.proofs.Reduced.{quotient_told_apart}
use Rattle.case_core.specs.Refusals.{FitsCase}
use Rattle.case_core.proofs.Given.{made_is_entered}
use Rattle.case_core.proofs.OneCause as graphs
use Rattle.case_evidence.specs.Accepted.{IsGivenGraph}

-- the quotient of a graph that fits a case fits it
pub quotient_fits : (net : PlainNet) (s : PlainStatement) (c : Case) (g q : PlainGraph) → FitsCase net s c g → IsQuotient g q → FitsCase net s c q
quotient_fits net s c g q fits is numbers tags =
    let of = fits numbers tags in
    let origin = holds c.origins in
    let formed = of.faithful.formed in
    record {
      graph = subst IsGraph (sym is.2) (quotient_is_graph g of.graph is.0 is.1);
      faithful = subst (IsFaithful net s origin c.external) (sym is.2) (quotient_is_faithful net origin c.external is.0 g of.graph formed is.1 s of.faithful);
      ranked = subst (λ (h : PlainGraph). (n : ℕ) → n < length h.nodes → IsClaimed net s c (place_of h n) → IsSome (rank_at h n)) (sym is.2)
          (quotient_ranked net origin c.external is.0 g of.graph formed is.1 (IsClaimed net s c) of.ranked);
    }

module _ (net : PlainNet) (room : ℕ) (s : PlainStatement) (c : Case) where
  pub given_fits : (g : PlainGraph) (used : ℕ) → IsGivenGraph net room s c g used → FitsCase net s c g
  given_fits g used is = quotient_fits net s c is.trimmed g is.fits is.quotient

  -- each of its nodes that isn't a start is entered from before, so that a walk shows it
  pub given_entered : (g : PlainGraph) (used : ℕ) → IsGivenGraph net room s c g used → IsEnteredFromBefore g
  given_entered g used is =
      let of = is.fits [] [] in
      let entered = made_is_entered net room s c is.graph.0 is.trimmed is.graph.1 in
      subst IsEnteredFromBefore (sym is.quotient.2) (quotient_entered net (holds c.origins) c.external is.quotient.0 is.trimmed of.graph of.faithful.formed is.quotient.1 entered)

  pub given_told_apart : (g : PlainGraph) (used : ℕ) → IsGivenGraph net room s c g used → AreAllToldApart g
  given_told_apart g used is =
      let of = is.fits [] [] in
      subst AreAllToldApart (sym is.quotient.2) (quotient_told_apart net (holds c.origins) c.external is.quotient.0 is.trimmed of.graph of.faithful.formed is.quotient.1)

  pub one_given : (g h : PlainGraph) (m n : ℕ) → IsGivenGraph net room s c g m → IsGivenGraph net room s c h n → (g ≡ h) × (m ≡ n)
  one_given g h m n a b =
      let same = graphs.one_given net room s c (record { graph = a.trimmed; used = m }) (record { graph = b.trimmed; used = n }) a.graph b.graph in
      let of = b.fits [] [] in
      (one_quotient b.trimmed of.graph g h (subst (λ (t : PlainGraph). IsQuotient t g) same.0 a.quotient) b.quotient, same.1)
