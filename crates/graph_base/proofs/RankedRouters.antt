-- The routers at which a node has a rank, node by node.
use Rattle.std.proofs.Common.{◌≡◌, ℕ, suc, ◌<◌, true, false, eqb, length, arith, sym, ap, subst, ◌∙◌, inl, inr}
use Rattle.std.specs.Prelude.{◌&&◌, ◌||◌, ◌↔◌, IsTrue, IsSome, is_some}
use Rattle.std.proofs.lemmas.Bool.{and_from, and_parts, cases_lt, eq-eqb, eqb-true, or_cases, or_left, or_right, true≢false}
use Rattle.net_base.specs.declared.loc.LocSet.{LocSet}
use Rattle.net_base.specs.Network.{PlainNet, is_router}
use Rattle.net_base.specs.Sets.{holds}
use Rattle.graph_base.specs.declared.graph.Node.{Node}
use Rattle.graph_base.specs.Graphs.{PlainGraph}
use Rattle.graph_base.specs.Ranked.{IsRankedRouter}
use Rattle.graph_base.specs.Runs.{place_of, rank_at}

-- a node below i at a location that has a rank
abbrev IsRankedBelow : PlainGraph → ℕ → ℕ → ℕ → Type 0
IsRankedBelow g i x n = (n < i) × (place_of g n ≡ x) × IsSome (rank_at g n)

-- the set has the routers at which one of the nodes below i has a rank
abbrev pub AreRankedBelow : PlainNet → PlainGraph → ℕ → LocSet → Type 0
AreRankedBelow net g i set = (x : ℕ) → IsTrue (holds set x) ↔ IsTrue (is_router net x) × ((n : ℕ) × IsRankedBelow g i x n)

module _ (net : PlainNet) (g : PlainGraph) (i : ℕ) (node : Node) (place : place_of g i ≡ node.loc) (rank : rank_at g i ≡ node.rank) where
  later : (x : ℕ) → IsTrue (is_router net x) × ((n : ℕ) × IsRankedBelow g i x n) → IsTrue (is_router net x) × ((n : ℕ) × IsRankedBelow g (suc i) x n)
  later x h = (h.0, (h.1.0, (omega (arith, h.1.1.0), h.1.1.1, h.1.1.2)))

  pub with_ranked : (before after : LocSet) → (is_router net node.loc && is_some node.rank) ≡ true → AreRankedBelow net g i before
      → ((x : ℕ) → holds after x ≡ (holds before x || eqb x node.loc)) → AreRankedBelow net g (suc i) after
  with_ranked before after met are more x = (there, back)
    where
      there : IsTrue (holds after x) → IsTrue (is_router net x) × ((n : ℕ) × IsRankedBelow g (suc i) x n)
      there h = elim (or_cases (holds before x) (eqb x node.loc) (sym (more x) ∙ h)) [
        | inl old ↦ later x ((are x).0 old)
        | inr new ↦
            let here = eqb-true x node.loc new in
            let parts = and_parts (is_router net node.loc) (is_some node.rank) met in
            (ap (is_router net) here ∙ parts.0, (i, (omega arith, place ∙ sym here, ap is_some rank ∙ parts.1)))
      ]

      back : IsTrue (is_router net x) × ((n : ℕ) × IsRankedBelow g (suc i) x n) → IsTrue (holds after x)
      back h = elim (cases_lt h.1.0 i) [
        | inl lt ↦ more x ∙ or_left (holds before x) (eqb x node.loc) ((are x).1 (h.0, (h.1.0, (lt, h.1.1.1, h.1.1.2))))
        | inr ge ↦
            let last : i ≡ h.1.0 = omega (arith, ge, h.1.1.0) in
            more x ∙ or_right (holds before x) (eqb x node.loc) (eq-eqb x node.loc (sym h.1.1.1 ∙ sym (ap (place_of g) last) ∙ place))
      ]

  pub without_ranked : (set : LocSet) → (is_router net node.loc && is_some node.rank) ≡ false → AreRankedBelow net g i set → AreRankedBelow net g (suc i) set
  without_ranked set missed are x = (λ h. later x ((are x).0 h), back)
    where
      back : IsTrue (is_router net x) × ((n : ℕ) × IsRankedBelow g (suc i) x n) → IsTrue (holds set x)
      back h = elim (cases_lt h.1.0 i) [
        | inl lt ↦ (are x).1 (h.0, (h.1.0, (lt, h.1.1.1, h.1.1.2)))
        | inr ge ↦
            let last : i ≡ h.1.0 = omega (arith, ge, h.1.1.0) in
            let here : x ≡ node.loc = sym h.1.1.1 ∙ sym (ap (place_of g) last) ∙ place in
            let ranked : is_some node.rank ≡ true = ap is_some (sym rank ∙ ap (rank_at g) last) ∙ h.1.1.2 in
            let met = and_from (is_router net node.loc) (is_some node.rank) (ap (is_router net) (sym here) ∙ h.0) ranked in
            absurd (true≢false (sym met ∙ missed))
      ]

-- after all nodes
pub are_ranked_routers : (net : PlainNet) (g : PlainGraph) (i : ℕ) (set : LocSet) → AreRankedBelow net g i set → i ≡ length g.nodes → (l : ℕ) → IsTrue (holds set l) ↔ IsRankedRouter net g l
are_ranked_routers net g i set are all = subst (λ n. AreRankedBelow net g n set) all are
