-- Where each tag is right by itself and no earlier node at its router has it, tags differ.
use Rattle.std.proofs.Common.{◌≡◌, ℕ, suc, ◌<◌, false, List, length, Some, sym, ap, subst, arith, inl, inr}
use Rattle.std.specs.Prelude.{slice_get}
use Rattle.std.proofs.lemmas.Bool.{cases_order}
use Rattle.net_base.specs.Network.{PlainNet, is_peer}
use Rattle.graph_base.specs.Runs.{place_of}
use Rattle.evidence_base.specs.Made.{PlainCaseEvidence, AreTags, tag_at}
use Rattle.evidence_verdicts.specs.Rules.{KeepsTag}

module _ (net : PlainNet) (cs : List PlainCaseEvidence) (keeps : (k n : ℕ) → KeepsTag net cs k n) where
  differ : (j k m n : ℕ) (c d : PlainCaseEvidence) → slice_get cs j ≡ Some c → slice_get cs k ≡ Some d → m < length c.graph.nodes → n < length d.graph.nodes
      → is_peer net (place_of c.graph m) ≡ false → place_of c.graph m ≡ place_of d.graph n → tag_at c m ≡ tag_at d n → (j ≡ k) × (m ≡ n)
  differ j k m n c d at_j at_k in_c in_d r p t =
      let back : is_peer net (place_of d.graph n) ≡ false = subst (λ l. is_peer net l ≡ false) p r in
      elim (cases_order j k) [
        | inr (inl less) ↦ absurd ((keeps (suc k) n).new (suc j) m c d (at_j, in_c) (at_k, in_d) (inl (omega (arith, less))) r p t)
        | inr (inr more) ↦ absurd ((keeps (suc j) m).new (suc k) n d c (at_k, in_d) (at_j, in_c) (inl (omega (arith, more))) back (sym p) (sym t))
        | inl one ↦ elim (cases_order m n) [
          | inl same ↦ (one, same)
          | inr (inl less) ↦ absurd ((keeps (suc k) n).new (suc j) m c d (at_j, in_c) (at_k, in_d) (inr (ap suc one, less)) r p t)
          | inr (inr more) ↦ absurd ((keeps (suc j) m).new (suc k) n d c (at_k, in_d) (at_j, in_c) (inr (ap suc (sym one), more)) back (sym p) (sym t))
        ]
      ]

  pub are_tags : AreTags net cs
  are_tags = record {
    at_routers = λ k n c at within r. (keeps (suc k) n).at_router c (at, within) r;
    at_peers = λ k n c at within p. (keeps (suc k) n).at_peer c (at, within) p;
    differ = differ;
  }
