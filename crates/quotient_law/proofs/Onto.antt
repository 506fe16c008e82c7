-- Each faithful graph of a case maps onto one whose nodes are told apart.
use Rattle.std.proofs.Common.{◌≡◌, ◌⊎◌, ℕ, ◌<◌, Bool, List, [], ◌∷◌, length, option_map, option_and_then, Option, Some, None, refl, sym, ap, ◌∙◌, subst, inl, inr}
use Rattle.net_base.specs.Network.{PlainNet}
use Rattle.policy_base.specs.Policies.{PlainStatement}
use Rattle.graph_base.specs.Graphs.{PlainGraph, IsGraph}
use Rattle.graph_base.specs.Runs.{place_of, rank_at, step_at}
use Rattle.evidence_law.specs.Faithful.{IsFaithful}
use Rattle.graph_base.proofs.StartsAndSteps.{step_at-is}
use Rattle.graph_base.proofs.RunSteps.{run_inside}
use Rattle.graph_base.proofs.WellFormed.{step_at-of}
use Rattle.quotient_law.specs.Alike.{EndBoth}
use Rattle.quotient_law.proofs.Tied.{back, forth, one_place, one_rank, run_there}
use Rattle.node_quotient.specs.Quotient.{follow, end_of, IsReduced}

module _ (net : PlainNet) (s : PlainStatement) (origin : ℕ → Bool) (external : Bool) (g q : PlainGraph) (gg : IsGraph g) (qq : IsGraph q)
    (fg : IsFaithful net s origin external g) (fq : IsFaithful net s origin external q) where
  abbrev Both : Option ℕ → Option ℕ → Type 0
  Both o p = ((o ≡ None) × (p ≡ None)) ⊎ ((a m : ℕ) × (o ≡ Some a) × (p ≡ Some m) × EndBoth g q a m)

  step_both : (a m l : ℕ) → EndBoth g q a m → Both (step_at g a l) (step_at q m l)
  step_both a m l h = by (step_at g a l) refl (step_at q m l) refl
    where
      by : (o : Option ℕ) → step_at g a l ≡ o → (p : Option ℕ) → step_at q m l ≡ p → Both (step_at g a l) (step_at q m l)
      by None i None k = inl (i, k)
      by (Some b) i p k =
          let st = step_at-is g a l b i in
          let f = forth net s origin external g q gg qq fg fq a b m h st.0 in
          let place : place_of q f.0 ≡ l = sym (one_place net s origin external g q gg qq fg fq b f.0 f.2) ∙ st.1 in
          inr (b, f.0, i, subst (λ x. step_at q m x ≡ Some f.0) place (step_at-of net origin external q fq.formed m f.0 f.1), f.2)
      by None i (Some n) k =
          let st = step_at-is q m l n k in
          let f = back net s origin external g q gg qq fg fq a m n h st.0 in
          let place : place_of g f.0 ≡ l = one_place net s origin external g q gg qq fg fq f.0 n f.2 ∙ st.1 in
          inr (f.0, n, subst (λ x. step_at g a x ≡ Some f.0) place (step_at-of net origin external g fg.formed a f.0 f.1), k, f.2)

  follow_both : (a m : ℕ) → EndBoth g q a m → (path : List ℕ) → Both (follow g a path) (follow q m path)
  follow_both a m h [] = inr (a, m, refl, refl, h)
  follow_both a m h (l ∷ ls) = elim (follow_both a m h ls) [
    | inl none ↦ inl (ap (option_and_then (λ x. step_at g x l)) none.0, ap (option_and_then (λ x. step_at q x l)) none.1)
    | inr b ↦
        let one = ap (option_and_then (λ x. step_at g x l)) b.2 in
        let two = ap (option_and_then (λ x. step_at q x l)) b.3 in
        elim (step_both b.0 b.1 l b.4) [
          | inl none ↦ inl (one ∙ none.0, two ∙ none.1)
          | inr c ↦ inr (c.0, c.1, one ∙ c.2, two ∙ c.3, c.4)
        ]
  ]

  end_both : (a m : ℕ) → EndBoth g q a m → (path : List ℕ) → end_of g a path ≡ end_of q m path
  end_both a m h path = elim (follow_both a m h path) [
    | inl none ↦ ap (option_map (rank_at g)) none.0 ∙ sym (ap (option_map (rank_at q)) none.1)
    | inr b ↦ ap (option_map (rank_at g)) b.2 ∙ ap Some (one_rank net s origin external g q gg qq fg fq b.0 b.1 b.4) ∙ sym (ap (option_map (rank_at q)) b.3)
  ]

  pub one_image : IsReduced q → (a m n : ℕ) → EndBoth g q a m → EndBoth g q a n → m ≡ n
  one_image reduced a m n h k =
      reduced m n (run_inside q qq h.0 m h.2) (run_inside q qq k.0 n k.2)
      (record {
        place = sym (one_place net s origin external g q gg qq fg fq a m h) ∙ one_place net s origin external g q gg qq fg fq a n k;
        ends = λ path. sym (end_both a m h path) ∙ end_both a n k path;
      })

  pub some_image : (a : ℕ) → a < length g.nodes → (m : ℕ) × EndBoth g q a m
  some_image a lt =
      let p = fg.is_ended a lt in
      let there = run_there net s origin external g q gg qq fg fq p.0 a p.2 in
      (there.0, (p.0, p.2, there.1))
