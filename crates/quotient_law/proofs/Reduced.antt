-- The nodes of a quotient are told apart.
use Rattle.std.proofs.Common.{◌≡◌, ◌⊎◌, ℕ, ◌<◌, Bool, true, List, [], ◌∷◌, length, option_map, option_and_then, Option, Some, None, refl, sym, ap, ◌∙◌, subst, inl, inr}
use Rattle.net_base.specs.Network.{PlainNet}
use Rattle.graph_base.specs.Graphs.{PlainGraph, IsGraph}
use Rattle.graph_base.specs.Runs.{place_of, rank_at, has_step, step_at}
use Rattle.graph_base.specs.Rules.{IsWellFormed}
use Rattle.graph_base.proofs.StartsAndSteps.{step_at-is}
use Rattle.graph_base.proofs.WellFormed.{step_at-of, one_step}
use Rattle.list_law.specs.Counts.{kept_below}
use Rattle.reach_prune.specs.Trimmed.{graph_kept}
use Rattle.graph_base.proofs.RunSteps.{IsInside}
use Rattle.node_quotient.proofs.Inside.{inside_of}
use Rattle.list_law.proofs.Kept.{kept_below-same}
use Rattle.graph_law.proofs.Kept.{step_kept, step_from_kept}
use Rattle.node_quotient.specs.Quotient.{follow, end_of, AreAllToldApart, AreLeast, IsReduced, is_least, led_to}
use Rattle.node_quotient.proofs.Least.{joined_steps, joined_sym, least_kept, least_same}
use Rattle.node_quotient.proofs.Shorter.{told_apart}
use Rattle.quotient_law.proofs.Led.{step_led, step_from_led}
use Rattle.quotient_law.proofs.Faith.{joined_place, joined_ranks, node_before, quotient_formed}
use Rattle.quotient_law.proofs.One.{quotient_is_graph}

module _ (net : PlainNet) (origin : ℕ → Bool) (external : Bool) (least : ℕ → ℕ) (g : PlainGraph) (ok : IsGraph g) (wf : IsWellFormed net origin external g) (are : AreLeast g least) where
  abbrev q : PlainGraph
  q = graph_kept (is_least least) (led_to least g)

  abbrev new : ℕ → ℕ
  new n = kept_below (is_least least) n

  inside : IsInside g
  inside = inside_of g ok

  place_new : (n : ℕ) → n < length g.nodes → place_of q (new (least n)) ≡ place_of g n
  place_new = joined_place net origin external least g ok wf are

  step_new : (m b : ℕ) → is_least least m ≡ true → has_step g m b ≡ true → has_step q (new m) (new (least b)) ≡ true
  step_new m b km st =
      step_kept (is_least least) (led_to least g) m (least b) (step_led least g m b st) km (least_kept g least are b ((inside_of g ok).steps m b st))

  step_old : (m j : ℕ) → is_least least m ≡ true → has_step q (new m) j ≡ true → (b : ℕ) × (has_step g m b ≡ true) × (j ≡ new (least b))
  step_old m j km st =
      let f = step_from_kept (is_least least) (led_to least g) (new m) j st in
      let same : m ≡ f.0 = kept_below-same (is_least least) m f.0 km f.3 f.5 in
      let p = step_from_led least g f.0 f.1 f.2 in
      (p.0, ap (λ x. has_step g x p.0) same ∙ p.1, f.6 ∙ ap (kept_below (is_least least)) p.2)

  -- no node in both, or a node in both, which is what the other became
  abbrev Both : Option ℕ → Option ℕ → Type 0
  Both o p = ((o ≡ None) × (p ≡ None)) ⊎ ((a b : ℕ) × (o ≡ Some a) × (p ≡ Some b) × (a < length g.nodes) × (b ≡ new (least a)))

  step_both : (n l : ℕ) → n < length g.nodes → Both (step_at g n l) (step_at q (new (least n)) l)
  step_both n l lt = by (step_at g n l) refl (step_at q (new (least n)) l) refl
    where
      by : (o : Option ℕ) → step_at g n l ≡ o → (p : Option ℕ) → step_at q (new (least n)) l ≡ p → Both (step_at g n l) (step_at q (new (least n)) l)
      by None h None k = inl (h, k)
      by (Some a) h p k =
          let s = step_at-is g n l a h in
          let la = (inside_of g ok).steps n a s.0 in
          let f = joined_steps g (one_step net origin external g wf) (least n) n a (are.joined n lt) s.0 in
          let lf = (inside_of g ok).steps (least n) f.0 f.1 in
          let same : least f.0 ≡ least a = least_same g least are f.0 a lf la f.2 in
          let st : has_step q (new (least n)) (new (least a)) ≡ true = ap (λ x. has_step q (new (least n)) (new x)) (sym same) ∙ step_new (least n) f.0 (least_kept g least are n lt) f.1 in
          let there = step_at-of net origin external q (quotient_formed net origin external least g ok wf are) (new (least n)) (new (least a)) st in
          inr (a, new (least a), h, subst (λ x. step_at q (new (least n)) x ≡ Some (new (least a))) (place_new a la ∙ s.1) there, la, refl)
      by None h (Some j) k =
          let s = step_at-is q (new (least n)) l j k in
          let b = step_old (least n) j (least_kept g least are n lt) s.0 in
          let lb = (inside_of g ok).steps (least n) b.0 b.1 in
          let f = joined_steps g (one_step net origin external g wf) n (least n) b.0 (joined_sym g (least n) n (are.joined n lt)) b.1 in
          let lf = (inside_of g ok).steps n f.0 f.1 in
          let same : least f.0 ≡ least b.0 = least_same g least are f.0 b.0 lf lb f.2 in
          let place : place_of g f.0 ≡ l = f.2.place ∙ sym (place_new b.0 lb) ∙ ap (place_of q) (sym b.2) ∙ s.1 in
          inr (f.0, j, subst (λ x. step_at g n x ≡ Some f.0) place (step_at-of net origin external g wf n f.0 f.1), k, lf, b.2 ∙ ap (kept_below (is_least least)) (sym same))

  follow_both : (n : ℕ) → n < length g.nodes → (path : List ℕ) → Both (follow g n path) (follow q (new (least n)) path)
  follow_both n lt [] = inr (n, new (least n), refl, refl, lt, refl)
  follow_both n lt (l ∷ ls) = elim (follow_both n lt ls) [
    | inl none ↦ inl (ap (option_and_then (λ x. step_at g x l)) none.0, ap (option_and_then (λ x. step_at q x l)) none.1)
    | inr b ↦
        let one = ap (option_and_then (λ x. step_at g x l)) b.2 in
        let two = ap (option_and_then (λ x. step_at q x l)) (b.3 ∙ ap Some b.5) in
        elim (step_both b.0 l b.4) [
          | inl none ↦ inl (one ∙ none.0, two ∙ none.1)
          | inr c ↦ inr (c.0, c.1, one ∙ c.2, two ∙ c.3, c.4, c.5)
        ]
  ]

  rank_new : (n : ℕ) → n < length g.nodes → rank_at q (new (least n)) ≡ rank_at g n
  rank_new = joined_ranks net origin external least g ok wf are

  -- a path ends alike from a node and from what it became
  pub end_new : (n : ℕ) → n < length g.nodes → (path : List ℕ) → end_of q (new (least n)) path ≡ end_of g n path
  end_new n lt path = elim (follow_both n lt path) [
    | inl none ↦ ap (option_map (rank_at q)) none.1 ∙ sym (ap (option_map (rank_at g)) none.0)
    | inr b ↦ ap (option_map (rank_at q)) (b.3 ∙ ap Some b.5) ∙ ap Some (rank_new b.0 b.4) ∙ sym (ap (option_map (rank_at g)) b.2)
  ]

  pub quotient_is_reduced : IsReduced q
  quotient_is_reduced i j li lj h =
      let m = node_before net origin external least g ok wf are i li in
      let n = node_before net origin external least g ok wf are j lj in
      let ends : (path : List ℕ) → end_of g m.0 path ≡ end_of g n.0 path = λ path.
      sym (end_new m.0 m.1 path) ∙ ap (λ x. end_of q x path) (sym m.3) ∙ h.ends path ∙ ap (λ x. end_of q x path) n.3 ∙ end_new n.0 n.1 path in
      let place : place_of g m.0 ≡ place_of g n.0 =
      sym (place_new m.0 m.1) ∙ ap (place_of q) (sym m.3) ∙ h.place ∙ ap (place_of q) n.3 ∙ place_new n.0 n.1 in
      m.3 ∙ ap (kept_below (is_least least)) (least_same g least are m.0 n.0 m.1 n.1 (record { place = place; ends = ends })) ∙ sym n.3

  pub quotient_told_apart : AreAllToldApart q
  quotient_told_apart = told_apart q (quotient_is_graph g ok least are) quotient_is_reduced
