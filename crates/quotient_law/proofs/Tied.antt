-- Two faithful graphs of one statement can follow each other.
use Rattle.std.proofs.Common.{◌≡◌, ℕ, ◌<◌, Bool, true, List, [], ◌∷◌, length, Some, refl, sym, ap, ap₂, ◌∙◌, inl, inr, subst}
use Rattle.std.specs.Prelude.{◌&&◌, not, is_some, option_and_then}
use Rattle.std.proofs.lemmas.Bool.{cases_Bool, both_ways}
use Rattle.net_base.specs.declared.loc.LocSet.{LocSet}
use Rattle.net_base.specs.Network.{PlainNet, is_peer}
use Rattle.policy_base.specs.Policies.{PlainStatement}
use Rattle.graph_base.specs.Graphs.{PlainGraph, IsGraph}
use Rattle.graph_base.specs.Rules.{IsWellFormed}
use Rattle.graph_base.specs.Runs.{place_of, is_listener, rank_at, is_start, has_step, step_at, run, IsTrail, Reaches}
use Rattle.relation_law.specs.Views.{view_of}
use Rattle.evidence_law.specs.Faithful.{IsFaithful, may_start}
use Rattle.graph_base.proofs.RunSteps.{run_begins, run_inside}
use Rattle.graph_base.proofs.StartsAndSteps.{step_at-is}
use Rattle.graph_base.proofs.WellFormed.{step_at-of}
use Rattle.list_law.proofs.Options.{is_some_parts, option_and_then_parts}
use Rattle.evidence_law.proofs.RunWalks.{runs_are_walks}
use Rattle.quotient_law.specs.Alike.{IsAlike, EndBoth}

pub turned : (g q : PlainGraph) (a m : ℕ) → EndBoth g q a m → EndBoth q g m a
turned g q a m h = (h.0, h.2, h.1)

module _ (net : PlainNet) (s : PlainStatement) (origin : ℕ → Bool) (external : Bool) where
  -- starts are the nodes at origins
  start_is : (g : PlainGraph) → IsWellFormed net origin external g → (n : ℕ) → n < length g.nodes → is_start g n ≡ origin (place_of g n)
  start_is g formed n lt = elim (cases_Bool (origin (place_of g n))) [
    | inl t ↦ formed.alone n lt t ∙ sym t
    | inr f ↦ elim (cases_Bool (is_start g n)) [
      | inl t ↦ absurd (both_ways _ f (formed.starts n t))
      | inr e ↦ e ∙ sym f
    ]
  ]

  place_at : (g : PlainGraph) → IsGraph g → IsWellFormed net origin external g → (l n : ℕ) (ls : List ℕ) → run g (l ∷ ls) ≡ Some n → place_of g n ≡ l
  place_at g ok formed l n ls h = run_begins g l n ls h

  module _ (g q : PlainGraph) (gg : IsGraph g) (qq : IsGraph q) (fg : IsFaithful net s origin external g) (fq : IsFaithful net s origin external q) where
    pub run_there : (path : List ℕ) (a : ℕ) → run g path ≡ Some a → (m : ℕ) × (run q path ≡ Some m)
    run_there path a h =
        let is = runs_are_walks net origin external g gg fg.formed path a h in
        let suffix = fg.has_no_other path is (ap is_some h) in
        is_some_parts (run q path) (fq.has_run suffix.0 path is suffix.1)

    pub one_place : (a m : ℕ) → EndBoth g q a m → place_of g a ≡ place_of q m
    one_place a m ([], x, y) = absurd (cc)
    one_place a m (l ∷ ls, x, y) = place_at g gg fg.formed l a ls x ∙ sym (place_at q qq fq.formed l m ls y)

    pub one_start : (a m : ℕ) → EndBoth g q a m → is_start g a ≡ is_start q m
    one_start a m h =
        start_is g fg.formed a (run_inside g gg h.0 a h.1) ∙ ap origin (one_place a m h)
        ∙ sym (start_is q fq.formed m (run_inside q qq h.0 m h.2))

    pub one_hears : (a m : ℕ) → EndBoth g q a m → is_listener g a ≡ is_listener q m
    one_hears a m h =
        fg.formed.listeners a (run_inside g gg h.0 a h.1)
        ∙ ap₂ (λ l b. is_peer net l && not b) (one_place a m h) (one_start a m h)
        ∙ sym (fq.formed.listeners m (run_inside q qq h.0 m h.2))

    pub one_rank : (a m : ℕ) → EndBoth g q a m → rank_at g a ≡ rank_at q m
    one_rank a m h = elim (cases_Bool (may_start origin s (place_of g a))) [
      | inl t ↦ fg.ranks h.0 a h.1 t ∙ sym (fq.ranks h.0 m h.2 (ap (may_start origin s) (sym (one_place a m h)) ∙ t))
      | inr f ↦ fg.unranked a (run_inside g gg h.0 a h.1) (ap not f)
          ∙ sym (fq.unranked m (run_inside q qq h.0 m h.2) (ap not (ap (may_start origin s) (sym (one_place a m h)) ∙ f)))
    ]

    pub forth : (a b m : ℕ) → EndBoth g q a m → has_step g a b ≡ true → (n : ℕ) × (has_step q m n ≡ true) × EndBoth g q b n
    forth a b m ([], x, y) st = absurd (cc)
    forth a b m (l ∷ ls, x, y) st =
        let k = place_of g b in
        let here : run g (k ∷ l ∷ ls) ≡ Some b = ap (option_and_then (λ n. step_at g n k)) x ∙ step_at-of net origin external g fg.formed a b st in
        let there = run_there (k ∷ l ∷ ls) b here in
        let t = option_and_then_parts (λ n. step_at q n k) (run q (l ∷ ls)) there.0 there.1 in
        let same : Some t.0 ≡ Some m = sym t.1 ∙ y in
        let is : t.0 ≡ m = cc in
        (there.0, ap (λ z. has_step q z there.0) (sym is) ∙ (step_at-is q t.0 k there.0 t.2).0, (k ∷ l ∷ ls, here, there.1))

module _ (net : PlainNet) (s : PlainStatement) (origin : ℕ → Bool) (external : Bool) (g q : PlainGraph) (gg : IsGraph g) (qq : IsGraph q)
    (fg : IsFaithful net s origin external g) (fq : IsFaithful net s origin external q) where
  pub back : (a m n : ℕ) → EndBoth g q a m → has_step q m n ≡ true → (b : ℕ) × (has_step g a b ≡ true) × EndBoth g q b n
  back a m n h st =
      let f = forth net s origin external q g qq gg fq fg m n a (turned g q a m h) st in
      (f.0, f.1, turned q g n f.0 f.2)

  leads : (via : List ℕ) (a m n : ℕ) → EndBoth g q a m → IsTrail q m via n → (b : ℕ) × Reaches g a b × EndBoth g q b n
  leads [] a m n h t = (a, ([], refl), subst (EndBoth g q a) t h)
  leads (c ∷ cs) a m n h t =
      let f = back a m c h t.0 in
      let r = leads cs f.0 c n f.2 t.1 in
      (r.0, (f.0 ∷ r.1.0, (f.1, r.1.1)), r.2)

  pub each : (m : ℕ) → m < length q.nodes → (a : ℕ) × EndBoth g q a m
  each m lt =
      let p = fq.is_ended m lt in
      let there = run_there net s origin external q g qq gg fq fg p.0 m p.2 in
      (there.0, (p.0, there.1, p.2))

  pub are_alike : (claimed : LocSet) → IsAlike (view_of g claimed) (view_of q claimed) (EndBoth g q)
  are_alike claimed = record {
    left = λ a m h. run_inside g gg h.0 a h.1;
    right = λ a m h. run_inside q qq h.0 m h.2;
    each = each;
    place = one_place net s origin external g q gg qq fg fq;
    hears = one_hears net s origin external g q gg qq fg fq;
    rank = one_rank net s origin external g q gg qq fg fq;
    claimed = λ l h. h;
    forth = forth net s origin external g q gg qq fg fq;
    back = back;
    leads = λ a m n h r. leads r.0 a m n h r.1;
  }
