-- Lines whose reasons hold show that a direction of the pair is in no closed relation.
use Rattle.std.proofs.Common.{◌≡◌, ℕ, zero, suc, ◌<◌, ◌≤◌, Bool, true, false, List, Option, Some, inl, inr, arith, sym, ap, ◌∙◌, subst}
use Rattle.std.proofs.lemmas.Bool.{and_parts, both_ways, false_from_ne_true}
use Rattle.net_base.specs.declared.loc.LocSet.{LocSet}
use Rattle.net_base.specs.Sets.{holds}
use Rattle.graph_base.specs.declared.refutation.Removed.{Removed}
use Rattle.graph_base.specs.declared.refutation.Why.{Why}
use Rattle.graph_base.specs.declared.refutation.Why.TheVariants.{RankWorse, NoStep, StepWorse, LoopWorse, ListenerWorse}
use Rattle.graph_base.specs.Graphs.{PlainGraph, IsGraph}
use Rattle.graph_base.specs.Refuting.{HasSingleSteps, IsJustified, IsLine, IsWorse, Refutes, Says, WasRemoved}
use Rattle.graph_base.specs.Runs.{rank_at, has_step}
use Rattle.relation_law.specs.Numbers.{AreNumbers}
use Rattle.relation_law.specs.Relations.{IsClosed, Meets, Pair, no_worse}
use Rattle.relation_law.specs.Views.{View, view_of}
use Rattle.graph_base.proofs.StartsAndSteps.{step_nodes}
use Rattle.relation_law.proofs.Ranks.{no_worse_some}
use Rattle.relation_law.proofs.Counts.{by_number, by_number-closed, by_number-total}
use Rattle.relation_law.proofs.Rounds.{Answer, Hearer}

-- no rank is both worse and no worse
not_worse : (one other : Option ℕ) → IsWorse one other → no_worse one other ≡ true → ⊥
not_worse one other w h =
    let x : (j : ℕ) × (one ≡ Some j) × (j ≤ w.0) = no_worse_some one w.0 (ap (no_worse one) (sym w.1) ∙ h) in
    absurd (omega (arith, x.2, w.2 x.0 x.1))

module _ (g : PlainGraph) (claimed : LocSet) (ok : IsGraph g) (single : HasSingleSteps g) (lines : List Removed) (s : ℕ → ℕ → Bool) where
  abbrev V : View
  V = view_of g claimed

  -- where the reason holds, and what it rests on isn't in the relation, the rules aren't met
  unmet : (m n round : ℕ) (why : Why) → Says g (holds claimed) lines round m n why → Meets V s m n → ((a b : ℕ) → WasRemoved lines round a b → s a b ≡ false) → ⊥
  unmet m n round RankWorse says meets earlier = not_worse (rank_at g m) (rank_at g n) says.1 (meets.rank says.0)
  unmet m n round (NoStep z) says meets earlier =
      let t : ℕ = says.0.0 in
      let st = says.0.1.0 in
      let x : Answer V s m t = meets.step t (step_nodes g n t ok (and_parts (has_step g n t) _ st).0).1 st in
      says.1 x.0 (x.2, x.3 ∙ says.0.1.1)
  unmet m n round (StepWorse z) (a, t, mine, theirs, gone) meets earlier =
      let x : Answer V s m t = meets.step t (step_nodes g n t ok (and_parts (has_step g n t) _ theirs.0).0).1 theirs.0 in
      let same : x.0 ≡ a = single m x.0 a (and_parts (has_step g m x.0) _ x.2).0 (and_parts (has_step g m a) _ mine.0).0 (x.3 ∙ theirs.1 ∙ sym mine.1) in
      both_ways (s a t) (earlier a t gone) (ap (λ y. s y t) (sym same) ∙ x.4)
  unmet m n round (LoopWorse z k) (t, theirs, lk, place, leads, gone) meets earlier =
      both_ways (s k t) (earlier k t gone) (meets.loop t k (step_nodes g n t ok (and_parts (has_step g n t) _ theirs.0).0).1 lk theirs.0 (place ∙ sym theirs.1) leads)
  unmet m n round (ListenerWorse p) (t, theirs, worse) meets earlier =
      let x : Hearer V m t = meets.listener t (step_nodes g n t ok (and_parts (has_step g n t) _ theirs.0).0).1 theirs.0 in
      not_worse (rank_at g x.0) (rank_at g t) (worse x.0 (x.2, x.3 ∙ theirs.1)) x.4

  module _ (closed : IsClosed V s) (each : (l : Removed) → IsLine lines l → IsJustified g (holds claimed) lines l) where
    -- no closed relation has the direction of a line
    pub stays_out : (bound : ℕ) (l : Removed) → IsLine lines l → l.round < bound → s l.better l.worse ≡ false
    stays_out zero l is lt = absurd (omega (arith, lt))
    stays_out (suc bound) l is lt = false_from_ne_true (s l.better l.worse) (λ e.
        unmet l.better l.worse l.round l.why (each l is).reason (closed l.better l.worse e).1
        (λ a b was. before a b was.0 was.1 was.2 was.3 was.4 (stays_out bound)))
      where
        before : (a b : ℕ) (k : Removed) → IsLine lines k → k.better ≡ a → k.worse ≡ b → k.round < l.round
            → ((k : Removed) → IsLine lines k → k.round < bound → s k.better k.worse ≡ false) → s a b ≡ false
        before a b k on better worse less again = ap (λ x. s x b) (sym better) ∙ ap (s k.better) (sym worse) ∙ again k on (omega (arith, lt, less))

    pub out : (l : Removed) → IsLine lines l → s l.better l.worse ≡ false
    out l is = stays_out (suc l.round) l is (omega arith)

pub neither : (g : PlainGraph) (claimed : LocSet) (first second : ℕ) (lines : List Removed) (s : ℕ → ℕ → Bool) → IsGraph g → HasSingleSteps g → Refutes g (holds claimed) first second lines
    → IsClosed (view_of g claimed) s → (s first second ≡ false) × (s second first ≡ false)
neither g claimed first second lines s ok single r closed = (at first second r.one, at second first r.other)
  where
    at : (a b : ℕ) → (l : Removed) × IsLine lines l × (l.better ≡ a) × (l.worse ≡ b) → s a b ≡ false
    at a b (l, is, better, worse) = ap (λ x. s x b) (sym better) ∙ ap (s l.better) (sym worse) ∙ out g claimed ok single lines s closed r.each l is

-- ---- numbers

pub no_numbers : (g : PlainGraph) (claimed : LocSet) (first second : ℕ) (lines : List Removed) (of : ℕ → ℕ) → IsGraph g → HasSingleSteps g → Refutes g (holds claimed) first second lines
    → AreNumbers (view_of g claimed) of → ⊥
no_numbers g claimed first second lines of ok single r are =
    let v : View = view_of g claimed in
    let none = neither g claimed first second lines (by_number v of) ok single r (by_number-closed v of are) in
    let l = r.one.0 in
    let line = r.each l r.one.1 in
    let there : Pair v l.better l.worse = record { left = line.better; right = line.worse; place = line.place } in
    let pair : Pair v first second = subst (λ a. Pair v a second) r.one.2 (subst (λ b. Pair v l.better b) r.one.3 there) in
    elim (by_number-total v of first second pair) [
      | inl e ↦ both_ways _ none.0 e
      | inr e ↦ both_ways _ none.1 e
    ]
