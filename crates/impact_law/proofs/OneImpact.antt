-- One ranking, and so one impact.
use Rattle.std.proofs.Common.{◌≡◌, ℕ, zero, suc, ◌<◌, List, [], ◌∷◌, Option, Some, None, refl, sym, ap, ap₂, ◌∙◌, subst, arith}
use Rattle.std.specs.Prelude.{map, slice_get}
use Rattle.net_base.specs.Network.{PlainNet}
use Rattle.net_base.specs.Prefixes.{PlainPrefix}
use Rattle.policy_base.specs.Policies.{PlainPolicy, PlainStatement}
use Rattle.policy_base.specs.Governing.{statement_of}
use Rattle.list_law.specs.Members.{IsIn}
use Rattle.outcome_base.specs.Outcomes.{Failures}
use Rattle.impact_law.specs.declared.impact.SourceRank.{SourceRank}
use Rattle.impact_law.specs.declared.impact.Cut.{Cut}
use Rattle.impact_law.specs.declared.impact.CutRow.{CutRow}
use Rattle.impact_law.specs.declared.impact.Impact.{Impact}
use Rattle.impact_law.specs.BestRanks.{IsBestRank}
use Rattle.impact_law.specs.Cuts.{live_cuts, with_cut}
use Rattle.impact_law.specs.Impacts.{ImpactsAreOne, IsBareImpact, IsImpact, IsImpactBy, IsRanking, Precedes, RankingsAreOne, RowsAreOfLiveCuts, begin_at, changed, row_of}
use Rattle.impact_law.proofs.BestRanks.{best_ranks_are_one}

-- ---- two ascending lists with the same members are one

module _ {A : Type 0} (Before : A → A → Type 0) (itself : (x : A) → Before x x → ⊥) (through : (x y z : A) → Before x y → Before y z → Before x z) where
  abbrev pub Ordered : List A → Type 0
  Ordered xs = (i j : ℕ) (x y : A) → i < j → slice_get xs i ≡ Some x → slice_get xs j ≡ Some y → Before x y

  tail_ordered : (x : A) (xs : List A) → Ordered (x ∷ xs) → Ordered xs
  tail_ordered x xs a i j y z low h k = a (suc i) (suc j) y z (omega (arith, low)) h k

  later : (x : A) (xs : List A) (y : A) (ys : List A) → Ordered (x ∷ xs) → y ≡ x → (l : A) → IsIn xs l → IsIn (y ∷ ys) l → IsIn ys l
  later x xs y ys a same l (i, h) (zero, k) = (let is : y ≡ l = cc in absurd (itself l (subst (λ z. Before z l) (sym same ∙ is) (a zero (suc i) x l (omega arith) refl h))))
  later x xs y ys a same l at (suc j, k) = (j, k)

  pub one_list : (xs ys : List A) → Ordered xs → Ordered ys → ((l : A) → IsIn xs l → IsIn ys l) → ((l : A) → IsIn ys l → IsIn xs l) → xs ≡ ys
  one_list [] [] a b to from = refl
  one_list [] (y ∷ ys) a b to from = absurd (let at = from y (zero, refl) in cc (at.1))
  one_list (x ∷ xs) [] a b to from = absurd (let at = to x (zero, refl) in cc (at.1))
  one_list (x ∷ xs) (y ∷ ys) a b to from =
      let same : x ≡ y = heads (to x (zero, refl)) (from y (zero, refl)) in
      let rest = one_list xs ys (tail_ordered x xs a) (tail_ordered y ys b) (λ l is. later x xs y ys a (sym same) l is (to l (suc is.0, is.1)))
      (λ l is. later y ys x xs b same l is (from l (suc is.0, is.1))) in
      λ i. same i ∷ rest i
    where
      heads : IsIn (y ∷ ys) x → IsIn (x ∷ xs) y → x ≡ y
      heads (zero, h) other = (let is : y ≡ x = cc in sym is)
      heads (suc i, h) (zero, k) = (let is : x ≡ y = cc in is)
      heads (suc i, h) (suc j, k) = absurd (itself x (through x y x (a zero (suc j) x y (omega arith) refl k) (b zero (suc i) y x (omega arith) refl h)))

-- ---- sources

abbrev pub before : SourceRank → SourceRank → Type 0
before x y = Precedes x.router x.peer y.router y.peer

pub not_itself : (r : ℕ) (o : Option ℕ) → Precedes r o r o → ⊥
not_itself r None h = absurd (omega (arith, h))
not_itself r (Some p) h = absurd (let low = h.1 refl in omega (arith, low))

pub precedes_through : (r s t : ℕ) (a b c : Option ℕ) → Precedes r a s b → Precedes s b t c → Precedes r a t c
precedes_through r s t None None None h k = omega (arith, h, k)
precedes_through r s t None None (Some q) h k = tt
precedes_through r s t None (Some p) None h k = absurd k
precedes_through r s t None (Some p) (Some q) h k = tt
precedes_through r s t (Some o) None c h k = absurd h
precedes_through r s t (Some o) (Some p) None h k = absurd k
precedes_through r s t (Some o) (Some p) (Some q) h k = (
  omega (arith, h.0, k.0),
  λ same. let one = h.1 (omega (arith, h.0, k.0, same)) in let other = k.1 (omega (arith, h.0, k.0, same)) in omega (arith, one, other),
)

module _ (net : PlainNet) (policy : PlainPolicy) (f : Failures) (p : PlainPrefix) (s : PlainStatement) where
  members : (xs ys : List SourceRank) → IsRanking net policy f p s xs → IsRanking net policy f p s ys → (x : SourceRank) → IsIn xs x → IsIn ys x
  members xs ys a b x is =
      let mine = a.each x is in
      let found = b.all x.router x.peer mine.0 in
      let theirs = (b.each found.0 found.1).1 in
      let there = subst (λ (o : Option ℕ). IsBestRank net policy f p s (begin_at x.router o) found.0.rank) found.3
      (subst (λ (r : ℕ). IsBestRank net policy f p s (begin_at r found.0.peer) found.0.rank) found.2 theirs) in
      let rank = best_ranks_are_one net policy f p s (begin_at x.router x.peer) found.0.rank x.rank there mine.1 in
      let same : found.0 ≡ x = λ i. record { router = found.2 i; peer = found.3 i; rank = rank i } in
      (found.1.0, found.1.1 ∙ ap Some same)

  rankings_one : (xs ys : List SourceRank) → IsRanking net policy f p s xs → IsRanking net policy f p s ys → xs ≡ ys
  rankings_one xs ys a b =
      one_list before (λ x h. not_itself x.router x.peer h) (λ x y z h k. precedes_through x.router y.router z.router x.peer y.peer z.peer h k) xs ys
      a.order b.order (members xs ys a b) (members ys xs b a)

pub rankings_are_one : RankingsAreOne
rankings_are_one net policy f p s xs ys a b = rankings_one net policy f p s xs ys a b

module _ (net : PlainNet) (policy : PlainPolicy) (f : Failures) (p : PlainPrefix) where
  impact_by : (s : PlainStatement) (a b : Impact) → IsImpactBy net policy f p s a → IsImpactBy net policy f p s b → a ≡ b
  impact_by s a b x y =
      let base = rankings_one net policy f p s a.base b.base x.base y.base in
      let after : x.after ≡ y.after = λ i. λ cut. rankings_one net policy (with_cut cut f) p s (x.after cut) (y.after cut) (x.ranked cut) (y.ranked cut) i in
      let rows : a.rows ≡ b.rows =
      x.rows
      ∙ ap₂ (λ (before : List SourceRank) (after : Cut → List SourceRank). map (λ (cut : Cut). row_of cut (changed before (after cut)))
      (live_cuts net f)) base after ∙ sym y.rows in
      λ i. record { base = base i; rows = rows i }

  bare : (a b : Impact) → IsBareImpact net f a → IsBareImpact net f b → a ≡ b
  bare a b x y =
      let base : a.base ≡ b.base = x.base ∙ sym y.base in
      let rows : a.rows ≡ b.rows = x.rows ∙ sym y.rows in
      λ i. record { base = base i; rows = rows i }

pub impacts_are_one : ImpactsAreOne
impacts_are_one net policy f p a b x y = go (statement_of policy p) refl x y
  where
    go : (o : Option PlainStatement) → statement_of policy p ≡ o → IsImpact net policy f p a → IsImpact net policy f p b → a ≡ b
    go None is = rw is (λ x y. bare net policy f p a b x y)
    go (Some s) is = rw is (λ x y. impact_by net policy f p s a b x y)

-- each row is that of its cut
rows_cut : (row : Cut → List SourceRank) (cuts : List Cut) → map (λ (r : CutRow). r.cut) (map (λ (cut : Cut). row_of cut (row cut)) cuts) ≡ cuts
rows_cut row [] = refl
rows_cut row (cut ∷ cuts) = ap (λ (ks : List Cut). cut ∷ ks) (rows_cut row cuts)

pub rows_are_of_live_cuts : RowsAreOfLiveCuts
rows_are_of_live_cuts net policy f p impact x = go (statement_of policy p) refl x
  where
    go : (o : Option PlainStatement) → statement_of policy p ≡ o → IsImpact net policy f p impact → map (λ (row : CutRow). row.cut) impact.rows ≡ live_cuts net f
    go None is = rw is (λ x. ap (map (λ (row : CutRow). row.cut)) x.rows ∙ rows_cut (λ cut. []) (live_cuts net f))
    go (Some s) is = rw is (λ x. ap (map (λ (row : CutRow). row.cut)) x.rows ∙ rows_cut (λ cut. changed impact.base (x.after cut)) (live_cuts net f))
