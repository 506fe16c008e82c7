-- Which sources stand in the row of a cut.
use Rattle.std.proofs.Common.{◌≡◌, ℕ, zero, suc, Bool, true, false, List, [], ◌∷◌, Option, Some, None, refl, sym, ap, ◌∙◌, subst, arith, eqb-true, eq-eqb, true≢false}
use Rattle.std.proofs.lemmas.Option.{slice_get-map}
use Rattle.std.specs.Prelude.{map, option_map, slice_get}
use Rattle.net_base.specs.Network.{PlainNet}
use Rattle.net_base.specs.Prefixes.{PlainPrefix}
use Rattle.policy_base.specs.Policies.{PlainPolicy, PlainStatement}
use Rattle.list_law.specs.Members.{IsIn}
use Rattle.outcome_base.specs.Outcomes.{Failures}
use Rattle.impact_law.specs.declared.impact.SourceRank.{SourceRank}
use Rattle.impact_law.specs.declared.impact.Cut.{Cut}
use Rattle.impact_law.specs.declared.impact.CutRow.{CutRow}
use Rattle.impact_law.specs.BestRanks.{IsBestRank}
use Rattle.impact_law.specs.Cuts.{live_cuts, with_cut}
use Rattle.impact_law.specs.Impacts.{GetsAnotherRank, IsRanking, RowsTellOtherRanks, begin_at, changed, row_of, same_rank}
use Rattle.impact_law.proofs.BestRanks.{best_ranks_are_one}
use Rattle.impact_law.proofs.OneImpact.{Ordered, before, not_itself, one_list, precedes_through}

-- ---- ranks

same_itself : (o : Option ℕ) → same_rank o o ≡ true
same_itself None = refl
same_itself (Some i) = eq-eqb i i refl

same_ones : (o q : Option ℕ) → same_rank o q ≡ true → o ≡ q
same_ones None None h = refl
same_ones None (Some j) h = cc
same_ones (Some i) None h = cc
same_ones (Some i) (Some j) h = ap Some (eqb-true i j h)

-- ---- items of a list that is mapped

of_mapped : {A B : Type 0} (v : A → B) (o : Option A) (y : B) → option_map v o ≡ Some y → (x : A) × (o ≡ Some x) × (v x ≡ y)
of_mapped v None y h = cc
of_mapped v (Some x) y h = (x, refl, (let is : v x ≡ y = cc in is))

mapped_at : {A B : Type 0} (v : A → B) (xs : List A) (i : ℕ) (y : B) → slice_get (map v xs) i ≡ Some y → (x : A) × (slice_get xs i ≡ Some x) × (v x ≡ y)
mapped_at v xs i y h = of_mapped v (slice_get xs i) y (sym (slice_get-map v xs i) ∙ h)

-- ---- a source without its rank

abbrev bare : SourceRank → SourceRank
bare x = record { router = x.router; peer = x.peer; rank = None }

-- an entry of the second list, and one of the first that is of the same source and has another rank
abbrev Other : SourceRank → List SourceRank → List SourceRank → Type 0
Other y us vs = (x : SourceRank) × IsIn us x × IsIn vs y × (bare x ≡ bare y) × (same_rank x.rank y.rank ≡ false)

in_changed : (xs ys : List SourceRank) → map bare xs ≡ map bare ys → (y : SourceRank) → IsIn (changed xs ys) y → Other y xs ys
in_changed [] ys same y (i, h) = cc
in_changed (b ∷ xs) [] same y (i, h) = cc
in_changed (b ∷ xs) (a ∷ ys) same y is =
    let rest : map bare xs ≡ map bare ys = cc in
    go (in_changed xs ys rest y) (same_rank b.rank a.rank) refl is
  where
    further : Other y xs ys → Other y (b ∷ xs) (a ∷ ys)
    further found = (found.0, (suc found.1.0, found.1.1), (suc found.2.0, found.2.1), found.3, found.4)

    at_first : (IsIn (changed xs ys) y → Other y xs ys) → same_rank b.rank a.rank ≡ false → IsIn (a ∷ changed xs ys) y → Other y (b ∷ xs) (a ∷ ys)
    at_first more other (zero, h) =
        let one : a ≡ y = cc in
        let first : bare b ≡ bare a = cc in
        (b, (zero, refl), (zero, ap Some one), first ∙ ap bare one, ap (λ (z : SourceRank). same_rank b.rank z.rank) (sym one) ∙ other)
    at_first more other (suc i, h) = further (more (i, h))

    go : (IsIn (changed xs ys) y → Other y xs ys) → (q : Bool) → same_rank b.rank a.rank ≡ q → IsIn (changed (b ∷ xs) (a ∷ ys)) y → Other y (b ∷ xs) (a ∷ ys)
    go more true is = rw is (λ there. further (more there))
    go more false is = let other = is in rw is (λ there. at_first more other there)

to_changed : (xs ys : List SourceRank) → (i : ℕ) (x y : SourceRank) → slice_get xs i ≡ Some x → slice_get ys i ≡ Some y → same_rank x.rank y.rank ≡ false → IsIn (changed xs ys) y
to_changed [] ys i x y h k other = cc
to_changed (b ∷ xs) [] i x y h k other = cc
to_changed (b ∷ xs) (a ∷ ys) zero x y h k other =
    let mine : b ≡ x = cc in
    let theirs : a ≡ y = cc in
    let differ : same_rank b.rank a.rank ≡ false = ap (λ (z : SourceRank). same_rank z.rank a.rank) mine ∙ ap (λ (z : SourceRank). same_rank x.rank z.rank) theirs ∙ other in
    rw differ (zero, ap Some theirs)
to_changed (b ∷ xs) (a ∷ ys) (suc i) x y h k other = go (to_changed xs ys i x y h k other) (same_rank b.rank a.rank) refl
  where
    go : IsIn (changed xs ys) y → (q : Bool) → same_rank b.rank a.rank ≡ q → IsIn (changed (b ∷ xs) (a ∷ ys)) y
    go there true is = rw is there
    go there false is = rw is (suc there.0, there.1)

-- ---- two rankings have their sources in the same places

module _ (net : PlainNet) (policy : PlainPolicy) (p : PlainPrefix) (s : PlainStatement) where
  bare_order : (f : Failures) (xs : List SourceRank) → IsRanking net policy f p s xs
      → Ordered before (λ x h. not_itself x.router x.peer h) (λ x y z h k. precedes_through x.router y.router z.router x.peer y.peer z.peer h k) (map bare xs)
  bare_order f xs a i j x y low h k =
      let mine = mapped_at bare xs i x h in
      let theirs = mapped_at bare xs j y k in
      subst (λ (z : SourceRank). before z y) mine.2 (subst (λ (z : SourceRank). before (bare mine.0) z) theirs.2 (a.order i j mine.0 theirs.0 low mine.1 theirs.1))

  bare_members : (f g : Failures) (xs ys : List SourceRank) → IsRanking net policy f p s xs → IsRanking net policy g p s ys → (l : SourceRank) → IsIn (map bare xs) l → IsIn (map bare ys) l
  bare_members f g xs ys a b l (i, h) =
      let mine = mapped_at bare xs i l h in
      let source = (a.each mine.0 (i, mine.1)).0 in
      let found = b.all mine.0.router mine.0.peer source in
      let same : bare found.0 ≡ bare mine.0 = λ n. record { router = found.2 n; peer = found.3 n; rank = None } in
      (found.1.0, slice_get-map bare ys found.1.0 ∙ ap (option_map bare) found.1.1 ∙ ap Some (same ∙ mine.2))

  same_places : (f g : Failures) (xs ys : List SourceRank) → IsRanking net policy f p s xs → IsRanking net policy g p s ys → map bare xs ≡ map bare ys
  same_places f g xs ys a b =
      one_list before (λ x h. not_itself x.router x.peer h) (λ x y z h k. precedes_through x.router y.router z.router x.peer y.peer z.peer h k) (map bare xs) (map bare ys)
      (bare_order f xs a) (bare_order g ys b) (bare_members f g xs ys a b) (bare_members g f ys xs b a)

module _ (net : PlainNet) (policy : PlainPolicy) (f : Failures) (p : PlainPrefix) (s : PlainStatement) (cut : Cut)
    (base after : List SourceRank) (ranked : IsRanking net policy f p s base) (reranked : IsRanking net policy (with_cut cut f) p s after) where
  abbrev Best : Failures → SourceRank → Option ℕ → Type 0
  Best g x rank = IsBestRank net policy g p s (begin_at x.router x.peer) rank

  moved : (g : Failures) (x y : SourceRank) → bare x ≡ bare y → (rank : Option ℕ) → Best g x rank → Best g y rank
  moved g x y same rank best = subst (λ (z : SourceRank). IsBestRank net policy g p s (begin_at z.router z.peer) rank) same best

  told : (y : SourceRank) → IsIn (changed base after) y → GetsAnotherRank net policy f p s cut y
  told y is =
      let found = in_changed base after (same_places net policy p s f (with_cut cut f) base after ranked reranked) y is in
      let x = found.0 in
      let mine = moved f x y found.3 x.rank (ranked.each x found.1).1 in
      let theirs = reranked.each y found.2 in
      record {
        source = theirs.0;
        after = theirs.1;
        before = λ kept.
            let one = best_ranks_are_one net policy f p s (begin_at y.router y.peer) x.rank y.rank mine kept in
            true≢false (sym (same_itself y.rank) ∙ ap (λ (o : Option ℕ). same_rank o y.rank) (sym one) ∙ found.4);
      }

  shown : (y : SourceRank) → GetsAnotherRank net policy f p s cut y → IsIn (changed base after) y
  shown y gets =
      let found = ranked.all y.router y.peer gets.source in
      let x = found.0 in
      let place = found.1.0 in
      let same = same_places net policy p s f (with_cut cut f) base after ranked reranked in
      let there = mapped_at bare after place (bare x) (sym (ap (λ (zs : List SourceRank). slice_get zs place) same) ∙ slice_get-map bare base place ∙ ap (option_map bare) found.1.1) in
      let z = there.0 in
      let alike : bare x ≡ bare y = λ n. record { router = found.2 n; peer = found.3 n; rank = None } in
      let is_y : bare z ≡ bare y = there.2 ∙ alike in
      let theirs = moved (with_cut cut f) z y is_y z.rank (reranked.each z (place, there.1)).1 in
      let rank = best_ranks_are_one net policy (with_cut cut f) p s (begin_at y.router y.peer) z.rank y.rank theirs gets.after in
      let one : z ≡ y = λ n. record { router = (is_y n).router; peer = (is_y n).peer; rank = rank n } in
      let mine = moved f x y alike x.rank (ranked.each x found.1).1 in
      to_changed base after place x y found.1.1 (there.1 ∙ ap Some one) (differs x (same_rank x.rank y.rank) refl mine)
    where
      differs : (x : SourceRank) (q : Bool) → same_rank x.rank y.rank ≡ q → Best f y x.rank → same_rank x.rank y.rank ≡ false
      differs x true is mine = absurd (gets.before (subst (λ (o : Option ℕ). Best f y o) (same_ones x.rank y.rank is) mine))
      differs x false is mine = is

pub rows_tell_other_ranks : RowsTellOtherRanks
rows_tell_other_ranks net policy f p s impact is row (i, h) x =
    let found = mapped_at (λ (cut : Cut). row_of cut (changed impact.base (is.after cut))) (live_cuts net f) i row (sym (ap (λ (rows : List CutRow). slice_get rows i) is.rows) ∙ h) in
    let cut = found.0 in
    subst (λ (r : CutRow). (IsIn r.changed x → GetsAnotherRank net policy f p s r.cut x) × (GetsAnotherRank net policy f p s r.cut x → IsIn r.changed x)) found.2
    (told net policy f p s cut impact.base (is.after cut) is.base (is.ranked cut) x, shown net policy f p s cut impact.base (is.after cut) is.base (is.ranked cut) x)
