-- A pair that isn't told as differing is one of whose prefixes both policies say the same.
use Rattle.std.proofs.Common.{◌≡◌, cond, ℕ, suc, Bool, true, false, List, [], ◌∷◌, length, filter, Option, Some, None, refl, sym, ap, ◌∙◌, subst, inl, inr}
use Rattle.std.specs.Prelude.{◌||◌, not}
use Rattle.std.specs.List.{count_by}
use Rattle.std.proofs.lemmas.Bool.{cases_Bool, true≢false, false_from_ne_true}
use Rattle.std.proofs.lemmas.List.{nil_from_length}
use Rattle.std.proofs.lemmas.List.Sums.{length-filter}
use Rattle.std.proofs.lemmas.Slice.Eq.{bytes_eq-Decides}
use Rattle.list_law.specs.Members.{IsIn}
use Rattle.list_law.proofs.Members.{IsIn-map_parts, IsIn-map, IsIn-filter, IsIn-nil}
use Rattle.net_base.specs.declared.loc.LocSet.{LocSet}
use Rattle.net_base.specs.Network.{PlainNet, IsNet, is_peer}
use Rattle.net_base.specs.Prefixes.{PlainPrefix, IsPrefix}
use Rattle.net_base.specs.Sets.{IsWords, holds, same_set}
use Rattle.net_base.proofs.NetSetLaws.{holds-peers}
use Rattle.net_base.proofs.SetLaws.{IsWords-set_of, same_sets}
use Rattle.policy_base.specs.Policies.{PlainPolicy}
use Rattle.policy_base.specs.Governing.{is_origin_by, originated_at}
use Rattle.evidence_law.proofs.CaseLists.{set_is}
use Rattle.evidence_law.proofs.ClassFound.{originated_by}
use Rattle.compare_base.specs.Cases.{is_place, pair_for, says_something}
use Rattle.compare_base.specs.Ranks.{IsAlike}
use Rattle.compare_base.specs.declared.cases.CasePair.{CasePair}
use Rattle.compare_base.specs.declared.pairs.Pair.{Pair}
use Rattle.compare_base.specs.declared.rows.Kind.{Kind}
use Rattle.compare_law.specs.Laws.{RowsAgree}
use Rattle.compare_law.proofs.Rows.{rows_decide}
use Rattle.compare_law.proofs.Same.{same_served}
use Rattle.compare_law.proofs.Unsaid.{nothing_said}
use Rattle.comparison.specs.Changed.{have_same_origins, is_changed, is_nothing, origin_set}
use Rattle.comparison.specs.declared.values.ComparedPair.{ComparedPair}
use Rattle.pair_changes.specs.Changes.{IsPairChange}
use Rattle.comparison_law.specs.Laws.{HaveSets, SamePoliciesAreUnchanged, ToldPairsDiffer, UnchangedPoliciesAreSame, UnchangedPoliciesAreServedAlike, UntoldPrefixesAreAlike}
use Rattle.comparison_law.proofs.Agreeing.{rows_agree, rows_differ}

-- ---- origins

set_holds : (net : PlainNet) → IsNet net → (o : Option LocSet) (l : ℕ) → holds (origin_set net o) l ≡ is_origin_by net o l
set_holds net rules None l = ap (λ (set : ℕ → Bool). set l) (holds-peers net rules)
set_holds net rules (Some at) l = refl

are_sets : (s t : LocSet) → s ≡ t → same_set s t ≡ true
are_sets s t same = (bytes_eq-Decides s.words t.words).1 (ap (λ (set : LocSet). set.words) same)

module _ (net : PlainNet) (rules : IsNet net) where
  origins_from : (a b : Option LocSet) → same_set (origin_set net a) (origin_set net b) ≡ true → (l : ℕ) → is_origin_by net a l ≡ is_origin_by net b l
  origins_from a b same l =
      sym (set_holds net rules a l) ∙ ap (λ (set : LocSet). holds set l) (set_is (origin_set net a) (origin_set net b) same) ∙ set_holds net rules b l

  origins_to : (a b : Option LocSet) → IsWords (origin_set net a) → IsWords (origin_set net b) → ((l : ℕ) → is_origin_by net a l ≡ is_origin_by net b l)
      → same_set (origin_set net a) (origin_set net b) ≡ true
  origins_to a b one other same =
      are_sets (origin_set net a) (origin_set net b)
      (same_sets (origin_set net a) (origin_set net b) one other (λ l low. set_holds net rules a l ∙ same l ∙ sym (set_holds net rules b l)))

  words_are : (policy : PlainPolicy) (p : PlainPrefix) → HaveSets policy → (o : Option LocSet) → originated_at policy.origins p ≡ o → IsWords (origin_set net o)
  words_are policy p sets None is = IsWords-set_of (is_peer net)
  words_are policy p sets (Some at) is = let item = originated_by policy.origins p at is in subst IsWords item.3 (sets item.0 item.1)

-- ---- one pair

first_of : (kinds : List Kind) → is_nothing kinds ≡ false → (kind : Kind) × IsIn kinds kind
first_of [] some = absurd (true≢false some)
first_of (kind ∷ kinds) some = (kind, (0, refl))

none_in : (kinds : List Kind) (kind : Kind) → is_nothing kinds ≡ true → IsIn kinds kind → ⊥
none_in [] kind none at = IsIn-nil kind at
none_in (k ∷ kinds) kind none at = absurd (true≢false (sym none))

neither : (a b : Bool) → (not a || not b) ≡ false → (a ≡ true) × (b ≡ true)
neither true true is = (refl, refl)
neither true false is = absurd cc
neither false b is = absurd cc

both_hold : (a b : Bool) → a ≡ true → b ≡ true → (not a || not b) ≡ false
both_hold true true one other = refl
both_hold true false one other = absurd cc
both_hold false b one other = absurd cc

module _ (net : PlainNet) (old new : PlainPolicy) (p : PlainPrefix) (rules : IsNet net) (x : ComparedPair) (has : pair_for old new p ≡ x.pair.cases) (change : IsPairChange net old new p x.change) where
  alike_where_untold : is_changed net x ≡ false → IsAlike net old new p
  alike_where_untold untold =
      let parts = neither (have_same_origins net x.pair.cases) (is_nothing x.change.kinds) untold in
      let same = subst (λ (cases : CasePair). have_same_origins net cases ≡ true) (sym has) parts.0 in
      (rows_decide net old new p rules).1 (origins_from net rules (originated_at old.origins p) (originated_at new.origins p) same, agree parts.1)
    where
      agree : is_nothing x.change.kinds ≡ true → (r : ℕ) (peer : Option ℕ) → is_place net (pair_for old new p) r peer ≡ true → RowsAgree net old new p r peer
      agree none r peer place =
          rows_agree net old new p (record { router = r; peer = peer }) place
          (λ words shown differs. let kind = change.all words shown (record { router = r; peer = peer }) differs in none_in x.change.kinds kind.0 none kind.1)

  untold_where_alike : HaveSets old → HaveSets new → IsAlike net old new p → is_changed net x ≡ false
  untold_where_alike old_sets new_sets alike =
      let same =
      origins_to net rules (originated_at old.origins p) (originated_at new.origins p) (words_are net rules old p old_sets (originated_at old.origins p) refl)
      (words_are net rules new p new_sets (originated_at new.origins p) refl) alike.origins in
      let origins : have_same_origins net x.pair.cases ≡ true = subst (λ (cases : CasePair). have_same_origins net cases ≡ true) has same in
      both_hold (have_same_origins net x.pair.cases) (is_nothing x.change.kinds) origins nothing
    where
      nothing : is_nothing x.change.kinds ≡ true
      nothing = elim (cases_Bool (is_nothing x.change.kinds)) [
        | inl none ↦ none
        | inr some ↦
            let kind = first_of x.change.kinds some in
            let shown = (change.each kind.0 kind.1).example in
            let differs = ((change.each kind.0 kind.1).places shown.place).0 (shown.index, shown.there) in
            absurd (rows_differ net old new p shown.place kind.0.words kind.0.rows differs
            (((rows_decide net old new p rules).0 alike).1 shown.place.router shown.place.peer differs.is_place))
      ]

-- ---- all pairs

pub untold_prefixes : UntoldPrefixesAreAlike
untold_prefixes net old new xs p rules is prefix untold = elim (cases_Bool (says_something net (pair_for old new p))) [
  | inr nothing ↦ nothing_said net old new p nothing
  | inl some ↦
      let pair = is.pairs.all p prefix some in
      let item = IsIn-map_parts (λ (x : ComparedPair). x.pair) xs pair.0 pair.1 in
      let has : pair_for old new p ≡ item.0.pair.cases = sym pair.2 ∙ ap (λ (y : Pair). y.cases) (sym item.2) in
      alike_where_untold net old new p rules item.0 has (is.changes item.0 p item.1 prefix has) (untold item.0 item.1 has)
]

pub told_pairs : ToldPairsDiffer
told_pairs net old new xs x rules old_sets new_sets is at told =
    let pair = is.pairs.each x.pair (IsIn-map (λ (y : ComparedPair). y.pair) xs x at) in
    ((pair.has.0, pair.has.1, pair.has.2), differ)
  where
    differ : (p : PlainPrefix) → IsPrefix p → pair_for old new p ≡ x.pair.cases → ¬ IsAlike net old new p
    differ p prefix has alike = true≢false (sym told ∙ untold_where_alike net old new p rules x has (is.changes x p at prefix has) old_sets new_sets alike)

none_counted : {A : Type 0} (test : A → Bool) (xs : List A) (x : A) → count_by test xs ≡ 0 → IsIn xs x → test x ≡ false
none_counted test xs x none at = false_from_ne_true (test x) (λ is.
    IsIn-nil x (subst (λ ys. IsIn ys x) (nil_from_length (filter test xs) (length-filter test xs ∙ none)) (IsIn-filter test xs x at is)))

none_left : {A : Type 0} (test : A → Bool) (xs : List A) → ((x : A) → IsIn xs x → test x ≡ false) → filter test xs ≡ []
none_left test [] none = refl
none_left test (x ∷ xs) none =
    ap (λ b. cond b (x ∷ filter test xs) (filter test xs)) (none x (0, refl)) ∙ none_left test xs (λ y at. none y (suc at.0, at.1))

counted_none : {A : Type 0} (test : A → Bool) (xs : List A) → ((x : A) → IsIn xs x → test x ≡ false) → count_by test xs ≡ 0
counted_none test xs none = sym (length-filter test xs) ∙ ap length (none_left test xs none)

pub unchanged_same : UnchangedPoliciesAreSame
unchanged_same net old new xs rules is none p prefix = untold_prefixes net old new xs p rules is prefix (λ x at has. none_counted (is_changed net) xs x none at)

pub same_unchanged : SamePoliciesAreUnchanged
same_unchanged net old new xs rules old_sets new_sets is same = counted_none (is_changed net) xs untold
  where
    untold : (x : ComparedPair) → IsIn xs x → is_changed net x ≡ false
    untold x at = false_from_ne_true (is_changed net x) (λ told.
        let differs = told_pairs net old new xs x rules old_sets new_sets is at told in
        differs.1 differs.0.0 differs.0.1 differs.0.2 (same differs.0.0 differs.0.1))

pub served_alike : UnchangedPoliciesAreServedAlike
served_alike net old new xs config rules is none = same_served net old new config rules (unchanged_same net old new xs rules is none)
