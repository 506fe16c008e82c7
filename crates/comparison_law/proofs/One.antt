-- What two policies change is one thing, and so is their comparison.
use Rattle.std.proofs.Common.{◌≡◌, ℕ, ◌<◌, List, [], ◌∷◌, length, Some, refl, sym, ap, ◌∙◌, subst, arith, inl, inr, map}
use Rattle.std.specs.Prelude.{option_map, slice_get}
use Rattle.std.proofs.lemmas.Bool.{cases_lt}
use Rattle.std.proofs.lemmas.List.{length-map}
use Rattle.std.proofs.lemmas.Option.{same_Some, slice_get-map, slice_get_within}
use Rattle.list_law.specs.Members.{IsIn}
use Rattle.list_law.proofs.Items.{same_by_places, same_item, slice_get_inside}
use Rattle.list_law.proofs.Members.{IsIn-map}
use Rattle.net_base.specs.Network.{PlainNet}
use Rattle.net_base.specs.Prefixes.{PlainPrefix}
use Rattle.policy_base.specs.Policies.{PlainPolicy}
use Rattle.impact_law.proofs.OneImpact.{not_itself, one_list, precedes_through}
use Rattle.compare_base.specs.declared.pairs.Pair.{Pair}
use Rattle.compare_base.specs.declared.rows.Kind.{Kind}
use Rattle.compare_base.specs.declared.rows.PairChange.{PairChange}
use Rattle.compare_base.specs.declared.rows.Place.{Place}
use Rattle.compare_base.specs.declared.rows.Row.{Row}
use Rattle.compare_base.specs.declared.rows.Words.{Words}
use Rattle.compare_law.proofs.First.{first_walks}
use Rattle.comparison.specs.declared.values.ComparedPair.{ComparedPair}
use Rattle.pair_rows.proofs.EarlierRows.{rows_are_one}
use Rattle.row_words.specs.WordsOfRows.{shown_rows, words_of}
use Rattle.policy_pairs.proofs.OnePairs.{one_pairs}
use Rattle.pair_changes.specs.Changes.{AreCarriers, AreFirstWalks, ComesFirst, Differs, IsExample, IsKind, IsPairChange, paths}
use Rattle.comparison_law.specs.One.{ChangesAreOne, ComparisonsAreOne}

-- ---- examples

-- where each place has one list of walks, the example of some places is one
module _ (Has : Place → List (List ℕ) → Type 0) (once : (place : Place) (xs ys : List (List ℕ)) → Has place xs → Has place ys → xs ≡ ys) (places : List Place) where
  no_sooner : (xs ys : List (List ℕ)) (a : IsExample Has places xs) (b : IsExample Has places ys) → a.index < b.index → ⊥
  no_sooner xs ys a b less =
      let fewer = b.first a.index a.place less a.there in
      let no_more = a.most b.index b.place b.there in
      let mine = ap paths (once a.place fewer.0 xs fewer.1 a.has) in
      let theirs = ap paths (once b.place no_more.0 ys no_more.1 b.has) in
      absurd (omega (arith, fewer.2, no_more.2, mine, theirs))

  example_one : (xs ys : List (List ℕ)) → IsExample Has places xs → IsExample Has places ys → xs ≡ ys
  example_one xs ys a b = elim (cases_lt a.index b.index) [
    | inl t ↦ absurd (no_sooner xs ys a b t)
    | inr t ↦ elim (cases_lt b.index a.index) [
      | inl u ↦ absurd (no_sooner ys xs b a u)
      | inr u ↦
          let same : b.place ≡ a.place = same_item places b.index a.index b.place a.place b.there a.there (omega (arith, t, u)) in
          once a.place xs ys a.has (subst (λ (place : Place). Has place ys) same b.has)
    ]
  ]

-- ---- kinds

-- the first place of one kind comes before that of another
record IsBefore (a b : Kind) : Type 0 where
  one : Place
  other : Place
  is_first : slice_get a.places 0 ≡ Some one
  is_other : slice_get b.places 0 ≡ Some other
  before : ComesFirst one other

before_itself : (a : Kind) → IsBefore a a → ⊥
before_itself a is =
    let same : is.one ≡ is.other = same_Some is.one is.other (sym is.is_first ∙ is.is_other) in
    not_itself is.one.router is.one.peer (subst (ComesFirst is.one) (sym same) is.before)

before_through : (a b c : Kind) → IsBefore a b → IsBefore b c → IsBefore a c
before_through a b c x y =
    let same : x.other ≡ y.one = same_Some x.other y.one (sym x.is_other ∙ y.is_first) in
    let before = subst (λ (place : Place). ComesFirst place y.other) (sym same) y.before in
    record {
      one = x.one;
      other = y.other;
      is_first = x.is_first;
      is_other = y.is_other;
      before = precedes_through x.one.router x.other.router y.other.router x.one.peer x.other.peer y.other.peer x.before before;
    }

first_of : (places : List Place) (place : Place) → IsIn places place → (x : Place) × (slice_get places 0 ≡ Some x)
first_of [] place at = absurd (let is = at.1 in cc)
first_of (x ∷ xs) place at = (x, refl)

module _ (net : PlainNet) (old new : PlainPolicy) (p : PlainPrefix) where
  differs_one : (w v : Words) (r s : List Row) (place : Place) → Differs net old new p w r place → Differs net old new p v s place → (w ≡ v) × (r ≡ s)
  differs_one w v r s place a b =
      let rows = rows_are_one net old new p place a.rows b.rows a.are_rows b.are_rows in
      (same_Some w v (sym a.in_words ∙ ap words_of rows ∙ b.in_words), a.are_shown ∙ ap shown_rows rows ∙ sym b.are_shown)

  to_place : (a b : Kind) → IsKind net old new p a → IsKind net old new p b → a.words ≡ b.words → a.rows ≡ b.rows → (place : Place) → IsIn a.places place → IsIn b.places place
  to_place a b one other words rows place at =
      let differs = (one.places place).0 at in
      let there = subst (λ (w : Words). Differs net old new p w b.rows place) words (subst (λ (r : List Row). Differs net old new p a.words r place) rows differs) in
      (other.places place).1 there

  places_one : (a b : Kind) → IsKind net old new p a → IsKind net old new p b → a.words ≡ b.words → a.rows ≡ b.rows → a.places ≡ b.places
  places_one a b one other words rows =
      one_list ComesFirst (λ x h. not_itself x.router x.peer h) (λ x y z h k. precedes_through x.router y.router z.router x.peer y.peer z.peer h k) a.places b.places
      one.order other.order (to_place a b one other words rows) (to_place b a other one (sym words) (sym rows))

  walks_one : (rows : List Row) (place : Place) (xs ys : List (List ℕ)) → AreFirstWalks net old new p place rows xs → AreFirstWalks net old new p place rows ys → xs ≡ ys
  walks_one rows place xs ys a b = same_by_places xs ys (a.count ∙ sym b.count) (λ i x y at_x at_y.
      let row = slice_get_inside rows i (omega (arith, slice_get_within xs i x at_x, a.count)) in
      first_walks net old new p place.router place.peer row.0 x y (a.each i row.0 x row.1 at_x) (b.each i row.0 y row.1 at_y))

  kind_one : (a b : Kind) → IsKind net old new p a → IsKind net old new p b → a.words ≡ b.words → a.rows ≡ b.rows → a ≡ b
  kind_one a b one other words rows =
      let places = places_one a b one other words rows in
      let theirs =
      subst (λ (ps : List Place). IsExample (λ place. AreFirstWalks net old new p place a.rows) ps b.walks) (sym places)
      (subst (λ (xs : List Row). IsExample (λ place. AreFirstWalks net old new p place xs) b.places b.walks) (sym rows) other.example) in
      let walks = example_one (λ place. AreFirstWalks net old new p place a.rows) (walks_one a.rows) a.places a.walks b.walks one.example theirs in
      λ i. record { words = words i; rows = rows i; places = places i; walks = walks i }

  module _ (a b : PairChange) (one : IsPairChange net old new p a) (other : IsPairChange net old new p b) where
    kind_there : (kind : Kind) → IsIn a.kinds kind → IsIn b.kinds kind
    kind_there kind at =
        let is = one.each kind at in
        let place = is.example.place in
        let differs = (is.places place).0 (is.example.index, is.example.there) in
        let found = other.all kind.words kind.rows place differs in
        let theirs = other.each found.0 found.1 in
        let same = differs_one kind.words found.0.words kind.rows found.0.rows place differs ((theirs.places place).0 found.2) in
        subst (IsIn b.kinds) (sym (kind_one kind found.0 is theirs same.0 same.1)) found.1

    kinds_ordered : (i j : ℕ) (x y : Kind) → i < j → slice_get a.kinds i ≡ Some x → slice_get a.kinds j ≡ Some y → IsBefore x y
    kinds_ordered i j x y less at_x at_y =
        let is_x = (one.each x (i, at_x)).example in
        let is_y = (one.each y (j, at_y)).example in
        let first = first_of x.places is_x.place (is_x.index, is_x.there) in
        let second = first_of y.places is_y.place (is_y.index, is_y.there) in
        record { one = first.0; other = second.0; is_first = first.1; is_other = second.1; before = one.order i j x y less at_x at_y first.0 second.0 first.1 second.1 }

  carriers_one : (from to : PlainPolicy) (xs ys : List ℕ) → AreCarriers net old new p from to xs → AreCarriers net old new p from to ys → xs ≡ ys
  carriers_one from to xs ys a b =
      one_list (λ m n. m < n) (λ n h. absurd (omega (arith, h))) (λ l m n h k. omega (arith, h, k)) xs ys a.order b.order
      (λ r at. (b.those r).1 ((a.those r).0 at)) (λ r at. (a.those r).1 ((b.those r).0 at))

pub changes_are_one : ChangesAreOne
changes_are_one net old new p a b one other =
    let kinds : a.kinds ≡ b.kinds =
    one_list IsBefore before_itself before_through a.kinds b.kinds (kinds_ordered net old new p a b one other) (kinds_ordered net old new p b a other one)
    (kind_there net old new p a b one other) (kind_there net old new p b a other one) in
    let lost = carriers_one net old new p old new a.lost b.lost one.lost other.lost in
    let gained = carriers_one net old new p new old a.gained b.gained one.gained other.gained in
    λ i. record { kinds = kinds i; lost = lost i; gained = gained i }

-- ---- comparisons

abbrev pair_of : ComparedPair → Pair
pair_of x = x.pair

pub comparisons_are_one : ComparisonsAreOne
comparisons_are_one net old new xs ys kept kept_too one other = same_by_places xs ys long each
  where
    pairs : map pair_of xs ≡ map pair_of ys
    pairs = one_pairs net old new kept kept_too (map pair_of xs) (map pair_of ys) one.pairs other.pairs

    long : length xs ≡ length ys
    long = sym (length-map xs pair_of) ∙ ap length pairs ∙ length-map ys pair_of

    each : (i : ℕ) (x y : ComparedPair) → slice_get xs i ≡ Some x → slice_get ys i ≡ Some y → x ≡ y
    each i x y at_x at_y =
        let pair : x.pair ≡ y.pair = same_Some x.pair y.pair
        (sym (slice_get-map pair_of xs i ∙ ap (option_map pair_of) at_x) ∙ ap (λ (ps : List Pair). slice_get ps i) pairs ∙ slice_get-map pair_of ys i ∙ ap (option_map pair_of) at_y) in
        let has = (one.pairs.each x.pair (IsIn-map pair_of xs x (i, at_x))).has in
        let change = changes_are_one net old new has.0 x.change y.change (one.changes x has.0 (i, at_x) has.1 has.2)
        (other.changes y has.0 (i, at_y) has.1 (has.2 ∙ ap (λ (q : Pair). q.cases) pair)) in
        λ j. record { pair = pair j; change = change j }
