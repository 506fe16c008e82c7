-- Kinds of places, as one place after the other joins.
use Rattle.std.proofs.Common.{◌≡◌, ℕ, zero, suc, ◌+◌, ◌<◌, Bool, true, false, List, [], ◌∷◌, ◌++◌, filter, get_or, length, set, refl, sym, ap, ◌∙◌, subst, arith, inl, inr, Option, Some, None, length-append}
use Rattle.std.specs.Prelude.{slice_get, if◌then◌else◌}
use Rattle.std.specs.List.{list_any, position}
use Rattle.std.proofs.lemmas.Bool.{cases_Bool, cases_eq, cases_lt, true≢false}
use Rattle.std.proofs.lemmas.List.{append-nil}
use Rattle.std.proofs.lemmas.List.Elements.{filter-append}
use Rattle.std.proofs.lemmas.Option.{get_or_from_slice_get, same_Some, slice_get_within}
use Rattle.group_law.proofs.Joining.{filter_nothing}
use Rattle.list_law.specs.Members.{IsIn}
use Rattle.list_law.proofs.Changed.{filter_same}
use Rattle.list_law.proofs.Items.{from_behind, from_front, slice_get_in_front}
use Rattle.list_law.proofs.Members.{IsIn-append_left, IsIn-filter_parts, IsIn-nil, IsIn-push, IsIn-push_cases, list_any-from_IsIn}
use Rattle.list_law.proofs.Options.{none_or_some}
use Rattle.list_law.proofs.Positions.{find-position, list_any-at_position, list_any-no_position}
use Rattle.list_law.proofs.Tests.{find-any, find_parts}
use Rattle.impact_law.proofs.OneImpact.{not_itself}
use Rattle.compare_base.specs.declared.rows.Kind.{Kind}
use Rattle.compare_base.specs.declared.rows.Place.{Place}
use Rattle.pair_rows.proofs.SetItems.{item_set, kept, replaced, set_elsewhere, set_there}
use Rattle.pair_changes.specs.declared.ways.Way.{Way}
use Rattle.pair_changes.specs.Changes.{ComesBefore, ComesFirst}
use Rattle.pair_changes.specs.Kinds.{AreKinds, differs_so, is_of}
use Rattle.pair_changes.proofs.KindTests.{differs_alike, of_from, of_parts}

-- ---- kinds

pub kinds_none : (way : Place → Option Way) → AreKinds way [] []
kinds_none way = record {
  each = λ k at. absurd (IsIn-nil k at);
  some = λ k at. absurd (IsIn-nil k at);
  all = λ q w at. absurd (IsIn-nil q at);
  order = λ i j a b less at. absurd (IsIn-nil a (i, at));
}

module _ (way : Place → Option Way) (done : List Place) (kinds : List Kind) (are : AreKinds way done kinds) (place : Place) where
  abbrev of_kind : Kind → Place → Bool
  of_kind k q = differs_so k (way q)

  -- the places of a kind, with one more
  grown : (k : Kind) (b : Bool) → of_kind k place ≡ b → filter (of_kind k) (done ++ place ∷ []) ≡ filter (of_kind k) done ++ (if b then place ∷ [] else [])
  grown k b is = filter-append (of_kind k) done (place ∷ []) ∙ ap (λ c. filter (of_kind k) done ++ (if c then place ∷ [] else [])) is

  grown_on : (k : Kind) → of_kind k place ≡ true → filter (of_kind k) done ++ place ∷ [] ≡ filter (of_kind k) (done ++ place ∷ [])
  grown_on k is = sym (grown k true is)

  grown_off : (k : Kind) → of_kind k place ≡ false → filter (of_kind k) done ≡ filter (of_kind k) (done ++ place ∷ [])
  grown_off k is = sym (grown k false is ∙ append-nil (filter (of_kind k) done))

  -- a place that doesn't differ
  pub kinds_same : way place ≡ None → AreKinds way (done ++ place ∷ []) kinds
  kinds_same none = record {
    each = λ k at. are.each k at ∙ grown_off k (ap (differs_so k) none);
    some = are.some;
    all = λ q w at is. elim (IsIn-push_cases done place q at) [
      | inl t ↦ are.all q w t is
      | inr t ↦ absurd (none_or_some (way q) w (ap way (sym t) ∙ none) is)
    ];
    order = are.order;
  }

  module _ (w : Way) (is : way place ≡ Some w) where
    same_way : (q : Place) (v : Way) → place ≡ q → way q ≡ Some v → w ≡ v
    same_way q v same at = same_Some w v (sym is ∙ ap way same ∙ at)

    off_kind : (k : Kind) → is_of w k ≡ false → of_kind k place ≡ false
    off_kind k t = ap (differs_so k) is ∙ t

    on_kind : (k : Kind) → is_of w k ≡ true → of_kind k place ≡ true
    on_kind k t = ap (differs_so k) is ∙ t

    -- ---- the place joins a kind

    module _ (i : ℕ) (k : Kind) (at_k : slice_get kinds i ≡ Some k) (on : is_of w k ≡ true) where
      abbrev joined : Kind
      joined = record { words = k.words; rows = k.rows; places = k.places ++ place ∷ []; walks = k.walks }

      -- no other kind is of places that differ so
      not_before : (m n : ℕ) (a b : Kind) → m < n → slice_get kinds m ≡ Some a → slice_get kinds n ≡ Some b → is_of w a ≡ true → is_of w b ≡ true → ⊥
      not_before m n a b less at_a at_b on_a on_b =
          let one = of_parts w a on_a in
          let other = of_parts w b on_b in
          let alike : a.places ≡ b.places =
          are.each a (m, at_a) ∙ filter_same (of_kind a) (of_kind b) done (λ q _. differs_alike a b (one.0 ∙ sym other.0) (one.1 ∙ sym other.1) (way q)) ∙ sym (are.each b (n, at_b)) in
          let first = are.some a (m, at_a) in
          let again : slice_get b.places 0 ≡ Some first.0 = ap (λ (ps : List Place). slice_get ps 0) (sym alike) ∙ first.1 in
          not_itself first.0.router first.0.peer (are.order m n a b less at_a at_b first.0 first.0 first.1 again)

      only : (j : ℕ) (a : Kind) → slice_get kinds j ≡ Some a → is_of w a ≡ true → j ≡ i
      only j a at on_a = elim (cases_lt i j) [
        | inl t ↦ absurd (not_before i j k a t at_k at on on_a)
        | inr t ↦ elim (cases_lt j i) [
          | inl u ↦ absurd (not_before j i a k u at at_k on_a on)
          | inr u ↦ omega (arith, t, u)
        ]
      ]

      off_other : (j : ℕ) (a : Kind) → slice_get kinds j ≡ Some a → (j ≡ i → ⊥) → is_of w a ≡ false
      off_other j a at off = elim (cases_Bool (is_of w a)) [
        | inl t ↦ absurd (off (only j a at t))
        | inr t ↦ t
      ]

      first_joined : (x : Place) → slice_get joined.places 0 ≡ Some x → slice_get k.places 0 ≡ Some x
      first_joined x at =
          let first = are.some k (i, at_k) in
          first.1 ∙ sym (slice_get_in_front k.places (place ∷ []) 0 first.0 first.1) ∙ at

      each_joined : (a : Kind) → IsIn (set kinds i joined) a → a.places ≡ filter (of_kind a) (done ++ place ∷ [])
      each_joined a (j, at) = elim (item_set kinds i joined j a at) [
        | replaced here same ↦ subst (λ (b : Kind). b.places ≡ filter (of_kind b) (done ++ place ∷ [])) same
            (ap (λ (ps : List Place). ps ++ place ∷ []) (are.each k (i, at_k)) ∙ grown_on k (on_kind k on))
        | kept off there ↦ are.each a (j, there) ∙ grown_off a (off_kind a (off_other j a there off))
      ]

      some_joined : (a : Kind) → IsIn (set kinds i joined) a → (x : Place) × (slice_get a.places 0 ≡ Some x)
      some_joined a (j, at) = elim (item_set kinds i joined j a at) [
        | replaced here same ↦
            let first = are.some k (i, at_k) in
            (first.0, ap (λ (b : Kind). slice_get b.places 0) (sym same) ∙ slice_get_in_front k.places (place ∷ []) 0 first.0 first.1)
        | kept off there ↦ are.some a (j, there)
      ]

      still : (v : Way) (a : Kind) → IsIn kinds a → is_of v a ≡ true → (b : Kind) × IsIn (set kinds i joined) b × (is_of v b ≡ true)
      still v a (j, at) on_a = elim (cases_eq j i) [
        | inl t ↦
            let same : a ≡ k = same_Some a k (sym at ∙ ap (slice_get kinds) t ∙ at_k) in
            (joined, (i, set_there kinds i joined k at_k), ap (λ (b : Kind). is_of v b) (sym same) ∙ on_a)
        | inr t ↦ (a, (j, set_elsewhere kinds i joined j a t at), on_a)
      ]

      all_joined : (q : Place) (v : Way) → IsIn (done ++ place ∷ []) q → way q ≡ Some v → (b : Kind) × IsIn (set kinds i joined) b × (is_of v b ≡ true)
      all_joined q v at differs = elim (IsIn-push_cases done place q at) [
        | inl t ↦ let a = are.all q v t differs in still v a.0 a.1 a.2
        | inr t ↦ (joined, (i, set_there kinds i joined k at_k), ap (λ (u : Way). is_of u k) (sym (same_way q v t differs)) ∙ on)
      ]

      before_joined : (m n : ℕ) (a b : Kind) → m < n → slice_get (set kinds i joined) m ≡ Some a → slice_get (set kinds i joined) n ≡ Some b → ComesBefore a b
      before_joined m n a b less at_a at_b x y first_a first_b = elim (item_set kinds i joined m a at_a) [
        | replaced is_m same_a ↦
            let first : slice_get k.places 0 ≡ Some x = first_joined x (ap (λ (c : Kind). slice_get c.places 0) same_a ∙ first_a) in
            elim (item_set kinds i joined n b at_b) [
              | replaced is_n same_b ↦ absurd (omega (arith, less, is_m, is_n))
              | kept off there ↦ are.order i n k b (omega (arith, less, is_m)) at_k there x y first first_b
            ]
        | kept off_a there_a ↦ elim (item_set kinds i joined n b at_b) [
          | replaced is_n same_b ↦
              let first : slice_get k.places 0 ≡ Some y = first_joined y (ap (λ (c : Kind). slice_get c.places 0) same_b ∙ first_b) in
              are.order m i a k (omega (arith, less, is_n)) there_a at_k x y first_a first
          | kept off there ↦ are.order m n a b less there_a there x y first_a first_b
        ]
      ]

      pub kinds_joined : AreKinds way (done ++ place ∷ []) (set kinds i joined)
      kinds_joined = record { each = each_joined; some = some_joined; all = all_joined; order = before_joined }

    -- ---- the place begins a kind

    module _ (fresh : list_any (is_of w) kinds ≡ false) (last : (q : Place) → IsIn done q → ComesFirst q place) where
      abbrev begun : Kind
      begun = record { words = w.words; rows = w.rows; places = place ∷ []; walks = [] }

      off : (a : Kind) → IsIn kinds a → is_of w a ≡ false
      off a at = elim (cases_Bool (is_of w a)) [
        | inl t ↦ absurd (true≢false (sym (list_any-from_IsIn (is_of w) kinds a at t) ∙ fresh))
        | inr t ↦ t
      ]

      none_before : (q : Place) → IsIn done q → of_kind begun q ≡ false
      none_before q at = by (way q) refl
        where
          by : (o : Option Way) → way q ≡ o → differs_so begun o ≡ false
          by None differs = refl
          by (Some v) differs = elim (cases_Bool (is_of v begun)) [
            | inl t ↦
                let one = of_parts v begun t in
                let a = are.all q v at differs in
                let other = of_parts v a.0 a.2 in
                absurd (true≢false (sym (of_from w a.0 (other.0 ∙ sym one.0) (other.1 ∙ sym one.1)) ∙ off a.0 a.1))
            | inr t ↦ t
          ]

      begun_on : is_of w begun ≡ true
      begun_on = of_from w begun refl refl

      each_begun : (a : Kind) → IsIn (kinds ++ begun ∷ []) a → a.places ≡ filter (of_kind a) (done ++ place ∷ [])
      each_begun a at = elim (IsIn-push_cases kinds begun a at) [
        | inl t ↦ are.each a t ∙ grown_off a (off_kind a (off a t))
        | inr t ↦ subst (λ (b : Kind). b.places ≡ filter (of_kind b) (done ++ place ∷ [])) t
            (ap (λ (ps : List Place). ps ++ place ∷ []) (sym (filter_nothing (of_kind begun) done none_before)) ∙ grown_on begun (on_kind begun begun_on))
      ]

      some_begun : (a : Kind) → IsIn (kinds ++ begun ∷ []) a → (x : Place) × (slice_get a.places 0 ≡ Some x)
      some_begun a at = elim (IsIn-push_cases kinds begun a at) [
        | inl t ↦ are.some a t
        | inr t ↦ (place, ap (λ (b : Kind). slice_get b.places 0) (sym t))
      ]

      all_begun : (q : Place) (v : Way) → IsIn (done ++ place ∷ []) q → way q ≡ Some v → (b : Kind) × IsIn (kinds ++ begun ∷ []) b × (is_of v b ≡ true)
      all_begun q v at differs = elim (IsIn-push_cases done place q at) [
        | inl t ↦ let a = are.all q v t differs in (a.0, IsIn-append_left kinds (begun ∷ []) a.0 a.1, a.2)
        | inr t ↦ (begun, IsIn-push kinds begun, ap (λ (u : Way). is_of u begun) (sym (same_way q v t differs)) ∙ begun_on)
      ]

      before_begun : (m n : ℕ) (a b : Kind) → m < n → slice_get (kinds ++ begun ∷ []) m ≡ Some a → slice_get (kinds ++ begun ∷ []) n ≡ Some b → ComesBefore a b
      before_begun m n a b less at_a at_b x y first_a first_b =
          let within : n < length kinds + 1 = omega (arith, slice_get_within (kinds ++ begun ∷ []) n b at_b, length-append kinds (begun ∷ [])) in
          let there_a : slice_get kinds m ≡ Some a = from_front kinds (begun ∷ []) m a at_a (omega (arith, less, within)) in
          elim (IsIn-push_cases kinds begun b (n, at_b)) [
            | inl t ↦ elim (cases_lt n (length kinds)) [
              | inl u ↦ are.order m n a b less there_a (from_front kinds (begun ∷ []) n b at_b u) x y first_a first_b
              | inr u ↦ at_last x y there_a first_a (from_behind kinds (begun ∷ []) n b at_b u) first_b
            ]
            | inr t ↦ at_place x y there_a first_a (sym (same_Some place y (ap (λ (c : Kind). slice_get c.places 0) t ∙ first_b)))
          ]
        where
          at_place : (x y : Place) → slice_get kinds m ≡ Some a → slice_get a.places 0 ≡ Some x → y ≡ place → ComesFirst x y
          at_place x y there first is_place =
              let among : IsIn (filter (of_kind a) done) x = subst (λ (ps : List Place). IsIn ps x) (are.each a (m, there)) (0, first) in
              subst (λ (z : Place). ComesFirst x z) (sym is_place) (last x (IsIn-filter_parts (of_kind a) done x among).0)

          at_last : (x y : Place) → slice_get kinds m ≡ Some a → slice_get a.places 0 ≡ Some x → (j : ℕ) × (slice_get (begun ∷ []) j ≡ Some b) → slice_get b.places 0 ≡ Some y → ComesFirst x y
          at_last x y there first (zero, at) first_b = at_place x y there first (sym (same_Some place y (ap (λ (c : Kind). slice_get c.places 0) (same_Some begun b at) ∙ first_b)))
          at_last x y there first (suc j, at) first_b = absurd cc

      pub kinds_begun : AreKinds way (done ++ place ∷ []) (kinds ++ begun ∷ [])
      kinds_begun = record { each = each_begun; some = some_begun; all = all_begun; order = before_begun }

-- the first item that passes a test
pub position_parts : {A : Type 0} (p : A → Bool) (xs : List A) (i : ℕ) → position p xs ≡ Some i → (x : A) × (slice_get xs i ≡ Some x) × (p x ≡ true)
position_parts p xs i is =
    let found = find-any p xs (list_any-at_position p xs i is) in
    let parts = find_parts p xs found.0 found.1 in
    (found.0, sym (find-position p xs i is) ∙ found.1, parts.2)

-- a kind that joins is set, and one that begins is put behind the others
pub added_kind : (way : Place → Option Way) (done : List Place) (kinds : List Kind) (place : Place) (w : Way) (i : ℕ) (v : Kind) (after : List Kind) → AreKinds way done kinds
    → way place ≡ Some w → position (is_of w) kinds ≡ Some i → v ≡ get_or kinds i v
    → after ≡ set kinds i (record { words = v.words; rows = v.rows; places = v.places ++ place ∷ []; walks = v.walks }) → AreKinds way (done ++ place ∷ []) after
added_kind way done kinds place w i v after are is found read written =
    let k = position_parts (is_of w) kinds i found in
    let same : v ≡ k.0 = read ∙ get_or_from_slice_get kinds i k.0 v k.1 in
    subst (λ (ks : List Kind). AreKinds way (done ++ place ∷ []) ks)
    (sym (written ∙ ap (λ (u : Kind). set kinds i (record { words = u.words; rows = u.rows; places = u.places ++ place ∷ []; walks = u.walks })) same))
    (kinds_joined way done kinds are place w is i k.0 k.1 k.2)

pub begun_kind : (way : Place → Option Way) (done : List Place) (kinds : List Kind) (place : Place) (w : Way) (k : Kind) (after : List Kind) → AreKinds way done kinds
    → way place ≡ Some w → position (is_of w) kinds ≡ None → ((q : Place) → IsIn done q → ComesFirst q place)
    → k ≡ record { words = w.words; rows = w.rows; places = place ∷ []; walks = [] } → after ≡ kinds ++ k ∷ [] → AreKinds way (done ++ place ∷ []) after
begun_kind way done kinds place w k after are is none last made written =
    subst (λ (ks : List Kind). AreKinds way (done ++ place ∷ []) ks) (sym (written ∙ ap (λ (u : Kind). kinds ++ u ∷ []) made))
    (kinds_begun way done kinds are place w is (list_any-no_position (is_of w) kinds none) last)
