-- Marks of links as far as a loop has come, and the links that are marked.
use Rattle.std.proofs.Common.{◌≡◌, ℕ, ◌+◌, ◌<◌, zero, suc, Bool, true, false, List, [], ◌∷◌, ◌++◌, length, get_or, set}
use Rattle.std.proofs.Common.{take, replicate, Some, None, add-one, ◌⊎◌, map, append-nil, refl, sym, ap, ◌∙◌, arith, inl, inr}
use Rattle.std.specs.Prelude.{◌&&◌, ◌||◌, ◌==◌, filter, if◌then◌else◌, not, slice_get}
use Rattle.std.specs.List.{items_where_true, list_any, position}
use Rattle.std.specs.Option.{option_map_or}
use Rattle.std.proofs.Math.Bool.{or-true}
use Rattle.std.proofs.lemmas.Bool.{cases_eq, eq-eqb, eqb-true, false_from_ne_true}
use Rattle.std.proofs.lemmas.List.{get_or-set_other, get_or-set_same, get_or_default, length-replicate, map-append}
use Rattle.std.proofs.lemmas.List.Elements.{filter_more}
use Rattle.std.proofs.lemmas.List.Folds.{list_any_more}
use Rattle.std.proofs.lemmas.List.Quantifiers.{position-Some}
use Rattle.list_law.specs.Members.{IsIn}
use Rattle.list_law.proofs.Members.{IsIn-later}
use Rattle.list_law.proofs.Options.{option_map_or_equal}
use Rattle.list_law.proofs.Positions.{list_any-at_position}
use Rattle.list_law.proofs.Truth.{or_failed, same_tests}
use Rattle.list_law.proofs.Items.{get_or-replicate_same}
use Rattle.list_law.proofs.Tests.{list_any-same}
use Rattle.net_base.specs.Network.{PlainNet, joins, linked}
use Rattle.net_base.proofs.Links.{joins_ends, joins_straight, joins_turned, position-joins_flips}
use Rattle.outcome_claims.specs.Marks.{AreMarks, is_at}

-- before any pair
pub no_marks : (net : PlainNet) → AreMarks net [] (replicate (length net.links) false)
no_marks net = record { size = length-replicate (length net.links) false; at = λ i within. get_or-replicate_same (length net.links) i false }

module _ (net : PlainNet) (pairs : List (ℕ × ℕ)) (i : ℕ) (d : ℕ × ℕ) (within : i < length pairs) (marks : List Bool) (before : AreMarks net (take i pairs) marks) where
  abbrev pair : ℕ × ℕ
  pair = get_or pairs i d

  more : (j : ℕ) → list_any (is_at net j) (take (i + 1) pairs) ≡ (list_any (is_at net j) (take i pairs) || is_at net j pair)
  more j = list_any_more (is_at net j) pairs i d within

  -- the link of a pair is marked
  pub mark_there : (place : ℕ) (size : length (set marks place true) ≡ length marks) → position (joins pair.0 pair.1) net.links ≡ Some place → AreMarks net (take (i + 1) pairs) (set marks place true)
  mark_there place size found = record { size = size ∙ before.size; at = λ j inside. each j inside }
    where
      is : (j : ℕ) → is_at net j pair ≡ (place == j)
      is j = ap (λ o. option_map_or (λ k. k == j) o false) found

      each : (j : ℕ) → j < length net.links → get_or (set marks place true) j false ≡ list_any (is_at net j) (take (i + 1) pairs)
      each j inside = elim (cases_eq j place) [
        | inl here ↦
            ap (λ k. get_or (set marks place true) k false) here
            ∙ get_or-set_same marks place true false (omega (arith, here, inside, before.size))
            ∙ sym (more j ∙ ap (λ o. list_any (is_at net j) (take i pairs) || o) (is j ∙ eq-eqb place j (sym here)) ∙ or-true (list_any (is_at net j) (take i pairs)))
        | inr there ↦
            get_or-set_other marks place j true false there
            ∙ before.at j inside
            ∙ sym (more j ∙ or_failed (list_any (is_at net j) (take i pairs)) (is_at net j pair) (is j ∙ false_from_ne_true _ (λ t. there (sym (eqb-true place j t)))))
      ]

  -- a pair that is no link is passed over
  pub mark_past : position (joins pair.0 pair.1) net.links ≡ None → AreMarks net (take (i + 1) pairs) marks
  mark_past none = record {
    size = before.size;
    at = λ j inside. before.at j inside ∙ sym (more j ∙ or_failed (list_any (is_at net j) (take i pairs)) (is_at net j pair) (ap (λ o. option_map_or (λ k. k == j) o false) none));
  }

-- ---- what marks of links tell of two locations

module _ (net : PlainNet) (a b : ℕ) where
  -- the pairs whose link is that of the two are those that join them
  module _ (i : ℕ) (found : position (joins a b) net.links ≡ Some i) where
    abbrev link : ℕ × ℕ
    link = get_or net.links i (0, 0)

    on_link : joins a b link ≡ true
    on_link = (position-Some (joins a b) net.links i (0, 0) found).1

    joined_at : (e : ℕ × ℕ) → joins a b e ≡ true → is_at net i e ≡ true
    joined_at e h = ap (λ o. option_map_or (λ k. k == i) o false) (there (joins_ends a b e h)) ∙ eq-eqb i i refl
      where
        there : ((e.0 ≡ a) × (e.1 ≡ b)) ⊎ ((e.0 ≡ b) × (e.1 ≡ a)) → position (joins e.0 e.1) net.links ≡ Some i
        there (inl same) = (λ k. position (joins (same.0 k) (same.1 k)) net.links) ∙ found
        there (inr other) = (λ k. position (joins (other.0 k) (other.1 k)) net.links) ∙ sym (position-joins_flips a b net.links) ∙ found

    at_joined : (e : ℕ × ℕ) → is_at net i e ≡ true → joins a b e ≡ true
    at_joined e h = both (joins_ends a b link on_link) (joins_ends e.0 e.1 link (position-Some (joins e.0 e.1) net.links i (0, 0) (option_map_or_equal (position (joins e.0 e.1) net.links) i h)).1)
      where
        both : ((link.0 ≡ a) × (link.1 ≡ b)) ⊎ ((link.0 ≡ b) × (link.1 ≡ a)) → ((link.0 ≡ e.0) × (link.1 ≡ e.1)) ⊎ ((link.0 ≡ e.1) × (link.1 ≡ e.0)) → joins a b e ≡ true
        both (inl x) (inl y) = joins_straight a b e (sym y.0 ∙ x.0) (sym y.1 ∙ x.1)
        both (inl x) (inr y) = joins_turned a b e (sym y.1 ∙ x.1) (sym y.0 ∙ x.0)
        both (inr x) (inl y) = joins_turned a b e (sym y.0 ∙ x.0) (sym y.1 ∙ x.1)
        both (inr x) (inr y) = joins_straight a b e (sym y.1 ∙ x.1) (sym y.0 ∙ x.0)

    joined : linked net a b ≡ true
    joined = list_any-at_position (joins a b) net.links i found

    -- so the mark of their link tells whether one of the pairs joins them
    pub mark_is : (pairs : List (ℕ × ℕ)) (marks : List Bool) (d : Bool) → AreMarks net pairs marks → get_or marks i d ≡ (linked net a b && list_any (joins a b) pairs)
    mark_is pairs marks d are =
        let within = (position-Some (joins a b) net.links i (0, 0) found).0 in
        let same = list_any-same (is_at net i) (joins a b) (λ e. same_tests (is_at net i e) (joins a b e) (at_joined e) (joined_at e)) pairs in
        get_or_default marks i d false (omega (arith, within, are.size)) ∙ are.at i within ∙ same ∙ sym (ap (λ o. o && list_any (joins a b) pairs) joined)

    -- or none of them does
    pub mark_read : (pairs : List (ℕ × ℕ)) (marks : List Bool) (d : Bool) → AreMarks net pairs marks → not (get_or marks i d) ≡ (linked net a b && not (list_any (joins a b) pairs))
    mark_read pairs marks d are =
        let found_one = list_any (joins a b) pairs in
        ap not (mark_is pairs marks d are ∙ ap (λ o. o && found_one) joined) ∙ sym (ap (λ o. o && not found_one) joined)

-- ---- the items where the marks are true, as far as a loop has come

module _ {A : Type 0} where
  picked_next : (ms : List Bool) (xs : List A) (i : ℕ) (d : A) → i < length ms → i < length xs → get_or ms i false ≡ true
      → items_where_true (take (suc i) ms) xs ≡ items_where_true (take i ms) xs ++ get_or xs i d ∷ []
  picked_next [] xs i d within inside on = absurd (omega (arith, within))
  picked_next (m ∷ ms) [] i d within inside on = absurd (omega (arith, inside))
  picked_next (true ∷ ms) (x ∷ xs) zero d within inside on = refl
  picked_next (false ∷ ms) (x ∷ xs) zero d within inside on = absurd cc
  picked_next (true ∷ ms) (x ∷ xs) (suc i) d within inside on = ap (λ (l : List A). x ∷ l) (picked_next ms xs i d (omega (arith, within)) (omega (arith, inside)) on)
  picked_next (false ∷ ms) (x ∷ xs) (suc i) d within inside on = picked_next ms xs i d (omega (arith, within)) (omega (arith, inside)) on

  pub picked_more : (ms : List Bool) (xs : List A) (i : ℕ) (d : A) → i < length ms → i < length xs → get_or ms i false ≡ true
      → items_where_true (take (i + 1) ms) xs ≡ items_where_true (take i ms) xs ++ get_or xs i d ∷ []
  picked_more ms xs i d within inside on = ap (λ k. items_where_true (take k ms) xs) (add-one i) ∙ picked_next ms xs i d within inside on

  nothing : (ms : List Bool) → items_where_true {X = A} ms [] ≡ []
  nothing [] = refl
  nothing (m ∷ ms) = refl

  passed : (ms : List Bool) (xs : List A) (i : ℕ) → i < length ms → get_or ms i false ≡ false → items_where_true (take (suc i) ms) xs ≡ items_where_true (take i ms) xs
  passed [] xs i within off = absurd (omega (arith, within))
  passed (m ∷ ms) [] i within off = nothing (take (suc i) (m ∷ ms)) ∙ sym (nothing (take i (m ∷ ms)))
  passed (true ∷ ms) (x ∷ xs) zero within off = absurd cc
  passed (false ∷ ms) (x ∷ xs) zero within off = refl
  passed (true ∷ ms) (x ∷ xs) (suc i) within off = ap (λ (l : List A). x ∷ l) (passed ms xs i (omega (arith, within)) off)
  passed (false ∷ ms) (x ∷ xs) (suc i) within off = passed ms xs i (omega (arith, within)) off

  pub picked_same : (ms : List Bool) (xs : List A) (i : ℕ) → i < length ms → get_or ms i false ≡ false → items_where_true (take (i + 1) ms) xs ≡ items_where_true (take i ms) xs
  picked_same ms xs i within off = ap (λ k. items_where_true (take k ms) xs) (add-one i) ∙ passed ms xs i within off

  -- what is picked is marked at its place
  pub picked_parts : (ms : List Bool) (xs : List A) (x : A) → IsIn (items_where_true ms xs) x → (i : ℕ) × (slice_get xs i ≡ Some x) × (get_or ms i false ≡ true)
  picked_parts [] xs x h = absurd cc
  picked_parts (m ∷ ms) [] x h = absurd cc
  picked_parts (true ∷ ms) (y ∷ xs) x (zero, at) = (0, at, refl)
  picked_parts (true ∷ ms) (y ∷ xs) x (suc k, at) = let later = picked_parts ms xs x (k, at) in (suc later.0, later.1, later.2)
  picked_parts (false ∷ ms) (y ∷ xs) x h = let later = picked_parts ms xs x h in (suc later.0, later.1, later.2)

  pub picked_in : (ms : List Bool) (xs : List A) (i : ℕ) (x : A) → slice_get xs i ≡ Some x → get_or ms i false ≡ true → IsIn (items_where_true ms xs) x
  picked_in [] xs i x at on = absurd cc
  picked_in (m ∷ ms) [] i x at on = absurd cc
  picked_in (true ∷ ms) (y ∷ xs) zero x at on = (0, at)
  picked_in (false ∷ ms) (y ∷ xs) zero x at on = absurd cc
  picked_in (true ∷ ms) (y ∷ xs) (suc i) x at on = IsIn-later y x (items_where_true ms xs) (picked_in ms xs i x at on)
  picked_in (false ∷ ms) (y ∷ xs) (suc i) x at on = picked_in ms xs i x at on

-- ---- what is made of the items that pass a test, as far as a loop has come

module _ {X Y : Type 0} (f : X → Y) (p : X → Bool) (xs : List X) (i : ℕ) (d : X) (within : i < length xs) where
  pub picked_step : p (get_or xs i d) ≡ true → map f (filter p (take (i + 1) xs)) ≡ map f (filter p (take i xs)) ++ f (get_or xs i d) ∷ []
  picked_step on =
      ap (map f) (filter_more p xs i d within ∙ ap (λ b. filter p (take i xs) ++ (if b then get_or xs i d ∷ [] else [])) on) ∙ map-append f (filter p (take i xs)) (get_or xs i d ∷ [])

  pub passed_step : p (get_or xs i d) ≡ false → map f (filter p (take (i + 1) xs)) ≡ map f (filter p (take i xs))
  passed_step off =
      ap (map f) (filter_more p xs i d within ∙ ap (λ b. filter p (take i xs) ++ (if b then get_or xs i d ∷ [] else [])) off ∙ append-nil (filter p (take i xs)))
