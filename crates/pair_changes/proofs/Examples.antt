-- The place by whose walks a kind is shown, as one place after the other is looked at.
use Rattle.std.proofs.Common.{◌≡◌, ℕ, ◌+◌, ◌<◌, ◌≤◌, List, [], ◌∷◌, ◌++◌, drop, get_or, length, length-take, take, refl, sym, ap, ◌∙◌, subst, take-append-drop, arith, inl, inr, Some}
use Rattle.std.specs.Prelude.{nat_lt, slice_get, if◌then◌else◌}
use Rattle.std.proofs.lemmas.Bool.{cases_lt, le-ltb, lt-ltb}
use Rattle.std.proofs.lemmas.Option.{slice_get_within}
use Rattle.group_law.proofs.Taken.{take_next}
use Rattle.list_law.proofs.Items.{from_front, slice_get-there, slice_get_in_front}
use Rattle.list_law.specs.Members.{IsIn}
use Rattle.compare_base.specs.declared.rows.Place.{Place}
use Rattle.pair_changes.specs.Changes.{IsExample, paths}
use Rattle.pair_changes.proofs.WalkLists.{only}

-- places that have walks in one sense have them in another
pub example_by : (Has Have : Place → List (List ℕ) → Type 0) (places : List Place) (walks : List (List ℕ))
    → ((place : Place) (theirs : List (List ℕ)) → IsIn places place → Has place theirs → Have place theirs) → IsExample Has places walks → IsExample Have places walks
example_by Has Have places walks so is = record {
  index = is.index;
  place = is.place;
  there = is.there;
  has = so is.place walks (is.index, is.there) is.has;
  most = λ i other at. let theirs = is.most i other at in (theirs.0, so other theirs.0 (i, at) theirs.1, theirs.2);
  first = λ i other less at. let theirs = is.first i other less at in (theirs.0, so other theirs.0 (i, at) theirs.1, theirs.2);
}

module _ (Has : Place → List (List ℕ) → Type 0) where
  example_one : (place : Place) (walks : List (List ℕ)) → Has place walks → IsExample Has (place ∷ []) walks
  example_one place walks has = record {
    index = 0;
    place = place;
    there = refl;
    has = has;
    most = λ i other at. (walks, subst (λ (x : Place). Has x walks) (only [] place i other at (omega arith)) has, omega arith);
    first = λ i other less at. absurd (omega (arith, less));
  }

  module _ (places : List Place) (place : Place) (walks theirs : List (List ℕ)) (was : IsExample Has places walks) (has : Has place theirs) where
    example_same : paths theirs ≤ paths walks → IsExample Has (places ++ place ∷ []) walks
    example_same few = record {
      index = was.index;
      place = was.place;
      there = slice_get_in_front places (place ∷ []) was.index was.place was.there;
      has = was.has;
      most = λ i other at. elim (cases_lt i (length places)) [
        | inl t ↦ was.most i other (from_front places (place ∷ []) i other at t)
        | inr t ↦ (theirs, subst (λ (x : Place). Has x theirs) (only places place i other at t) has, few)
      ];
      first = λ i other less at. was.first i other less (from_front places (place ∷ []) i other at (omega (arith, less, slice_get_within places was.index was.place was.there)));
    }

    example_last : paths walks < paths theirs → IsExample Has (places ++ place ∷ []) theirs
    example_last more = record {
      index = length places;
      place = place;
      there = slice_get-there places place [];
      has = has;
      most = λ i other at. elim (cases_lt i (length places)) [
        | inl t ↦ let found = was.most i other (from_front places (place ∷ []) i other at t) in (found.0, found.1, omega (arith, found.2, more))
        | inr t ↦ (theirs, subst (λ (x : Place). Has x theirs) (only places place i other at t) has, omega arith)
      ];
      first = λ i other less at. let found = was.most i other (from_front places (place ∷ []) i other at less) in (found.0, found.1, omega (arith, found.2, more));
    }

    -- the walks so far, or those of one place more
    example_more : (better : List (List ℕ)) → better ≡ (if nat_lt (paths walks) (paths theirs) then theirs else walks) → IsExample Has (places ++ place ∷ []) better
    example_more better is = elim (cases_lt (paths walks) (paths theirs)) [
      | inl t ↦ subst (IsExample Has (places ++ place ∷ [])) (sym (is ∙ ap (λ b. if b then theirs else walks) (lt-ltb (paths walks) (paths theirs) t))) (example_last t)
      | inr t ↦ subst (IsExample Has (places ++ place ∷ [])) (sym (is ∙ ap (λ b. if b then theirs else walks) (le-ltb (paths walks) (paths theirs) t))) (example_same t)
    ]

  pub example_first : (places : List Place) (place : Place) (walks : List (List ℕ)) → 0 < length places → place ≡ get_or places 0 place → Has place walks
      → IsExample Has (take 1 places) walks
  example_first places place walks some read has = subst (λ (ps : List Place). IsExample Has ps walks) (sym (take_next places 0 place some read)) (example_one place walks has)

  pub example_next : (places : List Place) (n : ℕ) (place : Place) (walks theirs better : List (List ℕ)) → n < length places → place ≡ get_or places n place
      → IsExample Has (take n places) walks → Has place theirs → better ≡ (if nat_lt (paths walks) (paths theirs) then theirs else walks) → IsExample Has (take (n + 1) places) better
  example_next places n place walks theirs better within read was has is =
      subst (λ (ps : List Place). IsExample Has ps better) (sym (take_next places n place within read)) (example_more (take n places) place walks theirs was has better is)

  -- Walks of which no place has more without a loop are those of all places, where they are those of the first ones.
  pub example_enough : (places : List Place) (n : ℕ) (walks : List (List ℕ)) → n ≤ length places → IsExample Has (take n places) walks
      → ((other : Place) → IsIn places other → (theirs : List (List ℕ)) × Has other theirs × (paths theirs ≤ paths walks)) → IsExample Has places walks
  example_enough places n walks within was enough = record {
    index = was.index;
    place = was.place;
    there = in_all was.index was.place was.there;
    has = was.has;
    most = λ i other at. enough other (i, at);
    first = λ i other less at. was.first i other less (in_first i other (omega (arith, less, slice_get_within (take n places) was.index was.place was.there, length-take n places, within)) at);
  }
    where
      joined : take n places ++ drop n places ≡ places
      joined = take-append-drop n places

      in_all : (i : ℕ) (x : Place) → slice_get (take n places) i ≡ Some x → slice_get places i ≡ Some x
      in_all i x at = ap (λ (ps : List Place). slice_get ps i) (sym joined) ∙ slice_get_in_front (take n places) (drop n places) i x at

      in_first : (i : ℕ) (x : Place) → i < n → slice_get places i ≡ Some x → slice_get (take n places) i ≡ Some x
      in_first i x less at =
          from_front (take n places) (drop n places) i x (ap (λ (ps : List Place). slice_get ps i) joined ∙ at) (omega (arith, less, length-take n places, within))
