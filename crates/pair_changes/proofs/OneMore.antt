-- Places that are read one after the other.
use Rattle.std.proofs.Common.{◌≡◌, ℕ, zero, suc, ◌+◌, ◌<◌, List, [], ◌∷◌, ◌++◌, get_or, length, take, sym, ap, ◌∙◌, subst, arith, Option, Some}
use Rattle.std.specs.Prelude.{slice_get}
use Rattle.std.proofs.lemmas.Option.{slice_get-get_or}
use Rattle.group_law.proofs.Taken.{take_next}
use Rattle.list_law.specs.Members.{IsIn}
use Rattle.compare_base.specs.declared.rows.Kind.{Kind}
use Rattle.compare_base.specs.declared.rows.Place.{Place}
use Rattle.pair_changes.specs.declared.ways.Way.{Way}
use Rattle.pair_changes.specs.Changes.{AreInOrder, ComesFirst}
use Rattle.pair_changes.specs.Kinds.{AreKinds}

taken_at : {A : Type 0} (xs : List A) (n i : ℕ) (x : A) → slice_get (take n xs) i ≡ Some x → (i < n) × (slice_get xs i ≡ Some x)
taken_at [] zero i x at = absurd cc
taken_at [] (suc n) i x at = absurd cc
taken_at (y ∷ ys) zero i x at = absurd cc
taken_at (y ∷ ys) (suc n) zero x at = (omega arith, at)
taken_at (y ∷ ys) (suc n) (suc i) x at = let rest = taken_at ys n i x at in (omega (arith, rest.0), rest.1)

-- those before a place come first
pub places_before : (places : List Place) (n : ℕ) (place : Place) → AreInOrder places → n < length places → place ≡ get_or places n place → (q : Place) → IsIn (take n places) q → ComesFirst q place
places_before places n place order within read q at =
    let here = taken_at places n at.0 q at.1 in
    order at.0 n q place here.0 here.1 (slice_get-get_or places n place within ∙ ap (λ (x : Place). Some x) (sym read))

pub kinds_next : (way : Place → Option Way) (places : List Place) (n : ℕ) (place : Place) (after : List Kind) → n < length places → place ≡ get_or places n place
    → AreKinds way (take n places ++ place ∷ []) after → AreKinds way (take (n + 1) places) after
kinds_next way places n place after within read are = subst (λ (qs : List Place). AreKinds way qs after) (sym (take_next places n place within read)) are

-- what was read is in the list
pub item_read : {A : Type 0} (xs : List A) (n : ℕ) (x : A) → n < length xs → x ≡ get_or xs n x → IsIn xs x
item_read xs n x within read = (n, slice_get-get_or xs n x within ∙ ap (λ y. Some y) (sym read))
