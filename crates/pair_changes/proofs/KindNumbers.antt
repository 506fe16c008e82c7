-- The kind of a place by its number.
use Rattle.std.proofs.Common.{◌≡◌, ℕ, ◌<◌, true, List, [], ◌∷◌, ◌++◌, get_or, length, set, refl, sym, ap, ◌∙◌, subst, Option, Some, None}
use Rattle.std.specs.Prelude.{slice_get}
use Rattle.std.specs.List.{position}
use Rattle.std.proofs.lemmas.Option.{get_or_from_slice_get, slice_get_within}
use Rattle.list_law.proofs.Items.{slice_get-there}
use Rattle.compare_base.specs.declared.rows.Kind.{Kind}
use Rattle.compare_base.specs.declared.rows.Place.{Place}
use Rattle.pair_rows.proofs.SetItems.{set_there}
use Rattle.pair_changes.specs.declared.ways.Way.{Way}
use Rattle.pair_changes.specs.Kinds.{AreKinds, IsNumberOf, is_of}
use Rattle.pair_changes.proofs.KindSteps.{kinds_joined, kinds_same, position_parts}
use Rattle.pair_changes.proofs.KindTests.{of_from}

-- the kind with other places
abbrev pub with_places : Kind → List Place → Kind
with_places k places = record { words = k.words; rows = k.rows; places = places; walks = k.walks }

pub number_within : (kinds : List Kind) (way : Option Way) (n : ℕ) → IsNumberOf kinds way (Some n) → n < length kinds
number_within kinds (Some w) n (k, at, on) = slice_get_within kinds n k at
number_within kinds None n is = absurd is

-- a place that differs in no way is in no kind
pub joined_none : (way : Place → Option Way) (done : List Place) (kinds : List Kind) (place : Place) → AreKinds way done kinds → IsNumberOf kinds (way place) None → AreKinds way (done ++ place ∷ []) kinds
joined_none way done kinds place are is = kinds_same way done kinds are place (none (way place) is)
  where
    none : (o : Option Way) → IsNumberOf kinds o None → o ≡ None
    none None of = refl
    none (Some w) of = absurd of

-- a place joins the kind with its number
pub joined_some : (way : Place → Option Way) (done : List Place) (kinds : List Kind) (place : Place) (n : ℕ) (v : Kind) (places : List Place) → AreKinds way done kinds
    → IsNumberOf kinds (way place) (Some n) → v ≡ get_or kinds n v → places ≡ v.places ++ place ∷ [] → AreKinds way (done ++ place ∷ []) (set kinds n (with_places v places))
joined_some way done kinds place n v places are is read written = by (way place) refl is
  where
    by : (o : Option Way) → way place ≡ o → IsNumberOf kinds o (Some n) → AreKinds way (done ++ place ∷ []) (set kinds n (with_places v places))
    by None differs of = absurd of
    by (Some w) differs (k, at, on) =
        let same : v ≡ k = read ∙ get_or_from_slice_get kinds n k v at in
        subst (λ (ks : List Kind). AreKinds way (done ++ place ∷ []) ks)
        (sym (ap (λ (ps : List Place). set kinds n (with_places v ps)) written ∙ ap (λ (u : Kind). set kinds n (with_places u (u.places ++ place ∷ []))) same))
        (kinds_joined way done kinds are place w differs n k at on)

-- and the number stays that of its kind
pub number_kept : (kinds : List Kind) (way : Option Way) (n : ℕ) (v : Kind) (places : List Place) → IsNumberOf kinds way (Some n) → v ≡ get_or kinds n v
    → IsNumberOf (set kinds n (with_places v places)) way (Some n)
number_kept kinds None n v places of read = absurd of
number_kept kinds (Some w) n v places (k, at, on) read =
    let same : v ≡ k = read ∙ get_or_from_slice_get kinds n k v at in
    (with_places v places, set_there kinds n (with_places v places) k at, ap (λ (u : Kind). is_of w u) same ∙ on)

-- where a kind was found it has the number
pub number_found : (kinds : List Kind) (w : Way) (n : ℕ) → position (is_of w) kinds ≡ Some n → IsNumberOf kinds (Some w) (Some n)
number_found kinds w n found = let k = position_parts (is_of w) kinds n found in (k.0, k.1, k.2)

-- a new one comes behind the others
pub number_begun : (kinds : List Kind) (w : Way) (k : Kind) (after : List Kind) (n : ℕ) (place : Place) → k ≡ record { words = w.words; rows = w.rows; places = place ∷ []; walks = [] }
    → after ≡ kinds ++ k ∷ [] → n ≡ length kinds → IsNumberOf after (Some w) (Some n)
number_begun kinds w k after n place made written is = (
  k,
  ap (λ (ks : List Kind). slice_get ks n) written ∙ ap (slice_get (kinds ++ k ∷ [])) is ∙ slice_get-there kinds k [],
  of_from w k (ap (λ (u : Kind). u.words) made) (ap (λ (u : Kind). u.rows) made),
)
