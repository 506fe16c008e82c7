-- Which items are like an earlier one, so far and to come.
use Rattle.std.proofs.Common.{◌≡◌, ℕ, ◌+◌, ◌<◌, List, [], ◌∷◌, ◌++◌, length, map, take, drop, get_or, Some, None, Result, Err, Bool, refl, sym, ap, ◌∙◌, add-one, drop-cons}
use Rattle.std.proofs.Common.{length-take-le, map-id, arith}
use Rattle.std.specs.Prelude.{⊤}
use Rattle.std.specs.List.{list_any, find}
use Rattle.std.specs.Str.{bytes_eq}
use Rattle.list_law.proofs.Tests.{list_any-map}
use Rattle.list_law.proofs.Changed.{map_so_far}
use Rattle.topology.specs.declared.fault.TopoFault.{TopoFault}
use Rattle.topology.specs.Rules.{all_unlike, names_of, same_name}
use Rattle.topology.specs.Shape.{Entry}

module _ {V A : Type 0} (view : V → A) (like : A → A → Bool) (told : ℕ → A → A → TopoFault) (vs : List V) (i : ℕ) (x : V) (within : i < length vs) (is : x ≡ get_or vs i x) where
  abbrev here : A
  here = view x

  rest : map view (drop i vs) ≡ here ∷ map view (drop (i + 1) vs)
  rest = ap (map view) (drop-cons vs i x within) ∙ rw (add-one, ← is) refl

  abbrev taken : map view (take (i + 1) vs) ≡ map view (take i vs) ++ here ∷ []
  taken = map_so_far view vs i x within is

  -- the item here is like an earlier one
  pub alike : (earlier : A) (whole : Result ⊤ TopoFault) → find (like here) (map view (take i vs)) ≡ Some earlier
      → all_unlike like told (map view (take i vs)) (map view (drop i vs)) ≡ whole → whole ≡ Err (told (length (map view (take i vs)) + 1) earlier here)
  alike earlier whole found before = sym before ∙ rw (rest, found) refl

  -- it is like none of them
  pub unlike : (whole : Result ⊤ TopoFault) → find (like here) (map view (take i vs)) ≡ None
      → all_unlike like told (map view (take i vs)) (map view (drop i vs)) ≡ whole
      → all_unlike like told (map view (take (i + 1) vs)) (map view (drop (i + 1) vs)) ≡ whole
  unlike whole not_found before = rw taken (rw (rest, not_found) at before)

pub list_any-names : (entry : Entry) (before : List Entry) → list_any (same_name entry) before ≡ list_any (bytes_eq entry.name) (names_of before)
list_any-names entry before = sym (list_any-map (bytes_eq entry.name) (λ (e : Entry). e.name) before)

module _ {A : Type 0} (like : A → A → Bool) (told : ℕ → A → A → TopoFault) (ys : List A) (i : ℕ) (x : A) (within : i < length ys) (is : x ≡ get_or ys i x) where
  -- the same, of items that are seen as they are
  pub alike-here : (earlier : A) (whole : Result ⊤ TopoFault) → find (like x) (take i ys) ≡ Some earlier → all_unlike like told (take i ys) (drop i ys) ≡ whole → whole ≡ Err (told (i + 1) earlier x)
  alike-here earlier whole found before =
      let h = alike (λ y. y) like told ys i x within is earlier whole in
      let l : length (take i ys) ≡ i = length-take-le i ys (omega (arith, within)) in
      (rw (map-id (take i ys), map-id (drop i ys), l) at h) found before

  pub unlike-here : (whole : Result ⊤ TopoFault) → find (like x) (take i ys) ≡ None → all_unlike like told (take i ys) (drop i ys) ≡ whole
      → all_unlike like told (take (i + 1) ys) (drop (i + 1) ys) ≡ whole
  unlike-here whole not_found before =
      let h = unlike (λ y. y) like told ys i x within is whole in
      (rw (map-id (take i ys), map-id (drop i ys), map-id (take (i + 1) ys), map-id (drop (i + 1) ys)) at h) not_found before
