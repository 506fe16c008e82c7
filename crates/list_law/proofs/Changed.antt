-- Lists whose items are changed, or of which some are left out.
use Rattle.std.proofs.Common.{◌++◌, ◌+◌, ◌<◌, ◌∙◌, ◌∷◌, ◌≡◌, Bool, List, None, Option, Some, [], add-one, ap, cond, false, get_or, length, map, refl, suc, sym, take, true, ℕ}
use Rattle.std.specs.List.{cons_option, filter_map, flat_map}
use Rattle.std.specs.Prelude.{◌&&◌, filter, option_map, slice_get}
use Rattle.std.proofs.Math.Seq.{take-suc}
use Rattle.std.proofs.lemmas.Bool.{cond-false, cond-true}
use Rattle.std.proofs.lemmas.List.{append-nil, map-append, take_more}
use Rattle.std.proofs.lemmas.List.Elements.{filter_map-append}
use Rattle.std.proofs.lemmas.Option.{get_or_from_slice_get, same_Some, slice_get_within}
use Rattle.list_law.specs.Members.{IsIn}

pub map-map : {A B C : Type 0} (f : B → C) (g : A → B) (xs : List A) → map f (map g xs) ≡ map (λ x. f (g x)) xs
map-map f g [] = refl
map-map f g (x ∷ xs) = ap (λ ys. f (g x) ∷ ys) (map-map f g xs)

-- one more item of a list, changed
pub map_next : {A B : Type 0} → (f : A → B) (xs : List A) (n : ℕ) (y : B) → option_map f (slice_get xs n) ≡ Some y → map f (take (n + 1) xs) ≡ map f (take n xs) ++ y ∷ []
map_next {A} {B} f xs n y h = at (slice_get xs n) refl h
  where
    at : (o : Option A) → slice_get xs n ≡ o → option_map f o ≡ Some y → map f (take (n + 1) xs) ≡ map f (take n xs) ++ y ∷ []
    at None e h = cc
    at (Some x) e h =
        ap (map f) (take_more xs n x (slice_get_within xs n x e))
        ∙ map-append f (take n xs) (get_or xs n x ∷ [])
        ∙ ap (λ z. map f (take n xs) ++ f z ∷ []) (get_or_from_slice_get xs n x x e)
        ∙ ap (λ z. map f (take n xs) ++ z ∷ []) (same_Some (f x) y h)

-- the same, where the item is read
pub map_so_far : {V A : Type 0} (view : V → A) (vs : List V) (i : ℕ) (x : V) → i < length vs → x ≡ get_or vs i x → map view (take (i + 1) vs) ≡ map view (take i vs) ++ view x ∷ []
map_so_far view vs i x within is = rw (add-one, take-suc vs i x within, ← is, map-append view) refl

pub filter-filter : {A : Type 0} → (p q : A → Bool) (xs : List A) → filter p (filter q xs) ≡ filter (λ x. q x && p x) xs
filter-filter p q [] = refl
filter-filter p q (x ∷ xs) = at (filter-filter p q xs) (q x) (p x) refl
  where
    at : filter p (filter q xs) ≡ filter (λ x. q x && p x) xs → (b c : Bool) → p x ≡ c
        → filter p (cond b (x ∷ filter q xs) (filter q xs)) ≡ cond (b && p x) (x ∷ filter (λ x. q x && p x) xs) (filter (λ x. q x && p x) xs)
    at rest true true h = cond-true (p x) _ _ h ∙ ap (λ l. x ∷ l) rest ∙ sym (cond-true (p x) _ _ h)
    at rest true false h = cond-false (p x) _ _ h ∙ rest ∙ sym (cond-false (p x) _ _ h)
    at rest false c h = rest

pub filter_map_yes : {X Y : Type 0} (h : X → Option Y) (xs : List X) (i : ℕ) (d : X) (y : Y) → i < length xs → h (get_or xs i d) ≡ Some y
    → filter_map h (take (i + 1) xs) ≡ filter_map h (take i xs) ++ y ∷ []
filter_map_yes h xs i d y lt gives = ap (filter_map h) (take_more xs i d lt) ∙ filter_map-append h (take i xs) (get_or xs i d ∷ []) ∙ ap (λ o. filter_map h (take i xs) ++ cons_option o []) gives

pub filter_map_no : {X Y : Type 0} (h : X → Option Y) (xs : List X) (i : ℕ) (d : X) → i < length xs → h (get_or xs i d) ≡ None → filter_map h (take (i + 1) xs) ≡ filter_map h (take i xs)
filter_map_no h xs i d lt gives =
    ap (filter_map h) (take_more xs i d lt) ∙ filter_map-append h (take i xs) (get_or xs i d ∷ [])
    ∙ ap (λ o. filter_map h (take i xs) ++ cons_option o []) gives ∙ append-nil _

-- what is the same of each item is the same of all of them
pub filter_same : {A : Type 0} (p q : A → Bool) (xs : List A) → ((x : A) → IsIn xs x → p x ≡ q x) → filter p xs ≡ filter q xs
filter_same p q [] same = refl
filter_same p q (x ∷ xs) same = λ i. cond (same x (0, refl) i) (x ∷ filter_same p q xs (λ y h. same y (suc h.0, h.1)) i) (filter_same p q xs (λ y h. same y (suc h.0, h.1)) i)

pub map_same : {A B : Type 0} (f g : A → B) (xs : List A) → ((x : A) → IsIn xs x → f x ≡ g x) → map f xs ≡ map g xs
map_same f g [] same = refl
map_same f g (x ∷ xs) same = λ i. same x (0, refl) i ∷ map_same f g xs (λ y h. same y (suc h.0, h.1)) i

pub flat_map_same : {A B : Type 0} (f g : A → List B) (xs : List A) → ((x : A) → IsIn xs x → f x ≡ g x) → flat_map f xs ≡ flat_map g xs
flat_map_same f g [] same = refl
flat_map_same f g (x ∷ xs) same = λ i. same x (0, refl) i ++ flat_map_same f g xs (λ y h. same y (suc h.0, h.1)) i
