-- What is read one after another, so far and to come.
use Rattle.std.proofs.Common.{◌≡◌, ℕ, ◌+◌, ◌<◌, ◌≤◌, List, [], ◌∷◌, ◌++◌, length, map, drop, get_or, Result, Ok, Err, refl, sym, ap, ◌∙◌, append_assoc, append-nil, add-one, drop-cons}
use Rattle.std.proofs.lemmas.List.{drop_all, map-append}
use Rattle.net_base.specs.Steps.{◌>>=◌, each_from}

-- the items from a place on begin with the item there
pub drop_here : {A : Type 0} (xs : List A) (i : ℕ) (x : A) → i < length xs → x ≡ get_or xs i x → drop i xs ≡ x ∷ drop (i + 1) xs
drop_here xs i x within is = drop-cons xs i x within ∙ rw (add-one, ← is) refl

-- these, and then what is still to be read
abbrev pub with_front : {B F : Type 0} → List B → Result (List B) F → Result (List B) F
with_front front read = read >>= (λ xs. Ok (front ++ xs))

one_more : {B F : Type 0} (front : List B) (y : B) (read : Result (List B) F) → with_front front (read >>= (λ ys. Ok (y ∷ ys))) ≡ with_front (front ++ y ∷ []) read
one_more front y (Ok ys) = ap Ok (sym (append_assoc front (y ∷ []) ys))
one_more front y (Err e) = refl

module _ {V A B F : Type 0} (view : V → A) (f : ℕ → A → Result B F) (vs : List V) (front : List B) where
  -- nothing has been read
  pub each_from-start : front ≡ [] → with_front front (each_from f (0 + 1) (map view (drop 0 vs))) ≡ each_from f 1 (map view vs)
  each_from-start none = rw none (same (each_from f 1 (map view vs)))
    where
      same : (read : Result (List B) F) → with_front [] read ≡ read
      same (Ok ys) = refl
      same (Err e) = refl

  -- all has been read
  pub each_from-end : (i : ℕ) (whole : Result (List B) F) → length vs ≤ i → with_front front (each_from f (i + 1) (map view (drop i vs))) ≡ whole → whole ≡ Ok front
  each_from-end i whole past before = sym (rw (drop_all i vs past) at before) ∙ ap Ok (append-nil front)

module _ {V A B F : Type 0} (view : V → A) (f : ℕ → A → Result B F) (vs : List V) (i : ℕ) (x : V) (within : i < length vs) (is : x ≡ get_or vs i x) where
  at : drop i vs ≡ x ∷ drop (i + 1) vs
  at = drop_here vs i x within is

  -- the item here was read
  pub each_from-next : (front : List B) (y : B) (whole : Result (List B) F) → f (i + 1) (view x) ≡ Ok y
      → with_front front (each_from f (i + 1) (map view (drop i vs))) ≡ whole
      → with_front (front ++ y ∷ []) (each_from f ((i + 1) + 1) (map view (drop (i + 1) vs))) ≡ whole
  each_from-next front y whole here before = sym (one_more front y (each_from f ((i + 1) + 1) (map view (drop (i + 1) vs)))) ∙ (rw (at, here) at before)

  -- the same, of items that are seen by their view
  pub each_from-ok : {W : Type 0} (show : W → B) (front : List W) (y : W) (whole : Result (List B) F) → f (i + 1) (view x) ≡ Ok (show y)
      → with_front (map show front) (each_from f (i + 1) (map view (drop i vs))) ≡ whole
      → with_front (map show (front ++ y ∷ [])) (each_from f ((i + 1) + 1) (map view (drop (i + 1) vs))) ≡ whole
  each_from-ok show front y whole here before = rw (map-append show front (y ∷ [])) (each_from-next (map show front) (show y) whole here before)

  -- or it has a fault
  pub each_from-stop : (front : List B) (e : F) (whole : Result (List B) F) → f (i + 1) (view x) ≡ Err e
      → with_front front (each_from f (i + 1) (map view (drop i vs))) ≡ whole → whole ≡ Err e
  each_from-stop front e whole here before = sym (rw (at, here) at before)
