-- What is told of a list, item by item.
use Rattle.std.proofs.Common.{◌≡◌, ℕ, ◌+◌, ◌<◌, Bool, true, false, List, [], ◌∷◌, ◌++◌, append-nil, filter, get_or, length, take, refl, sym, ap, ap₂, ◌∙◌, arith}
use Rattle.std.specs.Prelude.{if◌then◌else◌}
use Rattle.std.specs.List.{flat_map, zip}
use Rattle.std.proofs.lemmas.Grind.{flat_map-append}
use Rattle.std.proofs.lemmas.List.{length-take-le, take_more}
use Rattle.std.proofs.lemmas.List.Elements.{filter-append}

-- ---- pairs

zip_push : {K V : Type 0} (ks : List K) (vs : List V) (k : K) (v : V) → length ks ≡ length vs → zip (ks ++ k ∷ []) (vs ++ v ∷ []) ≡ zip ks vs ++ (k, v) ∷ []
zip_push [] [] k v same = refl
zip_push [] (y ∷ vs) k v same = absurd (omega (arith, same))
zip_push (x ∷ ks) [] k v same = absurd (omega (arith, same))
zip_push (x ∷ ks) (y ∷ vs) k v same = let rest : length ks ≡ length vs = omega (arith, same) in ap (λ zs. (x, y) ∷ zs) (zip_push ks vs k v rest)

-- the next of two lists
pub zip_next : {K V : Type 0} (ks : List K) (vs : List V) (i : ℕ) (k : K) (v : V) → i < length ks → i < length vs → k ≡ get_or ks i k → v ≡ get_or vs i v
    → zip (take (i + 1) ks) (take (i + 1) vs) ≡ zip (take i ks) (take i vs) ++ (k, v) ∷ []
zip_next {K} {V} ks vs i k v low_k low_v is_k is_v =
    ap₂ zip (take_more ks i k low_k ∙ ap (λ (x : K). take i ks ++ x ∷ []) (sym is_k)) (take_more vs i v low_v ∙ ap (λ (y : V). take i vs ++ y ∷ []) (sym is_v))
    ∙ zip_push (take i ks) (take i vs) k v (length-take-le i ks (omega (arith, low_k)) ∙ sym (length-take-le i vs (omega (arith, low_v))))

-- ---- those that pass a test

module _ {A : Type 0} (told : A → Bool) (text : A → List ℕ) (xs : List A) (x : A) where
  next : filter told (xs ++ x ∷ []) ≡ filter told xs ++ (if told x then x ∷ [] else [])
  next = filter-append told xs (x ∷ [])

  pub is_told : told x ≡ true → filter told (xs ++ x ∷ []) ≡ filter told xs ++ x ∷ []
  is_told is = next ∙ ap (λ b. filter told xs ++ (if b then x ∷ [] else [])) is

  pub isnt_told : told x ≡ false → filter told (xs ++ x ∷ []) ≡ filter told xs
  isnt_told is = next ∙ ap (λ b. filter told xs ++ (if b then x ∷ [] else [])) is ∙ append-nil (filter told xs)

  pub told_text : flat_map text (filter told xs ++ x ∷ []) ≡ flat_map text (filter told xs) ++ text x
  told_text = flat_map-append text (filter told xs) (x ∷ []) ∙ ap (λ ys. flat_map text (filter told xs) ++ ys) (append-nil (text x))
