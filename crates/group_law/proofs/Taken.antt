-- The items of a list so far.
use Rattle.std.proofs.Common.{◌≡◌, ℕ, ◌+◌, ◌<◌, List, [], ◌∷◌, ◌++◌, add-one, ap, ap₂, append_assoc, get_or, length, map, refl, sym, take, ◌∙◌}
use Rattle.std.proofs.Math.Seq.{take-suc}
use Rattle.std.proofs.lemmas.List.{map-append}

-- with the next one they're one more
pub take_next : {A : Type 0} (xs : List A) (i : ℕ) (x : A) → i < length xs → x ≡ get_or xs i x → take (i + 1) xs ≡ take i xs ++ x ∷ []
take_next xs i x within is = rw (add-one, take-suc xs i x within, ← is) refl

module _ {A B : Type 0} (f : A → B) (xs : List A) (i : ℕ) (x : A) (ys : List B) (y : B) (within : i < length xs) (read : x ≡ get_or xs i x) where
  -- so is what is made of each, alone and behind others
  pub mapped_next : ys ≡ map f (take i xs) → y ≡ f x → ys ++ y ∷ [] ≡ map f (take (i + 1) xs)
  mapped_next so_far is =
      ap₂ (λ (zs : List B) (z : B). zs ++ z ∷ []) so_far is ∙ sym (map-append f (take i xs) (x ∷ [])) ∙ ap (map f) (sym (take_next xs i x within read))

  pub mapped_behind : (before : List B) → ys ≡ before ++ map f (take i xs) → y ≡ f x → ys ++ y ∷ [] ≡ before ++ map f (take (i + 1) xs)
  mapped_behind before so_far is =
      ap₂ (λ (zs : List B) (z : B). zs ++ z ∷ []) so_far is ∙ append_assoc before (map f (take i xs)) (f x ∷ [])
      ∙ ap (λ (zs : List B). before ++ zs) (sym (map-append f (take i xs) (x ∷ [])) ∙ ap (map f) (sym (take_next xs i x within read)))
