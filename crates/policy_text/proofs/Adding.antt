-- A text to whose end a loop adds what it has of one item after another, where each item keeps a rule.
use Rattle.std.proofs.Common.{◌≡◌, ◌++◌, ◌∷◌, ℕ, ◌+◌, ◌<◌, List, [], ap, append_assoc, flat_map, get_or, length, subst, sym, take, ◌∙◌}
use Rattle.std.specs.List.{AllByRecursion}
use Rattle.std.proofs.lemmas.List.{flat_map_more, take_more}
use Rattle.list_law.proofs.Each.{AllByRecursion-push}

pub one_more : {A : Type 0} (items : List A) (i : ℕ) (x : A) → i < length items → x ≡ get_or items i x → take (i + 1) items ≡ take i items ++ x ∷ []
one_more items i x less item = take_more items i x less ∙ ap (λ y. take i items ++ y ∷ []) (sym item)

pub added : {A : Type 0} (line : A → List ℕ) (P : A → Type 0) (before after : List A) (x : A) (first mid new : List ℕ)
    → after ≡ before ++ x ∷ [] → new ≡ mid ++ line x → P x
    → (mid ≡ first ++ flat_map line before) × AllByRecursion P before → (new ≡ first ++ flat_map line after) × AllByRecursion P after
added line P before after x first mid new more text rule so_far = (
  text ∙ ap (λ t. t ++ line x) so_far.0 ∙ flat_map_more line first before x ∙ ap (λ xs. first ++ flat_map line xs) (sym more),
  subst (AllByRecursion P) (sym more) (AllByRecursion-push P before x so_far.1 rule),
)

-- behind what stands between two items
pub added_behind : {A : Type 0} (joint : List ℕ) (word : A → List ℕ) (P : A → Type 0) (items : List A) (i : ℕ) (d : A) (first mid joined new : List ℕ)
    → i < length items → joined ≡ mid ++ joint → new ≡ joined ++ word (get_or items i d) → P (get_or items i d)
    → (mid ≡ first ++ flat_map (λ x. joint ++ word x) (take i items)) × AllByRecursion P (take i items)
    → (new ≡ first ++ flat_map (λ x. joint ++ word x) (take (i + 1) items)) × AllByRecursion P (take (i + 1) items)
added_behind joint word P items i d first mid joined new less behind text rule so_far =
    let x = get_or items i d in
    added (λ y. joint ++ word y) P (take i items) (take (i + 1) items) x first mid new (take_more items i d less)
    (text ∙ ap (λ t. t ++ word x) behind ∙ append_assoc mid joint (word x)) rule so_far
