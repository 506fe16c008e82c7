-- Those of a list of which something holds.
use Rattle.std.specs.Prelude.{◌≡◌, ◌⊎◌, List, [], ◌∷◌}

-- the second list has, in order, those of the first of which it holds
abbrev pub AreThose : {A : Type 0} → (A → Type 0) → List A → List A → Type 0
AreThose Holds [] ys = ys ≡ []
AreThose {A} Holds (x ∷ xs) ys = (Holds x × ((rest : List A) × (ys ≡ x ∷ rest) × AreThose Holds xs rest)) ⊎ ((¬ Holds x) × AreThose Holds xs ys)
