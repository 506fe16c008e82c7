-- Who is at the far end of some link.
use Rattle.std.proofs.Common.{◌≡◌, ℕ, Bool, true, false, List, [], ◌∷◌, Option, Some, None, ap, ◌∙◌, inl, inr}
use Rattle.std.specs.Prelude.{◌||◌}
use Rattle.std.specs.List.{list_any}
use Rattle.std.specs.Option.{option_map_or}
use Rattle.std.proofs.lemmas.Bool.{or_cases, or_right}
use Rattle.net_base.specs.Network.{joins}
use Rattle.scenarios.specs.Tests.{far_end}
use Rattle.scenarios.proofs.Choosing.{far}

module _ (t : ℕ → Bool) (r : ℕ) where
  -- a neighbour that passes a test is the far end of some link
  pub at_far_end : (links : List (ℕ × ℕ)) (z : ℕ) → list_any (joins z r) links ≡ true → t z ≡ true → list_any (λ link. option_map_or t (far_end r link) false) links ≡ true
  at_far_end [] z joined passes = absurd (cc)
  at_far_end (link ∷ links) z joined passes = elim (or_cases (joins z r link) (list_any (joins z r) links) joined) [
    | inl here ↦ ap (λ o. option_map_or t o false || list_any (λ l. option_map_or t (far_end r l) false) links) (far z r link here)
        ∙ ap (λ b. b || list_any (λ l. option_map_or t (far_end r l) false) links) passes
    | inr later ↦ or_right _ _ (at_far_end links z later passes)
  ]

  one_passes : (o : Option ℕ) → option_map_or t o false ≡ true → (z : ℕ) × (t z ≡ true)
  one_passes None h = absurd (cc)
  one_passes (Some z) h = (z, h)

  -- and some far end that passes is a location that does
  pub from_far_end : (links : List (ℕ × ℕ)) → list_any (λ link. option_map_or t (far_end r link) false) links ≡ true → (z : ℕ) × (t z ≡ true)
  from_far_end [] h = absurd (cc)
  from_far_end (link ∷ links) h = elim (or_cases (option_map_or t (far_end r link) false) (list_any (λ l. option_map_or t (far_end r l) false) links) h) [
    | inl here ↦ one_passes (far_end r link) here
    | inr later ↦ from_far_end links later
  ]
