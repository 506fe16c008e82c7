-- What is known of choices as far as a loop over the links has come.
use Rattle.std.proofs.Common.{◌≡◌, ℕ, ◌+◌, ◌<◌, Bool, true, false, List, length, get_or, take, refl, sym, ap, ap₂, ◌∙◌, inl, inr}
use Rattle.std.specs.Prelude.{◌&&◌, ◌||◌, ◌==◌}
use Rattle.std.specs.List.{list_any}
use Rattle.std.specs.Option.{option_map_or}
use Rattle.std.proofs.Math.Bool.{or-false}
use Rattle.std.proofs.lemmas.Bool.{and_parts, cases_eq, eq-eqb, eqb-true, false_from_ne_true}
use Rattle.list_law.proofs.Numbers.{eqb_comm}
use Rattle.scenarios.specs.Tests.{far_end}
use Rattle.scenarios.proofs.LinkMarks.{any_next}

-- what both ends of a link are told is what the link tells
module _ (t : ℕ → ℕ → Bool) (link : ℕ × ℕ) (r : ℕ) where
  both_ends : (b : Bool) → ((b || (r == link.0 && t link.1 link.0)) || (r == link.1 && t link.0 link.1)) ≡ (b || option_map_or (λ z. t z r) (far_end r link) false)
  both_ends b = elim (cases_eq link.0 r) [
    | inl e ↦
        let here : (r == link.0 && t link.1 link.0) ≡ t link.1 r = ap (λ o. o && t link.1 link.0) (eq-eqb r link.0 (sym e)) ∙ ap (t link.1) e in
        let told : option_map_or (λ z. t z r) (far_end r link) false ≡ t link.1 r = rw (eq-eqb link.0 r e) refl in
        ap (λ x. (b || x) || (r == link.1 && t link.0 link.1)) here
        ∙ absorbed b (t link.1 r) (r == link.1 && t link.0 link.1) (again e)
        ∙ ap (λ x. b || x) (sym told)
    | inr n ↦
        let off : (link.0 == r) ≡ false = false_from_ne_true _ (λ h. n (eqb-true link.0 r h)) in
        ap (λ o. (b || (o && t link.1 link.0)) || (r == link.1 && t link.0 link.1)) (eqb_comm r link.0 ∙ off) ∙ elim (cases_eq link.1 r) [
          | inl e ↦
              let told : option_map_or (λ z. t z r) (far_end r link) false ≡ t link.0 r = rw (off, eq-eqb link.1 r e) refl in
              ap (λ o. (b || false) || (o && t link.0 link.1)) (eq-eqb r link.1 (sym e)) ∙ ap (λ o. o || t link.0 link.1) (or-false b) ∙ ap (λ x. b || t link.0 x) e ∙ ap (λ x. b || x) (sym told)
          | inr m ↦
              let out : (link.1 == r) ≡ false = false_from_ne_true _ (λ h. m (eqb-true link.1 r h)) in
              let told : option_map_or (λ z. t z r) (far_end r link) false ≡ false = rw (off, out) refl in
              ap (λ o. (b || false) || (o && t link.0 link.1)) (eqb_comm r link.1 ∙ out) ∙ or-false (b || false) ∙ ap (λ x. b || x) (sym told)
        ]
  ]
    where
      absorbed : (b x y : Bool) → (y ≡ true → x ≡ true) → ((b || x) || y) ≡ (b || x)
      absorbed true x y h = refl
      absorbed false true y h = refl
      absorbed false false true h = sym (h refl)
      absorbed false false false h = refl

      again : link.0 ≡ r → (r == link.1 && t link.0 link.1) ≡ true → t link.1 r ≡ true
      again e h =
          let parts = and_parts (r == link.1) (t link.0 link.1) h in
          let at = eqb-true r link.1 parts.0 in
          ap₂ (λ (a c : ℕ). t a c) (sym at ∙ sym e) at ∙ parts.1

module _ (t : ℕ → ℕ → Bool) (links : List (ℕ × ℕ)) (i : ℕ) (link : ℕ × ℕ) (within : i < length links) (is : link ≡ get_or links i link) where
  abbrev tells : ℕ → ℕ × ℕ → Bool
  tells r l = option_map_or (λ z. t z r) (far_end r l) false

  -- one link more
  pub told_more : (before after : ℕ → Bool) → ((r : ℕ) → before r ≡ list_any (tells r) (take i links))
      → ((r : ℕ) → after r ≡ ((before r || (r == link.0 && t link.1 link.0)) || (r == link.1 && t link.0 link.1))) → (r : ℕ) → after r ≡ list_any (tells r) (take (i + 1) links)
  told_more before after was grown r =
      grown r ∙ ap (λ b. (b || (r == link.0 && t link.1 link.0)) || (r == link.1 && t link.0 link.1)) (was r)
      ∙ both_ends t link r (list_any (tells r) (take i links)) ∙ sym (any_next (tells r) links i link within is)
