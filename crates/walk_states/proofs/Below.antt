-- The numbers below a number.
use Rattle.std.proofs.Common.{◌≡◌, ℕ, zero, suc, ◌<◌, ◌≤◌, Bool, true, false, cond, List, [], ◌∷◌, ◌++◌, map, length, get_or, Some, inl, inr, refl, sym, ap, ◌∙◌, arith}
use Rattle.std.specs.Prelude.{filter, option_map, slice_get, ◌==◌, ◌||◌}
use Rattle.std.proofs.lemmas.Bool.{cases_Bool, cases_eq, cond-true, cond-false, eq-eqb, ne_eqb, or_left}
use Rattle.std.proofs.lemmas.List.{length-map}
use Rattle.std.proofs.lemmas.List.Elements.{filter-append}
use Rattle.std.proofs.lemmas.Option.{same_Some, slice_get-get_or, slice_get-map}
use Rattle.net_base.specs.Locations.{numbers_below}
use Rattle.net_base.proofs.NumbersBelow.{length-numbers_below, slice_get-numbers_below}

-- what stands at a place of a list of lists that were made for the numbers below n
pub made-at : {V : Type 0} → (items : V → List ℕ) (all : List V) (f : ℕ → List ℕ) (n k : ℕ) (v d : V) → map items all ≡ map f (numbers_below n) → k < n → v ≡ get_or all k d → items v ≡ f k
made-at items all f n k v d e lt is =
    let size = sym (length-map all items) ∙ ap length e ∙ length-map (numbers_below n) f ∙ length-numbers_below n in
    same_Some _ _
    (ap (λ w. Some (items w)) is ∙ ap (option_map items) (sym (slice_get-get_or all k d (omega arith))) ∙ sym (slice_get-map items all k)
    ∙ ap (λ l. slice_get l k) e ∙ slice_get-map f (numbers_below n) k ∙ ap (option_map f) (slice_get-numbers_below n k lt))

pub length-made : {V : Type 0} → (items : V → List ℕ) (all : List V) (f : ℕ → List ℕ) (n : ℕ) → map items all ≡ map f (numbers_below n) → length all ≡ n
length-made items all f n e = sym (length-map all items) ∙ ap length e ∙ length-map (numbers_below n) f ∙ length-numbers_below n

pub filter_none : (p : ℕ → Bool) (n : ℕ) → ((k : ℕ) → k < n → p k ≡ false) → filter p (numbers_below n) ≡ []
filter_none p zero h = refl
filter_none p (suc n) h =
    filter-append p (numbers_below n) (n ∷ [])
    ∙ ap (λ l. l ++ filter p (n ∷ [])) (filter_none p n (λ k lt. h k (omega arith)))
    ∙ cond-false (p n) (n ∷ []) [] (h n (omega arith))

-- a location that is less than all others that pass comes first
pub filter_first : (p : ℕ → Bool) (m n : ℕ) → m < n → ((k : ℕ) → p k ≡ true → m < k) → filter (λ k. m == k || p k) (numbers_below n) ≡ m ∷ filter p (numbers_below n)
filter_first p m zero lt h = absurd (omega arith)
filter_first p m (suc n) lt h = elim (cases_eq m n) [
  | inl e ↦ last e
  | inr ne ↦
      filter-append (λ k. m == k || p k) (numbers_below n) (n ∷ [])
      ∙ ap (λ l. l ++ filter (λ k. m == k || p k) (n ∷ [])) (filter_first p m n (omega arith) h)
      ∙ ap (λ b. (m ∷ filter p (numbers_below n)) ++ cond (b || p n) (n ∷ []) []) (ne_eqb m n ne)
      ∙ ap (λ l. m ∷ l) (sym (filter-append p (numbers_below n) (n ∷ [])))
]
  where
    low : (k : ℕ) → k ≤ m → p k ≡ false
    low k le = elim (cases_Bool (p k)) [ inl t ↦ absurd (omega (arith, h k t)) | inr f ↦ f ]

    last : m ≡ n → filter (λ k. m == k || p k) (numbers_below (suc n)) ≡ m ∷ filter p (numbers_below (suc n))
    last e =
        filter-append (λ k. m == k || p k) (numbers_below n) (n ∷ [])
        ∙ ap (λ l. l ++ filter (λ k. m == k || p k) (n ∷ []))
        (filter_none (λ k. m == k || p k) n (λ k lt. ap (λ b. b || p k) (ne_eqb m k (λ q. absurd (omega arith))) ∙ low k (omega arith)))
        ∙ cond-true (m == n || p n) (n ∷ []) [] (or_left (m == n) (p n) (eq-eqb m n e))
        ∙ ap (λ k. k ∷ []) (sym e)
        ∙ ap (λ l. m ∷ l) (sym (filter-append p (numbers_below n) (n ∷ [])
        ∙ ap (λ l. l ++ filter p (n ∷ [])) (filter_none p n (λ k lt. low k (omega arith)))
        ∙ cond-false (p n) (n ∷ []) [] (low n (omega arith))))
