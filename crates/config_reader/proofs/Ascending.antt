-- An entry above the last one stands above all of them, and names that differ differ with one more.
use Rattle.std.proofs.Common.{◌≡◌, ◌-◌, ◌<◌, ◌≤◌, suc, List, [], ◌∷◌, ◌++◌, length, map, Bool, true, false, Option, refl, sym, ◌∙◌, ap, arith}
use Rattle.std.specs.Prelude.{◌&&◌, ◌||◌, ◌==◌, nat_lt, slice_get}
use Rattle.std.specs.List.{AllByRecursion, IsDistinct}
use Rattle.std.specs.Option.{option_map}
use Rattle.std.proofs.lemmas.Bool.{ltb-true, eqb-true}
use Rattle.std.proofs.lemmas.List.{map-append}
use Rattle.list_law.proofs.Each.{AllByRecursion-push}
use Rattle.config_base.specs.Configs.{Key, IsBelow, Ascend}
use Rattle.config_reader.specs.Order.{is_below, is_above, last_of, ascends}

below_back : (a b : Key) → is_below a b ≡ true → IsBelow a b
below_back a b h = by (nat_lt a.first b.first) (a.first == b.first) (nat_lt a.second b.second) (a.second == b.second) (nat_lt a.third b.third) refl refl refl refl refl h
  where
    by : (p q r s t : Bool) → nat_lt a.first b.first ≡ p → (a.first == b.first) ≡ q → nat_lt a.second b.second ≡ r → (a.second == b.second) ≡ s → nat_lt a.third b.third ≡ t
        → (p || (q && (r || (s && t)))) ≡ true → IsBelow a b
    by true q r s t ep eq er es et k = let low = ltb-true a.first b.first ep in (omega (arith, low), (λ e. absurd (omega (arith, low, e))))
    by false true true s t ep eq er es et k =
        let same = eqb-true a.first b.first eq in let low = ltb-true a.second b.second er
        in (omega (arith, same), (λ _. (omega (arith, low), (λ e. absurd (omega (arith, low, e))))))
    by false true false true true ep eq er es et k =
        let same = eqb-true a.first b.first eq in
        let alike = eqb-true a.second b.second es in
        let low = ltb-true a.third b.third et in
        (omega (arith, same), (λ _. (omega (arith, alike), (λ _. low))))
    by false true false true false ep eq er es et k = absurd cc
    by false true false false t ep eq er es et k = absurd cc
    by false false r s t ep eq er es et k = absurd cc

-- what is below one that is below another is below that
below_trans : (a b c : Key) → IsBelow a b → IsBelow b c → IsBelow a c
below_trans a b c x y = (
  omega (arith, x.0, y.0),
  (λ e.
      let ab : a.first ≡ b.first = omega (arith, x.0, y.0, e) in
      let bc : b.first ≡ c.first = omega (arith, x.0, y.0, e) in
      thirds (x.1 ab) (y.1 bc)),
)
  where
    thirds : (a.second ≤ b.second) × (a.second ≡ b.second → a.third < b.third) → (b.second ≤ c.second) × (b.second ≡ c.second → b.third < c.third)
        → (a.second ≤ c.second) × (a.second ≡ c.second → a.third < c.third)
    thirds u v = (
      omega (arith, u.0, v.0),
      (λ f.
          let ab : a.second ≡ b.second = omega (arith, u.0, v.0, f) in
          let bc : b.second ≡ c.second = omega (arith, u.0, v.0, f) in
          omega (arith, u.1 ab, v.1 bc)),
    )

-- the keys of the entries ascend, the last one below the next
module _ {A : Type 0} (key : A → Key) where
  pub last_later : (x y : A) (xs : List A) → last_of (x ∷ y ∷ xs) ≡ last_of (y ∷ xs)
  last_later x y xs = let next : length (x ∷ y ∷ xs) - 1 ≡ suc (length (y ∷ xs) - 1) = omega arith in ap (slice_get (x ∷ y ∷ xs)) next

  first_below : (x : A) (xs : List A) (k : Key) → Ascend (map key (x ∷ xs)) → is_above (option_map key (last_of (x ∷ xs))) k ≡ true → IsBelow (key x) k
  first_below x [] k up above = below_back (key x) k above
  first_below x (y ∷ xs) k up above =
      let later : is_above (option_map key (last_of (y ∷ xs))) k ≡ true = ap (λ (o : Option A). is_above (option_map key o) k) (sym (last_later x y xs)) ∙ above in
      below_trans (key x) (key y) k up.0.0 (first_below y xs k up.1 later)

  pub ascend_push : (xs : List A) (x : A) → Ascend (map key xs) → ascends key xs (key x) ≡ true → Ascend (map key (xs ++ x ∷ []))
  ascend_push [] x up above = (tt, tt)
  ascend_push (y ∷ []) x up above = ((below_back (key y) (key x) above, tt), (tt, tt))
  ascend_push (y ∷ z ∷ xs) x up above =
      let later : ascends key (z ∷ xs) (key x) ≡ true = ap (λ (o : Option A). is_above (option_map key o) (key x)) (sym (last_later y z xs)) ∙ above in
      let here : IsBelow (key y) (key x) = first_below y (z ∷ xs) (key x) up above in
      ((up.0.0, rw (map-append key xs (x ∷ [])) (AllByRecursion-push (IsBelow (key y)) (map key xs) (key x) up.0.1 here)), ascend_push (z ∷ xs) x up.1 later)

-- one more that differs from each
pub distinct_push : {A K : Type 0} (e : K → K → Bool) (key : A → K) (xs : List A) (x : A) → AllByRecursion (λ (y : A). e (key y) (key x) ≡ false) xs
    → IsDistinct e (map key xs) → IsDistinct e (map key (xs ++ x ∷ []))
unfolding IsDistinct
distinct_push e key [] x apart d = (tt, tt)
distinct_push e key (y ∷ xs) x apart d =
    (rw (map-append key xs (x ∷ [])) (AllByRecursion-push (λ z. e (key y) z ≡ false) (map key xs) (key x) d.0 apart.0), distinct_push e key xs x apart.1 d.1)
