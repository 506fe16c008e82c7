-- What is known of free values.
use Rattle.std.proofs.Common.{◌≡◌, ℕ, zero, suc, ◌+◌, ◌<◌, ◌≤◌, Bool, true, false, cond, nat_eq, List, [], ◌∷◌, ◌++◌, Option, Some, refl, sym, ap, ◌∙◌, subst, arith, inl, inr}
use Rattle.std.specs.Prelude.{◌==◌}
use Rattle.std.proofs.lemmas.Bool.{cases_Bool, cases_lt, cases_order, eqb-true}
use Rattle.std.proofs.lemmas.Option.{same_Some}
use Rattle.net_base.specs.declared.numbers.Tag.{Tag}
use Rattle.net_base.specs.Numbers.{no_tag}
use Rattle.free_tags.specs.declared.free.Reached.{Reached}
use Rattle.free_tags.specs.Free.{AreNewTags, IsFree, IsNewTag, free_count, is_taken}

-- ---- counts

module _ (tags : List Tag) (asn : ℕ) where
  step-taken : (m : ℕ) → is_taken tags asn (suc m) ≡ true → free_count tags asn (suc m) ≡ free_count tags asn m
  step-taken m is =
      let step : free_count tags asn (suc m) ≡ free_count tags asn m + 0 = ap {B = ℕ} (λ b. free_count tags asn m + cond b 0 1) is in
      omega (arith, step)

  step-free : (m : ℕ) → is_taken tags asn (suc m) ≡ false → free_count tags asn (suc m) ≡ free_count tags asn m + 1
  step-free m is = ap {B = ℕ} (λ b. free_count tags asn m + cond b 0 1) is

  step-grows : (m : ℕ) → free_count tags asn m ≤ free_count tags asn (suc m)
  step-grows m = elim (cases_Bool (is_taken tags asn (suc m))) [
    | inl t ↦ omega (arith, step-taken m t)
    | inr t ↦ omega (arith, step-free m t)
  ]

  grows : (v w : ℕ) → v ≤ w → free_count tags asn v ≤ free_count tags asn w
  grows v zero less =
      let none : v ≡ 0 = omega (arith, less) in
      let same : free_count tags asn v ≡ free_count tags asn 0 = ap (free_count tags asn) none in
      omega (arith, same)
  grows v (suc w) less = elim (cases_lt w v) [
    | inl past ↦
        let all : v ≡ suc w = omega (arith, less, past) in
        let same : free_count tags asn v ≡ free_count tags asn (suc w) = ap (free_count tags asn) all in
        omega (arith, same)
    | inr within ↦ omega (arith, grows v w within, step-grows w)
  ]

  more : (k l v w : ℕ) → IsFree tags asn k v → IsFree tags asn l w → v < w → k < l
  more k l v zero a b less = absurd (omega (arith, less))
  more k l v (suc w) a b less = omega (arith, step-free w b.free, grows v w (omega (arith, less)), a.count, b.count)

  -- There is one k-th free value.
  pub one_value : (k v w : ℕ) → IsFree tags asn k v → IsFree tags asn k w → v ≡ w
  one_value k v w a b = elim (cases_order v w) [
    | inl same ↦ same
    | inr rest ↦ elim rest [ inl less ↦ absurd (omega (arith, more k k v w a b less)) | inr less ↦ absurd (omega (arith, more k k w v b a less)) ]
  ]

  -- it isn't 0, where k isn't
  pub value_is : (k v : ℕ) → IsFree tags asn k v → 1 ≤ k → 1 ≤ v
  value_is k zero is some = absurd (let none : 0 ≡ k = is.count in omega (arith, none, some))
  value_is k (suc v) is some = omega arith

-- what is kept after one more count
pub counts-put : (tags : List Tag) (old new : ℕ → Option Reached) (key : ℕ) (w : Reached) → ((q : ℕ) → new q ≡ cond (nat_eq key q) (Some w) (old q))
    → free_count tags key w.value ≡ w.count → ((asn : ℕ) (r : Reached) → old asn ≡ Some r → free_count tags asn r.value ≡ r.count) → (asn : ℕ) (r : Reached) → new asn ≡ Some r
    → free_count tags asn r.value ≡ r.count
counts-put tags old new key w says right before asn r at = by (nat_eq key asn) refl
  where
    by : (b : Bool) → nat_eq key asn ≡ b → free_count tags asn r.value ≡ r.count
    by true is =
        let same : w ≡ r = same_Some w r (sym (says asn ∙ ap (λ b. cond b (Some w) (old asn)) is) ∙ at) in
        let key_is : key ≡ asn = eqb-true key asn is in
        subst (λ (x : Reached). free_count tags asn x.value ≡ x.count) same (subst (λ a. free_count tags a w.value ≡ w.count) key_is right)
    by false is = before asn r (sym (says asn ∙ ap (λ b. cond b (Some w) (old asn)) is) ∙ at)

-- ---- tags

pub new_value : (tags : List Tag) (t : Tag) (v : ℕ) → 1 ≤ t.value → IsFree tags t.asn t.value v → IsNewTag tags t (record { asn = t.asn; value = v })
new_value tags t v some is = by (t.value == 0) refl
  where
    by : (b : Bool) → (t.value == 0) ≡ b → IsNewTag tags t (record { asn = t.asn; value = v })
    by true e = absurd (let z : t.value ≡ 0 = eqb-true t.value 0 e in omega (arith, z, some))
    by false e = rw e (refl, is)

pub one_tag : (tags : List Tag) (t u w : Tag) → IsNewTag tags t u → IsNewTag tags t w → u ≡ w
one_tag tags t u w a b = by (t.value == 0) refl
  where
    by : (b : Bool) → (t.value == 0) ≡ b → u ≡ w
    by true is =
        let one : u ≡ no_tag = rw is at a in
        let other : w ≡ no_tag = rw is at b in
        one ∙ sym other
    by false is =
        let one : (u.asn ≡ t.asn) × IsFree tags t.asn t.value u.value = rw is at a in
        let other : (w.asn ≡ t.asn) × IsFree tags t.asn t.value w.value = rw is at b in
        let value : u.value ≡ w.value = one_value tags t.asn t.value u.value w.value one.1 other.1 in
        let asn : u.asn ≡ w.asn = one.0 ∙ sym other.0 in
        let P : ℕ → Tag = λ n. record { asn = n; value = u.value } in
        let Q : ℕ → Tag = λ n. record { asn = w.asn; value = n } in
        ap P asn ∙ ap Q value

pub one_list : (tags ts us ws : List Tag) → AreNewTags tags ts us → AreNewTags tags ts ws → us ≡ ws
one_list tags [] [] [] a b = refl
one_list tags [] [] (w ∷ ws) a b = absurd b
one_list tags [] (u ∷ us) ws a b = absurd a
one_list tags (t ∷ ts) [] ws a b = absurd a
one_list tags (t ∷ ts) (u ∷ us) [] a b = absurd b
one_list tags (t ∷ ts) (u ∷ us) (w ∷ ws) a b =
    ap (λ (x : Tag). x ∷ us) (one_tag tags t u w a.0 b.0) ∙ ap (λ (xs : List Tag). w ∷ xs) (one_list tags ts us ws a.1 b.1)

-- one more behind them
pub new-push : (tags ts us : List Tag) (t u : Tag) → AreNewTags tags ts us → IsNewTag tags t u → AreNewTags tags (ts ++ t ∷ []) (us ++ u ∷ [])
new-push tags [] [] t u are is = (is, tt)
new-push tags [] (x ∷ us) t u are is = absurd are
new-push tags (s ∷ ts) [] t u are is = absurd are
new-push tags (s ∷ ts) (x ∷ us) t u are is = (are.0, new-push tags ts us t u are.1 is)
