-- A base around a prefix is that prefix, or is around the one that is one bit shorter.
use Rattle.std.proofs.Common.{◌≡◌, ℕ, suc, ◌+◌, ◌-◌, ◌/◌, ◌%◌, ◌^◌, ◌<◌, ◌≤◌, Bool, true, false, List, [], ◌∷◌, inl, inr, refl, ap, sym, subst, ◌∙◌, ⊎_elim, arith}
use Rattle.std.specs.Prelude.{◌⊎◌, ◌||◌, ◌==◌, max, if◌then◌else◌}
use Rattle.std.specs.List.{AllByRecursion}
use Rattle.std.proofs.lemmas.Bool.{eqb-true, eq-eqb, and_parts, and_from, cases_lt, true≢false, false_from_ne_true}
use Rattle.list_law.proofs.Numbers.{same_multiple}
use Rattle.net_base.specs.Prefixes.{PlainPrefix, PlainPattern, IsPrefix, IsPattern, is_inside, same_prefix}
use Rattle.net_base.proofs.PrefixLemmas.{fewer_bits}
use Rattle.lint_cover.specs.Covered.{depth_at, exact_at}
use Rattle.lint_cover.proofs.Decision.{Inside, inside_parts, inside_whole, inside_inside}

same_from : (a r : PlainPrefix) → IsPrefix a → IsPrefix r → a.len ≡ r.len → Inside a r → same_prefix a r ≡ true
same_from a r la lr e h =
    let clean : r.bits % 2 ^ (32 - a.len) ≡ 0 = subst (λ n. r.bits % 2 ^ (32 - n) ≡ 0) (sym e) lr.clean in
    and_from (a.bits == r.bits) (a.len == r.len) (eq-eqb _ _ (same_multiple a.bits r.bits (2 ^ (32 - a.len)) la.clean clean (sym h.agree))) (eq-eqb _ _ e)

-- a base around r is around p or is r, where r is one bit longer than p and inside it
around : (a p r : PlainPrefix) → IsPrefix a → IsPrefix r → r.len ≡ p.len + 1 → is_inside p r ≡ true → is_inside a r ≡ true
    → (is_inside a p ≡ true) ⊎ (same_prefix a r ≡ true)
around a p r la lr next inside h = by_length (cases_lt p.len a.len)
  where
    x : Inside a r
    x = inside_parts a r h

    y : Inside p r
    y = inside_parts p r inside

    by_length : (p.len < a.len) ⊎ (a.len ≤ p.len) → (is_inside a p ≡ true) ⊎ (same_prefix a r ≡ true)
    by_length (inl longer) = inr (same_from a r la lr (omega (arith, x.least, next, longer)) x)
    by_length (inr le) =
        let within : p.len ≤ 32 = omega (arith, lr.within, next) in
        inl (inside_whole a p (record {
          least = le;
          agree = fewer_bits p.bits a.len p.len le within ∙ ap (λ n. n / 2 ^ (p.len - a.len)) (sym y.agree) ∙ sym (fewer_bits r.bits a.len p.len le within) ∙ x.agree;
        }))

around_both : (a p r : PlainPrefix) → IsPrefix a → IsPrefix r → r.len ≡ p.len + 1 → is_inside p r ≡ true → is_inside a r ≡ (is_inside a p || same_prefix a r)
around_both a p r la lr next inside = by_cases (is_inside a p) refl (same_prefix a r) refl
  where
    by_cases : (s : Bool) → is_inside a p ≡ s → (t : Bool) → same_prefix a r ≡ t → is_inside a r ≡ (is_inside a p || same_prefix a r)
    by_cases true is t it = rw is (inside_inside a p r (omega (arith, lr.within, next)) is inside)
    by_cases false is true it =
        let parts = and_parts (a.bits == r.bits) (a.len == r.len) it in
        let bits : a.bits ≡ r.bits = eqb-true _ _ parts.0 in
        let len : a.len ≡ r.len = eqb-true _ _ parts.1 in
        rw is (rw it (inside_whole a r (record { least = omega (arith, len); agree = ap (λ n. n / 2 ^ (32 - a.len)) (sym bits) })))
    by_cases false is false it =
        rw is (rw it (false_from_ne_true (is_inside a r) (λ h. ⊎_elim (λ x. true≢false (sym x ∙ is)) (λ x. true≢false (sym x ∙ it)) (around a p r la lr next inside h))))

max_join : (s t : Bool) (u d e : ℕ) → max (if s || t then u else 0) (max d e) ≡ max (max (if s then u else 0) d) (max (if t then u else 0) e)
max_join true true u d e = omega arith
max_join true false u d e = omega arith
max_join false true u d e = omega arith
max_join false false u d e = omega arith

-- What is around a prefix: what is around the one that is one bit shorter, and what is there.
pub depth_at-next : (qs : List PlainPattern) (p r : PlainPrefix) → AllByRecursion IsPattern qs → IsPrefix r → r.len ≡ p.len + 1 → is_inside p r ≡ true
    → depth_at qs r ≡ max (depth_at qs p) (exact_at qs r)
depth_at-next [] p r all lr next inside = refl
depth_at-next (q ∷ qs) p r all lr next inside =
    ap (λ b. max (if b then suc q.upto else 0) (depth_at qs r)) (around_both q.base p r all.0.prefix lr next inside)
    ∙ ap (λ n. max (if is_inside q.base p || same_prefix q.base r then suc q.upto else 0) n) (depth_at-next qs p r all.1 lr next inside)
    ∙ max_join (is_inside q.base p) (same_prefix q.base r) (suc q.upto) (depth_at qs p) (exact_at qs r)

same_inside : (a r : PlainPrefix) → same_prefix a r ≡ true → is_inside a r ≡ true
same_inside a r it =
    let parts = and_parts (a.bits == r.bits) (a.len == r.len) it in
    let bits : a.bits ≡ r.bits = eqb-true _ _ parts.0 in
    let len : a.len ≡ r.len = eqb-true _ _ parts.1 in
    inside_whole a r (record { least = omega (arith, len); agree = ap (λ n. n / 2 ^ (32 - a.len)) (sym bits) })

abbrev root : PlainPrefix
root = record { bits = 0; len = 0 }

root-IsPrefix : IsPrefix root
root-IsPrefix = record { wide = omega arith; within = omega arith; clean = refl }

-- at the root nothing is around but what is there
root_inside : (a : PlainPrefix) → IsPrefix a → is_inside a root ≡ same_prefix a root
root_inside a la = by_cases (same_prefix a root) refl
  where
    here : is_inside a root ≡ true → same_prefix a root ≡ true
    here h = let x = inside_parts a root h in same_from a root la root-IsPrefix (omega (arith, x.least)) x

    by_cases : (t : Bool) → same_prefix a root ≡ t → is_inside a root ≡ same_prefix a root
    by_cases true it = rw it (same_inside a root it)
    by_cases false it = rw it (false_from_ne_true (is_inside a root) (λ h. true≢false (sym (here h) ∙ it)))

pub depth_at-root : (qs : List PlainPattern) → AllByRecursion IsPattern qs → depth_at qs (record { bits = 0; len = 0 }) ≡ exact_at qs (record { bits = 0; len = 0 })
depth_at-root [] all = refl
depth_at-root (q ∷ qs) all =
    ap (λ b. max (if b then suc q.upto else 0) (depth_at qs (record { bits = 0; len = 0 }))) (root_inside q.base all.0.prefix)
    ∙ ap (λ n. max (if same_prefix q.base (record { bits = 0; len = 0 }) then suc q.upto else 0) n) (depth_at-root qs all.1)
