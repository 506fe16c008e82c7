-- What is inside prefixes, and the part of a pattern in a prefix.
use Rattle.std.proofs.Common.{◌≡◌, ℕ, zero, suc, ◌-◌, ◌/◌, ◌^◌, ◌<◌, ◌≤◌, Bool, true, false, List, Some, None, inl, inr, refl, sym, ap, subst, ◌∙◌, arith}
use Rattle.std.specs.Prelude.{◌⊎◌, nat_le, nat_lt, not}
use Rattle.std.specs.List.{list_any}
use Rattle.std.proofs.lemmas.Bool.{and_from, and_parts, cases_Bool, cases_lt, le-leb, leb-true, ltb-true, not_from_false, true≢false}
use Rattle.std.proofs.lemmas.Option.{same_Some}
use Rattle.list_law.specs.Members.{IsIn}
use Rattle.list_law.proofs.Members.{IsIn-filter, IsIn-filter_parts, list_any_member}
use Rattle.net_base.specs.Prefixes.{PlainPrefix, PlainPattern, IsPattern, IsPrefix, contains, is_inside}
use Rattle.net_base.proofs.PrefixLemmas.{fewer_bits}
use Rattle.policy_base.specs.declared.policy.Origin.{Origin}
use Rattle.lint_cover.proofs.Decision.{inside_inside, inside_parts, inside_whole}
use Rattle.own_space.specs.Spaces.{all_in, holds_own, is_around, is_outer, is_within, outer_of, part_in}

-- ---- all that is inside a prefix

pub all_parts : (a p : PlainPrefix) → contains (all_in a) p ≡ true → (is_inside a p ≡ true) × (p.len ≤ 32)
all_parts a p h = let b = and_parts (is_inside a p) (nat_le p.len 32) h in (b.0, leb-true _ _ b.1)

pub all_whole : (a p : PlainPrefix) → is_inside a p ≡ true → p.len ≤ 32 → contains (all_in a) p ≡ true
all_whole a p inside le = and_from (is_inside a p) (nat_le p.len 32) inside (le-leb _ _ le)

all_through : (a b p : PlainPrefix) → contains (all_in a) b ≡ true → contains (all_in b) p ≡ true → contains (all_in a) p ≡ true
all_through a b p x y =
    let c = all_parts a b x in
    let d = all_parts b p y in
    all_whole a p (inside_inside a b p c.1 c.0 d.0) d.1

-- of two prefixes around a third the shorter one is around the other
both_around : (a b p : PlainPrefix) → a.len ≤ b.len → b.len ≤ 32 → is_inside a p ≡ true → is_inside b p ≡ true → is_inside a b ≡ true
both_around a b p le most ha hb =
    let x = inside_parts a p ha in
    let y = inside_parts b p hb in
    inside_whole a b (record {
      least = le;
      agree = fewer_bits b.bits a.len b.len le most ∙ ap (λ n. n / 2 ^ (b.len - a.len)) (sym y.agree) ∙ sym (fewer_bits p.bits a.len b.len le most) ∙ x.agree;
    })

-- ---- the outermost originated prefix

module _ (os : List Origin) (p : PlainPrefix) where
  abbrev Around : Origin → Type 0
  Around o = holds_own o.prefix p ≡ true

  -- a shorter one is around it, or it's an outermost one
  climb : (n : ℕ) (o : Origin) → o.prefix.len < n → IsIn os o → Around o → (q : Origin) × IsIn (outer_of os) q × (contains (all_in q.prefix) p ≡ true)
  climb zero o less at around = absurd (omega (arith, less))
  climb (suc n) o less at around = by (climb n) (cases_Bool (is_within os o))
    where
      own : (nat_lt 0 o.prefix.len ≡ true) × (contains (all_in o.prefix) p ≡ true)
      own = and_parts (nat_lt 0 o.prefix.len) (contains (all_in o.prefix) p) around

      by : ((q : Origin) → q.prefix.len < n → IsIn os q → Around q → (q : Origin) × IsIn (outer_of os) q × (contains (all_in q.prefix) p ≡ true))
          → (is_within os o ≡ true) ⊎ (is_within os o ≡ false) → (q : Origin) × IsIn (outer_of os) q × (contains (all_in q.prefix) p ≡ true)
      by more (inl some) =
          let m = list_any_member (λ (q : Origin). is_around q.prefix o.prefix) os some in
          let parts = and_parts (holds_own m.0.prefix o.prefix) (nat_lt m.0.prefix.len o.prefix.len) m.2 in
          let two = and_parts (nat_lt 0 m.0.prefix.len) (contains (all_in m.0.prefix) o.prefix) parts.0 in
          let shorter : m.0.prefix.len < o.prefix.len = ltb-true _ _ parts.1 in
          let around_more = and_from (nat_lt 0 m.0.prefix.len) (contains (all_in m.0.prefix) p) two.0 (all_through m.0.prefix o.prefix p two.1 own.1) in
          more m.0 (omega (arith, shorter, less)) m.1 around_more
      by more (inr none) = (o, IsIn-filter (is_outer os) os o at (and_from (nat_lt 0 o.prefix.len) (not (is_within os o)) own.0 (not_from_false _ none)), own.1)

  pub outer_around : list_any (λ (o : Origin). holds_own o.prefix p) os ≡ true → (q : Origin) × IsIn (outer_of os) q × (contains (all_in q.prefix) p ≡ true)
  outer_around some =
      let m = list_any_member (λ (o : Origin). holds_own o.prefix p) os some in
      climb (suc m.0.prefix.len) m.0 (omega arith) m.1 m.2

pub outer_in : (os : List Origin) (o : Origin) → IsIn (outer_of os) o → IsIn os o
outer_in os o at = (IsIn-filter_parts (is_outer os) os o at).0

-- ---- the part of a pattern in a prefix

-- what the part is
pub record IsPart (p : PlainPrefix) (t u : PlainPattern) : Type 0 where
  pub lawful : IsPattern u
  pub meets : (q : PlainPrefix) → contains (all_in p) q ≡ true → contains t q ≡ true → contains u q ≡ true
  pub inside : (q : PlainPrefix) → q.len ≤ 32 → contains u q ≡ true → contains (all_in p) q ≡ true
  pub only : (q : PlainPrefix) → contains u q ≡ true → contains t q ≡ true

pattern_inside : (p : PlainPrefix) (t : PlainPattern) → IsPattern t → contains (all_in p) t.base ≡ true → IsPart p t t
pattern_inside p t lawful h = record {
  lawful = lawful;
  meets = λ q at c. c;
  inside = λ q le c. all_whole p q (inside_inside p t.base q lawful.prefix.within (all_parts p t.base h).0 (and_parts (is_inside t.base q) (nat_le q.len t.upto) c).0) le;
  only = λ q c. c;
}

prefix_inside : (p : PlainPrefix) (t : PlainPattern) → IsPrefix p → IsPattern t → contains t p ≡ true → IsPart p t (record { base = p; upto = t.upto })
prefix_inside p t prefix lawful h =
    let parts = and_parts (is_inside t.base p) (nat_le p.len t.upto) h in
    record {
      lawful = record { prefix = prefix; least = leb-true _ _ parts.1; most = lawful.most };
      meets = λ q at c. and_from (is_inside p q) (nat_le q.len t.upto) (all_parts p q at).0 (and_parts (is_inside t.base q) (nat_le q.len t.upto) c).1;
      inside = λ q le c. all_whole p q (and_parts (is_inside p q) (nat_le q.len t.upto) c).0 le;
      only = λ q c.
          let two = and_parts (is_inside p q) (nat_le q.len t.upto) c in
          and_from (is_inside t.base q) (nat_le q.len t.upto) (inside_inside t.base p q prefix.within parts.0 two.0) two.1;
    }

pub part_is : (p : PlainPrefix) (t u : PlainPattern) → IsPrefix p → IsPattern t → part_in p t ≡ Some u → IsPart p t u
part_is p t u prefix lawful is = by (contains (all_in p) t.base) refl (contains t p) refl
  where
    by : (b : Bool) → contains (all_in p) t.base ≡ b → (d : Bool) → contains t p ≡ d → IsPart p t u
    by true h d e =
        let same : t ≡ u = same_Some t u (sym (rw h refl) ∙ is) in
        subst (IsPart p t) same (pattern_inside p t lawful h)
    by false h true e =
        let part : PlainPattern = record { base = p; upto = t.upto } in
        let same : part ≡ u = same_Some part u (sym (rw (h, e) refl) ∙ is) in
        subst (IsPart p t) same (prefix_inside p t prefix lawful e)
    by false h false e =
        let clash : None ≡ Some u = sym (rw (h, e) refl) ∙ is in
        absurd cc

-- there is one where some prefix is in both
pub part_there : (p q : PlainPrefix) (t : PlainPattern) → IsPrefix p → contains (all_in p) q ≡ true → contains t q ≡ true → (u : PlainPattern) × (part_in p t ≡ Some u)
part_there p q t prefix at c = by (contains (all_in p) t.base) refl (contains t p) refl
  where
    inside : (is_inside p q ≡ true) × (q.len ≤ 32)
    inside = all_parts p q at

    two : (is_inside t.base q ≡ true) × (nat_le q.len t.upto ≡ true)
    two = and_parts (is_inside t.base q) (nat_le q.len t.upto) c

    by : (b : Bool) → contains (all_in p) t.base ≡ b → (d : Bool) → contains t p ≡ d → (u : PlainPattern) × (part_in p t ≡ Some u)
    by true h d e = (t, rw h refl)
    by false h true e = (record { base = p; upto = t.upto }, rw (h, e) refl)
    by false h false e = absurd (by_length (cases_lt t.base.len p.len))
      where
        low : p.len ≤ q.len
        low = (inside_parts p q inside.0).least

        base_low : t.base.len ≤ q.len
        base_low = (inside_parts t.base q two.0).least

        by_length : (t.base.len < p.len) ⊎ (p.len ≤ t.base.len) → ⊥
        by_length (inl less) =
            let around = both_around t.base p q (omega (arith, less)) prefix.within two.0 inside.0 in
            let most : q.len ≤ t.upto = leb-true _ _ two.1 in
            true≢false (sym (and_from (is_inside t.base p) (nat_le p.len t.upto) around (le-leb _ _ (omega (arith, low, most)))) ∙ e)
        by_length (inr more) =
            let within : t.base.len ≤ 32 = omega (arith, base_low, inside.1) in
            true≢false (sym (all_whole p t.base (both_around p t.base q more within inside.0 two.0) within) ∙ h)
