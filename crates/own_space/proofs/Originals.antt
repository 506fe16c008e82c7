-- The patterns of originated prefixes, each alone.
use Rattle.std.proofs.Common.{◌≡◌, ℕ, ◌-◌, ◌/◌, ◌%◌, ◌^◌, ◌≤◌, Bool, true, false, List, [], ◌∷◌, ◌++◌, Some, None, refl, sym, ap, subst, ◌∙◌, map, arith}
use Rattle.std.specs.Prelude.{◌==◌, nat_le}
use Rattle.std.proofs.lemmas.Bool.{and_from, and_parts, eq-eqb, eqb-true, false_from_ne_true, le-leb, leb-true, or_from, or_parts, true≢false}
use Rattle.list_law.specs.Members.{IsIn}
use Rattle.list_law.proofs.Members.{IsIn-later}
use Rattle.list_law.proofs.Numbers.{same_multiple}
use Rattle.net_base.specs.Prefixes.{PlainPrefix, PlainPattern, IsPrefix, contains, is_inside, only, same_prefix}
use Rattle.policy_base.specs.declared.policy.Origin.{Origin}
use Rattle.policy_base.specs.Governing.{originated_at, some_contains}

-- a prefix alone contains no other
only_same : (q p : PlainPrefix) → IsPrefix q → IsPrefix p → contains (only q) p ≡ true → same_prefix q p ≡ true
only_same q p rules other h =
    let parts = and_parts (is_inside q p) (nat_le p.len q.len) h in
    let inside = and_parts (nat_le q.len p.len) (p.bits / 2 ^ (32 - q.len) == q.bits / 2 ^ (32 - q.len)) parts.0 in
    let least : q.len ≤ p.len = leb-true _ _ inside.0 in
    let most : p.len ≤ q.len = leb-true _ _ parts.1 in
    let len : p.len ≡ q.len = omega (arith, least, most) in
    let clean : p.bits % 2 ^ (32 - q.len) ≡ 0 = subst (λ (n : ℕ). p.bits % 2 ^ (32 - n) ≡ 0) len other.clean in
    let bits : p.bits ≡ q.bits = same_multiple p.bits q.bits (2 ^ (32 - q.len)) clean rules.clean (eqb-true _ _ inside.1) in
    and_from (q.bits == p.bits) (q.len == p.len) (eq-eqb _ _ (sym bits)) (eq-eqb _ _ (sym len))

same_only : (q p : PlainPrefix) → same_prefix q p ≡ true → contains (only q) p ≡ true
same_only q p h =
    let parts = and_parts (q.bits == p.bits) (q.len == p.len) h in
    let bits : q.bits ≡ p.bits = eqb-true _ _ parts.0 in
    let len : q.len ≡ p.len = eqb-true _ _ parts.1 in
    and_from (is_inside q p) (nat_le p.len q.len)
    (and_from (nat_le q.len p.len) (p.bits / 2 ^ (32 - q.len) == q.bits / 2 ^ (32 - q.len)) (le-leb _ _ (omega (arith, len))) (eq-eqb _ _ (ap (λ n. n / 2 ^ (32 - q.len)) (sym bits))))
    (le-leb _ _ (omega (arith, len)))

abbrev alone : List Origin → List PlainPattern
alone = map (λ (o : Origin). only o.prefix)

-- a prefix is in none of them exactly where it isn't originated
pub not_alone : (os : List Origin) (p : PlainPrefix) → ((o : Origin) → IsIn os o → IsPrefix o.prefix) → IsPrefix p → originated_at os p ≡ None → some_contains (alone os) p ≡ false
not_alone [] p lawful prefix none = refl
not_alone (o ∷ os) p lawful prefix none = by (same_prefix o.prefix p) refl (not_alone os p (λ x at. lawful x (IsIn-later o x os at)) prefix)
  where
    by : (b : Bool) → same_prefix o.prefix p ≡ b → (originated_at os p ≡ None → some_contains (alone os) p ≡ false) → some_contains (alone (o ∷ os)) p ≡ false
    by true is rest =
        let clash : Some o.at ≡ None = sym (rw is refl) ∙ none in
        absurd cc
    by false is rest =
        let more : originated_at os p ≡ None = sym (rw is refl) ∙ none in
        or_from (contains (only o.prefix) p) (some_contains (alone os) p)
        (false_from_ne_true _ (λ h. true≢false (sym (only_same o.prefix p (lawful o (0, refl)) prefix h) ∙ is))) (rest more)

pub none_alone : (os : List Origin) (p : PlainPrefix) → some_contains (alone os) p ≡ false → originated_at os p ≡ None
none_alone [] p h = refl
none_alone (o ∷ os) p h = by (same_prefix o.prefix p) refl (none_alone os p)
  where
    parts : (contains (only o.prefix) p ≡ false) × (some_contains (alone os) p ≡ false)
    parts = or_parts (contains (only o.prefix) p) (some_contains (alone os) p) h

    by : (b : Bool) → same_prefix o.prefix p ≡ b → (some_contains (alone os) p ≡ false → originated_at os p ≡ None) → originated_at (o ∷ os) p ≡ None
    by true is rest = absurd (true≢false (sym (same_only o.prefix p is) ∙ parts.0))
    by false is rest = rw is (rest parts.1)

-- ---- what is in none of two lists of patterns

pub none_of_both : (qs ps : List PlainPattern) (p : PlainPrefix) → some_contains qs p ≡ false → some_contains ps p ≡ false → some_contains (qs ++ ps) p ≡ false
none_of_both [] ps p none other = other
none_of_both (q ∷ qs) ps p none other =
    let parts = or_parts (contains q p) (some_contains qs p) none in
    or_from (contains q p) (some_contains (qs ++ ps) p) parts.0 (none_of_both qs ps p parts.1 other)

pub none_of_each : (qs ps : List PlainPattern) (p : PlainPrefix) → some_contains (qs ++ ps) p ≡ false → (some_contains qs p ≡ false) × (some_contains ps p ≡ false)
none_of_each [] ps p none = (refl, none)
none_of_each (q ∷ qs) ps p none =
    let parts = or_parts (contains q p) (some_contains (qs ++ ps) p) none in
    let rest = none_of_each qs ps p parts.1 in
    (or_from (contains q p) (some_contains qs p) parts.0 rest.0, rest.1)
