-- Of each class that a prefix has, a prefix that begins at a bound has it, and no later.
use Rattle.std.proofs.Common.{◌≡◌, ℕ, zero, suc, ◌+◌, ◌-◌, ◌^◌, ◌<◌, ◌≤◌, true, false, List, [], ◌∷◌, map, Some, None, refl, sym, ap, ap₂, ◌∙◌, subst, pow_pos, arith, inl, inr}
use Rattle.std.specs.Prelude.{◌||◌, ◌==◌, is_some, if◌then◌else◌}
use Rattle.std.specs.List.{list_any}
use Rattle.std.proofs.lemmas.Bool.{and_parts, cases_Bool, eq-eqb, eqb-true, false_from_ne_true, or_left, or_parts, or_right, true≢false}
use Rattle.list_law.specs.Members.{IsIn}
use Rattle.list_law.proofs.Members.{IsIn-append_cases, IsIn-later, IsIn-map_parts, IsIn-nil, list_any-from_IsIn}
use Rattle.list_law.proofs.Options.{unless_parts}
use Rattle.net_base.specs.Network.{PlainNet}
use Rattle.net_base.specs.Prefixes.{PlainPrefix, PlainPattern, IsPrefix, contains, same_prefix}
use Rattle.policy_base.specs.declared.policy.Origin.{Origin}
use Rattle.policy_base.specs.Policies.{PlainPolicy, PlainStatement, IsPolicyOf}
use Rattle.policy_base.specs.Governing.{originated_at}
use Rattle.first_patterns.specs.declared.firsts.Stated.{Stated}
use Rattle.first_patterns.specs.Firsts.{first_place, listed, place_for, stated}
use Rattle.least_prefixes.specs.declared.asked.Class.{Class}
use Rattle.least_prefixes.specs.Bounds.{bounds_origin, bounds_pattern, bounds_prefix, is_bound}
use Rattle.least_prefixes.specs.Classes.{class_for, is_originated, some_class}
use Rattle.least_prefixes.proofs.Blocks.{at_least, below, below_prefix, contains-below}

-- a pattern that is listed is one of a statement
listed_parts : (ss : List PlainStatement) (k : ℕ) (t : Stated) → IsIn (listed ss k) t → (s : PlainStatement) × IsIn ss s × IsIn s.patterns t.pattern
listed_parts [] k t at = absurd (IsIn-nil t at)
listed_parts (s ∷ ss) k t at = elim (IsIn-append_cases (map (stated k) s.patterns) (listed ss (k + 1)) t at) [
  | inl here ↦
      let from = IsIn-map_parts (stated k) s.patterns t here in
      (s, (0, refl), subst (IsIn s.patterns) (ap (λ (x : Stated). x.pattern) from.2) from.1)
  | inr later ↦ (let more = listed_parts ss (k + 1) t later in (more.0, IsIn-later s more.0 ss more.1, more.2))
]

first_place-alike : (p q : PlainPrefix) (ts : List Stated) (k : ℕ) → ((t : Stated) → IsIn ts t → contains t.pattern p ≡ contains t.pattern q)
    → first_place (λ t. contains t p) ts k ≡ first_place (λ t. contains t q) ts k
first_place-alike p q [] k same = refl
first_place-alike p q (t ∷ ts) k same =
    ap (λ b. if b then Some k else first_place (λ s. contains s p) ts (k + 1)) (same t (0, refl))
    ∙ ap (λ o. if contains t.pattern q then Some k else o) (first_place-alike p q ts (k + 1) (λ s at. same s (IsIn-later t s ts at)))

-- no item originates the prefix before one where no originated prefix ends
not_originated : (os : List Origin) (q : PlainPrefix) → 2 ^ (32 - q.len) ≤ q.bits → bounds_origin os q.bits ≡ false → originated_at os (below q) ≡ None
not_originated [] q large none = refl
not_originated (o ∷ os) q large none =
    let parts = or_parts (bounds_prefix o.prefix q.bits) (bounds_origin os q.bits) none in
    let other : same_prefix o.prefix (below q) ≡ false = false_from_ne_true (same_prefix o.prefix (below q)) (λ same.
    (let both = and_parts (o.prefix.bits == q.bits - 2 ^ (32 - q.len)) (o.prefix.len == q.len) same in
    let bits = eqb-true o.prefix.bits (q.bits - 2 ^ (32 - q.len)) both.0 in
    let len = eqb-true o.prefix.len q.len both.1 in
    let ends : o.prefix.bits + 2 ^ (32 - o.prefix.len) ≡ q.bits = ap (λ l. o.prefix.bits + 2 ^ (32 - l)) len ∙ omega (arith, bits, large) in
    true≢false (sym (or_right (o.prefix.bits == q.bits) (o.prefix.bits + 2 ^ (32 - o.prefix.len) == q.bits) (eq-eqb (o.prefix.bits + 2 ^ (32 - o.prefix.len)) q.bits ends)) ∙ parts.0))) in
    ap (λ b. if b then Some o.at else originated_at os (below q)) other ∙ not_originated os q large parts.1

module _ (net : PlainNet) (policy : PlainPolicy) (kept : IsPolicyOf net policy) (q : PlainPrefix) (rules : IsPrefix q) (large : 2 ^ (32 - q.len) ≤ q.bits) (off : is_bound policy q.bits ≡ false) where
  parts : (bounds_origin policy.origins q.bits ≡ false) × (list_any (λ (s : PlainStatement). bounds_pattern s.patterns q.bits) policy.statements ≡ false)
  parts = or_parts (bounds_origin policy.origins q.bits) (list_any (λ (s : PlainStatement). bounds_pattern s.patterns q.bits) policy.statements) off

  -- no pattern begins or ends there
  no_edge : (t : Stated) (s : PlainStatement) → IsIn policy.statements s → IsIn s.patterns t.pattern → bounds_prefix t.pattern.base q.bits ≡ true → ⊥
  no_edge t s at in_it edge =
      let some : bounds_pattern s.patterns q.bits ≡ true = list_any-from_IsIn (λ (x : PlainPattern). bounds_prefix x.base q.bits) s.patterns t.pattern in_it edge in
      true≢false (sym (list_any-from_IsIn (λ (x : PlainStatement). bounds_pattern x.patterns q.bits) policy.statements s at some) ∙ parts.1)

  contained_alike : (t : Stated) → IsIn (listed policy.statements 1) t → contains t.pattern q ≡ contains t.pattern (below q)
  contained_alike t at =
      let from = listed_parts policy.statements 1 t at in
      let base = t.pattern.base in
      contains-below t.pattern q (kept.patterns from.0 t.pattern from.1 from.2) rules large
      (λ e. no_edge t from.0 from.1 from.2 (or_left (base.bits == q.bits) (base.bits + 2 ^ (32 - base.len) == q.bits) (eq-eqb base.bits q.bits e)))
      (λ e. no_edge t from.0 from.1 from.2 (or_right (base.bits == q.bits) (base.bits + 2 ^ (32 - base.len) == q.bits) (eq-eqb (base.bits + 2 ^ (32 - base.len)) q.bits e)))

  pub place-below : place_for policy q ≡ place_for policy (below q)
  place-below = first_place-alike q (below q) (listed policy.statements 1) 1 contained_alike

  pub unoriginated-below : originated_at policy.origins (below q) ≡ None
  unoriginated-below = not_originated policy.origins q large parts.0

module _ (net : PlainNet) (old new : PlainPolicy) (kept : IsPolicyOf net old) (kept_too : IsPolicyOf net new) (c : Class) where
  class-below : (q : PlainPrefix) → IsPrefix q → 2 ^ (32 - q.len) ≤ q.bits → is_bound old q.bits ≡ false → is_bound new q.bits ≡ false → class_for old new q ≡ Some c
      → class_for old new (below q) ≡ Some c
  class-below q rules large off off_too is =
      let here = (unless_parts (is_originated old new q) (some_class (place_for old q) (place_for new q)) c is).1 in
      let outside : is_originated old new (below q) ≡ false =
      ap₂ (λ a b. is_some a || is_some b) (unoriginated-below net old kept q rules large off) (unoriginated-below net new kept_too q rules large off_too) in
      ap (λ b. if b then None else some_class (place_for old (below q)) (place_for new (below q))) outside
      ∙ sym (ap₂ some_class (place-below net old kept q rules large off) (place-below net new kept_too q rules large off_too)) ∙ here

  -- a prefix of the class, as long as the other and no later, that begins at a bound
  pub record IsAtBound (q p : PlainPrefix) : Type 0 where
    pub rules : IsPrefix p
    pub class : class_for old new p ≡ Some c
    pub before : p.bits ≤ q.bits
    pub long : p.len ≡ q.len
    pub bound : ((0 == p.bits || is_bound old p.bits) || is_bound new p.bits) ≡ true

  descend : (fuel : ℕ) (q : PlainPrefix) → q.bits < fuel → IsPrefix q → class_for old new q ≡ Some c → (p : PlainPrefix) × IsAtBound q p
  descend zero q few rules is = absurd (omega (arith, few))
  descend (suc fuel) q few rules is = elim (cases_Bool ((0 == q.bits || is_bound old q.bits) || is_bound new q.bits)) [
    | inl here ↦ (q, record { rules = rules; class = is; before = omega arith; long = refl; bound = here })
    | inr off ↦
        let last = or_parts (0 == q.bits || is_bound old q.bits) (is_bound new q.bits) off in
        let first = or_parts (0 == q.bits) (is_bound old q.bits) last.0 in
        let large = at_least q.bits (2 ^ (32 - q.len)) rules.clean (λ none. true≢false (sym (eq-eqb 0 q.bits (sym none)) ∙ first.0)) in
        let some = pow_pos (32 - q.len) in
        let x = descend fuel (below q) (omega (arith, few, large, some)) (below_prefix q rules large) (class-below q rules large first.1 last.1 is) in
        let before = x.1.before in
        (x.0, record { rules = x.1.rules; class = x.1.class; before = omega (arith, before); long = x.1.long; bound = x.1.bound })
  ]

  pub at_bound : (q : PlainPrefix) → IsPrefix q → class_for old new q ≡ Some c → (p : PlainPrefix) × IsAtBound q p
  at_bound q rules is = descend (suc q.bits) q (omega arith) rules is
