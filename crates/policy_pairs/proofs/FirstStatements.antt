-- The first pattern that contains a prefix stands in the statement that governs it.
use Rattle.std.proofs.Common.{◌≡◌, ℕ, ◌+◌, Bool, true, List, [], ◌∷◌, ◌++◌, append_assoc, length, map, refl, sym, ap, ◌∙◌, arith, inl, inr, Option, Some, None, add-one, length-append}
use Rattle.std.specs.Prelude.{◌≤◌, ◌-◌, ◌/◌, ◌^◌, ◌==◌, IfSome, nat_le, option_map, slice_get, if◌then◌else◌}
use Rattle.std.specs.List.{find}
use Rattle.std.specs.Option.{option_and_then}
use Rattle.std.proofs.lemmas.Bool.{and_parts, cases_Bool, leb-true}
use Rattle.list_law.proofs.Items.{slice_get-there}
use Rattle.list_law.proofs.Tests.{find_parts}
use Rattle.net_base.specs.Prefixes.{PlainPattern, PlainPrefix, contains, is_inside}
use Rattle.policy_base.specs.Policies.{PlainPolicy, PlainStatement}
use Rattle.policy_base.specs.Governing.{governing, governing_from, some_contains}
use Rattle.first_patterns.specs.declared.firsts.Stated.{Stated}
use Rattle.first_patterns.specs.Firsts.{first_pattern, first_place, listed, placed, stated}

placed-more : (ts : List Stated) (n : ℕ) → placed ts (n + 1) ≡ slice_get ts n
placed-more ts n = ap (placed ts) (add-one n)

-- the pattern at the first place is the first pattern
placed_first : (test : PlainPattern → Bool) (pre ts : List Stated)
    → option_and_then (placed (pre ++ ts)) (first_place test ts (length pre + 1)) ≡ find (λ (t : Stated). test t.pattern) ts
placed_first test pre [] = refl
placed_first test pre (t ∷ ts) = elim (cases_Bool (test t.pattern)) [
  | inl met ↦
      ap (λ b. option_and_then (placed (pre ++ t ∷ ts)) (if b then Some (length pre + 1) else first_place test ts ((length pre + 1) + 1))) met
      ∙ placed-more (pre ++ t ∷ ts) (length pre) ∙ slice_get-there pre t ts ∙ sym (ap (λ b. if b then Some t else find (λ (t : Stated). test t.pattern) ts) met)
  | inr missed ↦
      let longer : length (pre ++ t ∷ []) + 1 ≡ (length pre + 1) + 1 = omega (arith, length-append pre (t ∷ [])) in
      ap (λ b. option_and_then (placed (pre ++ t ∷ ts)) (if b then Some (length pre + 1) else first_place test ts ((length pre + 1) + 1))) missed
      ∙ ap (λ n. option_and_then (placed (pre ++ t ∷ ts)) (first_place test ts n)) (sym longer)
      ∙ ap (λ us. option_and_then (placed us) (first_place test ts (length (pre ++ t ∷ []) + 1))) (sym (append_assoc pre (t ∷ []) ts))
      ∙ placed_first test (pre ++ t ∷ []) ts ∙ sym (ap (λ b. if b then Some t else find (λ (t : Stated). test t.pattern) ts) missed)
]

pub first_pattern-find : (policy : PlainPolicy) (p : PlainPrefix) → first_pattern policy p ≡ find (λ (t : Stated). contains t.pattern p) (listed policy.statements 1)
first_pattern-find policy p = placed_first (λ t. contains t p) [] (listed policy.statements 1)

-- it contains the prefix
pub first_contains : (policy : PlainPolicy) (p : PlainPrefix) (t : Stated) → first_pattern policy p ≡ Some t → contains t.pattern p ≡ true
first_contains policy p t is =
    let parts = find_parts (λ (t : Stated). contains t.pattern p) (listed policy.statements 1) t (sym (first_pattern-find policy p) ∙ is) in
    parts.2

-- ---- its statement

number_of : (p : PlainPrefix) (k : ℕ) (ts : List PlainPattern) (rest : List Stated)
    → option_map (λ (t : Stated). t.statement) (find (λ (t : Stated). contains t.pattern p) (map (stated k) ts ++ rest))
    ≡ (if some_contains ts p then Some k else option_map (λ (t : Stated). t.statement) (find (λ (t : Stated). contains t.pattern p) rest))
number_of p k [] rest = refl
number_of p k (t ∷ ts) rest = elim (cases_Bool (contains t p)) [
  | inl met ↦ rw met refl
  | inr missed ↦ rw missed (number_of p k ts rest)
]

number_from : (p : PlainPrefix) (ss : List PlainStatement) (k : ℕ)
    → option_map (λ (t : Stated). t.statement) (find (λ (t : Stated). contains t.pattern p) (listed ss k)) ≡ governing_from ss p k
number_from p [] k = refl
number_from p (s ∷ ss) k =
    number_of p k s.patterns (listed ss (k + 1)) ∙ ap (λ o. if some_contains s.patterns p then Some k else o) (number_from p ss (k + 1))

pub first_statement : (policy : PlainPolicy) (p : PlainPrefix) → option_map (λ (t : Stated). t.statement) (first_pattern policy p) ≡ governing policy p
first_statement policy p = ap (option_map (λ (t : Stated). t.statement)) (first_pattern-find policy p) ∙ number_from p policy.statements 1

-- its lengths are about that of the prefix
pub first_lengths : (policy : PlainPolicy) (p : PlainPrefix) (first : Option Stated) → first ≡ first_pattern policy p
    → IfSome first (λ (t : Stated). (t.pattern.base.len ≤ p.len) × (p.len ≤ t.pattern.upto))
first_lengths policy p None is = tt
first_lengths policy p (Some t) is =
    let outer = and_parts (is_inside t.pattern.base p) (nat_le p.len t.pattern.upto) (first_contains policy p t (sym is)) in
    let inner = and_parts (nat_le t.pattern.base.len p.len) (p.bits / 2 ^ (32 - t.pattern.base.len) == t.pattern.base.bits / 2 ^ (32 - t.pattern.base.len)) outer.0 in
    (leb-true t.pattern.base.len p.len inner.0, leb-true p.len t.pattern.upto outer.1)
