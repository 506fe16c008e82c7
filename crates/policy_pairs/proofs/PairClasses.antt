-- Who is an originated prefix, what tells the cases of the others, and where a group stands.
use Rattle.std.proofs.Common.{◌≡◌, ◌≢◌, ℕ, Bool, true, false, List, [], ◌∷◌, map, refl, sym, ap, ap₂, ◌∙◌, subst, ◌-◌, inl, inr, Option, Some, None}
use Rattle.std.specs.Prelude.{filter, is_none, is_some, not, nat_eq, option_map, slice_get, ◌||◌, if◌then◌else◌}
use Rattle.std.specs.Option.{option_and_then, option_eq}
use Rattle.std.proofs.lemmas.Bool.{cases_Bool, and_from, and_parts, false≢true, or_parts}
use Rattle.std.proofs.lemmas.Option.{slice_get-map}
use Rattle.list_law.specs.Members.{IsIn}
use Rattle.list_law.proofs.Members.{IsIn-append_cases, IsIn-append_left, IsIn-append_right, IsIn-filter, IsIn-filter_parts, IsIn-map_parts}
use Rattle.list_law.proofs.Options.{is-option_eq, is_some-option_map, none_from_not_some, option_eq-is, option_map_parts}
use Rattle.list_law.proofs.Tests.{list_any-find}
use Rattle.net_base.specs.Network.{PlainNet}
use Rattle.net_base.specs.Prefixes.{IsPrefix, PlainPrefix, contains}
use Rattle.policy_base.specs.declared.policy.Origin.{Origin}
use Rattle.policy_base.specs.Policies.{IsPolicyOf, PlainPolicy}
use Rattle.policy_base.specs.Governing.{governing, originated_at}
use Rattle.first_patterns.specs.declared.firsts.Stated.{Stated}
use Rattle.first_patterns.specs.Firsts.{first_pattern, listed, place_for, placed}
use Rattle.least_prefixes.specs.Classes.{class_for, some_class}
use Rattle.least_prefixes.specs.Least.{is_of}
use Rattle.compare_base.specs.declared.cases.CasePair.{CasePair}
use Rattle.compare_base.specs.Cases.{is_governed, is_originated, pair_for}
use Rattle.compare_base.proofs.SameCases.{cases_are, cases_same}
use Rattle.policy_pairs.specs.declared.groups.Group.{Group}
use Rattle.policy_pairs.specs.Groups.{IsFirstAt, group_for}
use Rattle.policy_pairs.specs.Pairs.{has_cases, originated_prefixes, prefixes_of}
use Rattle.policy_pairs.proofs.FirstStatements.{first_pattern-find, first_statement}
use Rattle.policy_pairs.proofs.PairFacts.{filter_first, first_place_some, originated_some, originated_item, is_none_not}

module _ (net : PlainNet) (old new : PlainPolicy) (kept : IsPolicyOf net old) (kept_too : IsPolicyOf net new) where
  pub originated_are : (p : PlainPrefix) → IsIn (originated_prefixes old new) p → IsPrefix p × (is_originated (pair_for old new p) ≡ true)
  originated_are p at = elim (IsIn-append_cases (prefixes_of old.origins) (filter (λ q. is_none (originated_at old.origins q)) (prefixes_of new.origins)) p at) [
    | inl t ↦
        let item = IsIn-map_parts (λ (o : Origin). o.prefix) old.origins p t in (
          subst IsPrefix item.2 (kept.prefixes item.0 item.1),
          ap (λ b. b || is_some (originated_at new.origins p)) (subst (λ q. is_some (originated_at old.origins q) ≡ true) item.2 (originated_some old.origins item.0 item.1)),
        )
    | inr t ↦
        let item = IsIn-map_parts (λ (o : Origin). o.prefix) new.origins p (IsIn-filter_parts _ (prefixes_of new.origins) p t).0 in (
          subst IsPrefix item.2 (kept_too.prefixes item.0 item.1),
          or_second (is_some (originated_at old.origins p)) (subst (λ q. is_some (originated_at new.origins q) ≡ true) item.2 (originated_some new.origins item.0 item.1)),
        )
  ]
    where
      or_second : (a : Bool) {b : Bool} → b ≡ true → (a || b) ≡ true
      or_second true is = refl
      or_second false is = is

  pub are_originated : (p : PlainPrefix) → is_originated (pair_for old new p) ≡ true → IsIn (originated_prefixes old new) p
  are_originated p is = elim (cases_Bool (is_some (originated_at old.origins p))) [
    | inl t ↦ IsIn-append_left (prefixes_of old.origins) (filter (λ q. is_none (originated_at old.origins q)) (prefixes_of new.origins)) p (originated_item old.origins p t)
    | inr t ↦
        IsIn-append_right (prefixes_of old.origins) (filter (λ q. is_none (originated_at old.origins q)) (prefixes_of new.origins)) p
        (IsIn-filter (λ q. is_none (originated_at old.origins q)) (prefixes_of new.origins) p
        (originated_item new.origins p (ap (λ b. b || is_some (originated_at new.origins p)) (sym t) ∙ is))
        (is_none_not (originated_at old.origins p) ∙ ap not t))
  ]

  -- ---- the others

  -- the statement is that of the first pattern
  statement_at_place : PlainPolicy → Option ℕ → Option ℕ
  statement_at_place policy place = option_map (λ (t : Stated). t.statement) (option_and_then (placed (listed policy.statements 1)) place)

  governing_by : (policy : PlainPolicy) (p : PlainPrefix) → governing policy p ≡ statement_at_place policy (place_for policy p)
  unfolding statement_at_place
  governing_by policy p = sym (first_statement policy p)

  governed_place : (policy : PlainPolicy) (p : PlainPrefix) → is_some (governing policy p) ≡ is_some (place_for policy p)
  governed_place policy p =
      ap is_some (sym (first_statement policy p)) ∙ is_some-option_map (λ (t : Stated). t.statement) (first_pattern policy p) ∙ ap is_some (first_pattern-find policy p)
      ∙ sym (list_any-find (λ (t : Stated). contains t.pattern p) (listed policy.statements 1)) ∙ sym (first_place_some (λ t. contains t p) (listed policy.statements 1) 1)

  -- the places of a class are told by it
  itself : (a b : Option ℕ) → is_some (some_class a b) ≡ true → is_of (record { old = a; new = b }) (some_class a b) ≡ true
  itself None None some = absurd (false≢true some)
  itself None (Some j) some = and_from _ _ (is-option_eq None None refl) (is-option_eq (Some j) (Some j) refl)
  itself (Some i) b some = and_from _ _ (is-option_eq (Some i) (Some i) refl) (is-option_eq b b refl)

  of_some : (a b c d : Option ℕ) → is_of (record { old = a; new = b }) (some_class c d) ≡ true → (a ≡ c) × (b ≡ d)
  of_some a b None None is = absurd (false≢true is)
  of_some a b None (Some j) is = let parts = and_parts (option_eq nat_eq a None) (option_eq nat_eq b (Some j)) is in (option_eq-is a None parts.0, option_eq-is b (Some j) parts.1)
  of_some a b (Some i) d is = let parts = and_parts (option_eq nat_eq a (Some i)) (option_eq nat_eq b d) is in (option_eq-is a (Some i) parts.0, option_eq-is b d parts.1)

  same_class_parts : (a b c d : Option ℕ) → some_class a b ≡ some_class c d → is_some (some_class c d) ≡ true → (a ≡ c) × (b ≡ d)
  same_class_parts a b c d same some = of_some a b c d (ap (is_of (record { old = a; new = b })) (sym same) ∙ itself a b (ap is_some same ∙ some))

  some_is : (a b : Option ℕ) → is_some (some_class a b) ≡ (is_some a || is_some b)
  some_is None None = refl
  some_is None (Some j) = refl
  some_is (Some i) b = refl

  -- what has a class is originated by neither
  pub outside : (p : PlainPrefix) → is_some (class_for old new p) ≡ true
      → (is_originated (pair_for old new p) ≡ false) × (class_for old new p ≡ some_class (place_for old p) (place_for new p))
  outside p some = elim (cases_Bool (is_originated (pair_for old new p))) [
    | inl t ↦ absurd (false≢true (ap (λ b. is_some (if b then None else some_class (place_for old p) (place_for new p))) (sym t) ∙ some))
    | inr t ↦ (t, ap (λ b. if b then None else some_class (place_for old p) (place_for new p)) t)
  ]

  pub no_item : (p : PlainPrefix) → is_originated (pair_for old new p) ≡ false → (originated_at old.origins p ≡ None) × (originated_at new.origins p ≡ None)
  no_item p off =
      let parts = or_parts (is_some (originated_at old.origins p)) (is_some (originated_at new.origins p)) off in
      (none_from_not_some (originated_at old.origins p) parts.0, none_from_not_some (originated_at new.origins p) parts.1)

  -- the cases are told by the class
  pub same_class_cases : (p q : PlainPrefix) → class_for old new p ≡ class_for old new q → is_some (class_for old new q) ≡ true → pair_for old new p ≡ pair_for old new q
  same_class_cases p q same some =
      let a = outside p (ap is_some same ∙ some) in
      let b = outside q some in
      let parts = same_class_parts (place_for old p) (place_for new p) (place_for old q) (place_for new q) (sym a.1 ∙ same ∙ b.1) (ap is_some (sym b.1) ∙ some) in
      let one : governing old p ≡ governing old q = governing_by old p ∙ ap (statement_at_place old) parts.0 ∙ sym (governing_by old q) in
      let other : governing new p ≡ governing new q = governing_by new p ∙ ap (statement_at_place new) parts.1 ∙ sym (governing_by new q) in
      let at_old : originated_at old.origins p ≡ originated_at old.origins q = (no_item p a.0).0 ∙ sym (no_item q b.0).0 in
      let at_new : originated_at new.origins p ≡ originated_at new.origins q = (no_item p a.0).1 ∙ sym (no_item q b.0).1 in
      λ i. record { old = record { statement = one i; origins = at_old i }; new = record { statement = other i; origins = at_new i } }

  pub governed : (p : PlainPrefix) → is_some (class_for old new p) ≡ true → is_governed (pair_for old new p) ≡ true
  governed p some =
      ap₂ (λ (a b : Bool). a || b) (governed_place old p) (governed_place new p) ∙ sym (some_is (place_for old p) (place_for new p)) ∙ ap is_some (sym (outside p some).1) ∙ some

  pub class_some : (p : PlainPrefix) → is_originated (pair_for old new p) ≡ false → is_governed (pair_for old new p) ≡ true → is_some (class_for old new p) ≡ true
  class_some p off on =
      ap (λ b. is_some (if b then None else some_class (place_for old p) (place_for new p))) off ∙ some_is (place_for old p) (place_for new p)
      ∙ ap₂ (λ (a b : Bool). a || b) (sym (governed_place old p)) (sym (governed_place new p)) ∙ on

  -- ---- groups

  pub group_at : (ps : List PlainPrefix) (groups : List Group) (kinds : List CasePair) (i : ℕ) (g : Group) → groups ≡ map (group_for old new ps) kinds → slice_get groups i ≡ Some g
      → (slice_get kinds i ≡ Some g.cases) × (g ≡ group_for old new ps g.cases)
  group_at ps groups kinds i g are at =
      let found = option_map_parts (group_for old new ps) (slice_get kinds i) g (sym (slice_get-map (group_for old new ps) kinds i) ∙ ap (λ gs. slice_get gs i) (sym are) ∙ at) in
      let same : found.0 ≡ g.cases = ap (λ (h : Group). h.cases) found.2 in
      (found.1 ∙ ap Some same, sym found.2 ∙ ap (group_for old new ps) same)

  pub first_in_group : (ps : List PlainPrefix) (k : CasePair) (m : ℕ) (first : IsFirstAt old new ps k m) → slice_get (filter (has_cases old new k) ps) 0 ≡ Some first.prefix
  first_in_group ps k m first =
      filter_first (has_cases old new k) ps m first.prefix first.at (cases_same (pair_for old new first.prefix) k first.has)
      (λ l q less at. elim (cases_Bool (has_cases old new k q)) [
        | inl t ↦ absurd (first.first l q less at (cases_are (pair_for old new q) k t))
        | inr t ↦ t
      ])

  pub map_cases : (ps : List PlainPrefix) (kinds : List CasePair) → map (λ (g : Group). g.cases) (map (group_for old new ps) kinds) ≡ kinds
  map_cases ps [] = refl
  map_cases ps (k ∷ ks) = ap (λ ds. k ∷ ds) (map_cases ps ks)
