-- Each open prefix is told of by a part.
use Rattle.std.proofs.Common.{◌≡◌, ℕ, ◌+◌, Bool, true, false, List, [], ◌∷◌, ◌++◌, Option, Some, refl, sym, ap, subst, ◌∙◌}
use Rattle.std.specs.List.{flat_map}
use Rattle.std.proofs.lemmas.Bool.{false_from_ne_true, false≢true, or_from, true≢false}
use Rattle.std.proofs.lemmas.Option.{same_Some}
use Rattle.list_law.specs.Members.{IsIn}
use Rattle.list_law.proofs.Members.{IsIn-append_left, IsIn-append_right, IsIn-flat_map, IsIn-later}
use Rattle.net_base.specs.Prefixes.{PlainPrefix, PlainPattern, IsPattern, IsPrefix, contains}
use Rattle.policy_base.specs.declared.policy.Origin.{Origin}
use Rattle.policy_base.specs.Governing.{governing_from, some_contains}
use Rattle.policy_base.specs.Policies.{PlainStatement}
use Rattle.lint_cover.specs.Covered.{covered}
use Rattle.lint_cover.proofs.Decision.{covered-IsCovered}
use Rattle.own_space.specs.declared.open_case.OpenCase.{OpenCase}
use Rattle.own_space.specs.declared.open_part.OpenPart.{OpenPart}
use Rattle.own_space.specs.Open.{new_part, number_of, origin_part, part_of, parts_from, pattern_parts, statement_parts}
use Rattle.own_space.specs.Spaces.{all_in}
use Rattle.own_space.proofs.Inside.{part_is, part_there}
use Rattle.own_space.proofs.Originals.{none_of_both}

-- a pattern with a prefix that is in none of some others isn't covered by them
uncovered : (qs : List PlainPattern) (t : PlainPattern) (p : PlainPrefix) → IsPattern t → IsPrefix p → contains t p ≡ true → some_contains qs p ≡ false → covered qs t ≡ false
uncovered qs t p lawful prefix at none = false_from_ne_true _ (λ h. true≢false (sym ((covered-IsCovered qs t lawful).0 h p prefix at) ∙ none))

-- the patterns of statements are patterns
abbrev pub AreLawful : List PlainStatement → Type 0
AreLawful ss = (s : PlainStatement) (t : PlainPattern) → IsIn ss s → IsIn s.patterns t → IsPattern t

-- inside an originated prefix that is listed
module _ (outer : List Origin) (cases : List OpenCase) (p : PlainPrefix) (prefix : IsPrefix p) (o : Origin) (listed : IsIn outer o)
    (base : IsPrefix o.prefix) (around : contains (all_in o.prefix) p ≡ true) where
  -- a part with the number tells of the prefix
  pub record Tells (n : ℕ) (part : OpenPart) : Type 0 where
    pub number : part.number ≡ n
    pub contained : contains part.pattern p ≡ true
    pub inside : contains (all_in part.within) p ≡ true

  by_origin : (before : List PlainPattern) (n : ℕ) (t : PlainPattern) → IsPattern t → contains t p ≡ true → some_contains before p ≡ false
      → (part : OpenPart) × IsIn (origin_part before n t o) part × Tells n part
  by_origin before n t lawful at none =
      let u = part_there o.prefix p t base around at in
      let is = part_is o.prefix t u.0 base lawful u.1 in
      let there = is.meets p around at in
      let part : OpenPart = record { pattern = u.0; within = o.prefix; number = n } in
      let new : new_part before part ≡ part ∷ [] = rw (uncovered before u.0 p is.lawful prefix there none) refl in
      let list : origin_part before n t o ≡ part ∷ [] = ap (part_of before n o.prefix) u.1 ∙ new in
      (part, subst (λ (xs : List OpenPart). IsIn xs part) (sym list) (0, refl), record { number = refl; contained = there; inside = around })

  by_pattern : (before : List PlainPattern) (n : ℕ) (t : PlainPattern) → IsPattern t → contains t p ≡ true → some_contains before p ≡ false
      → (part : OpenPart) × IsIn (pattern_parts outer before (Some n) t) part × Tells n part
  by_pattern before n t lawful at none =
      let x = by_origin before n t lawful at none in
      let all : pattern_parts outer before (Some n) t ≡ flat_map (origin_part before n t) outer = rw (uncovered before t p lawful prefix at none) refl in
      (x.0, subst (λ (xs : List OpenPart). IsIn xs x.0) (sym all) (IsIn-flat_map (origin_part before n t) outer o x.0 listed x.1), x.2)

  by_statement : (before : List PlainPattern) (n : ℕ) (ts : List PlainPattern) → ((t : PlainPattern) → IsIn ts t → IsPattern t)
      → some_contains ts p ≡ true → some_contains before p ≡ false → (part : OpenPart) × IsIn (statement_parts outer before (Some n) ts) part × Tells n part
  by_statement before n [] lawful some none = absurd (false≢true some)
  by_statement before n (t ∷ ts) lawful some none =
      by (contains t p) refl (by_statement (before ++ t ∷ []) n ts (λ x at. lawful x (IsIn-later t x ts at)))
    where
      by : (b : Bool) → contains t p ≡ b
          → (some_contains ts p ≡ true → some_contains (before ++ t ∷ []) p ≡ false → (part : OpenPart) × IsIn (statement_parts outer (before ++ t ∷ []) (Some n) ts) part × Tells n part)
          → (part : OpenPart) × IsIn (statement_parts outer before (Some n) (t ∷ ts)) part × Tells n part
      by true is rest =
          let x = by_pattern before n t (lawful t (0, refl)) is none in
          (x.0, IsIn-append_left (pattern_parts outer before (Some n) t) (statement_parts outer (before ++ t ∷ []) (Some n) ts) x.0 x.1, x.2)
      by false is rest =
          let more : some_contains ts p ≡ true = sym (rw is refl) ∙ some in
          let x = rest more (none_of_both before (t ∷ []) p none (or_from (contains t p) false is refl)) in
          (x.0, IsIn-append_right (pattern_parts outer before (Some n) t) (statement_parts outer (before ++ t ∷ []) (Some n) ts) x.0 x.1, x.2)

  pub some_part : (before : List PlainPattern) (k j n : ℕ) (ss : List PlainStatement) → AreLawful ss → some_contains before p ≡ false
      → governing_from ss p k ≡ Some j → number_of cases j ≡ Some n → (part : OpenPart) × IsIn (parts_from outer cases before k ss) part × Tells n part
  some_part before k j n [] lawful none governed numbered = absurd cc
  some_part before k j n (s ∷ ss) lawful none governed numbered =
      by (some_contains s.patterns p) refl (some_part (before ++ s.patterns) (k + 1) j n ss (λ x t at. lawful x t (IsIn-later s x ss at)))
    where
      first : List OpenPart
      first = statement_parts outer before (number_of cases k) s.patterns

      last : List OpenPart
      last = parts_from outer cases (before ++ s.patterns) (k + 1) ss

      by : (b : Bool) → some_contains s.patterns p ≡ b
          → (some_contains (before ++ s.patterns) p ≡ false → governing_from ss p (k + 1) ≡ Some j → number_of cases j ≡ Some n → (part : OpenPart) × IsIn last part × Tells n part)
          → (part : OpenPart) × IsIn (parts_from outer cases before k (s ∷ ss)) part × Tells n part
      by true is rest =
          let here : k ≡ j = same_Some k j (sym (rw is refl) ∙ governed) in
          let mine : number_of cases k ≡ Some n = ap (number_of cases) here ∙ numbered in
          let x = by_statement before n s.patterns (λ t at. lawful s t (0, refl) at) is none in
          let found : IsIn first x.0 = subst (λ (m : Option ℕ). IsIn (statement_parts outer before m s.patterns) x.0) (sym mine) x.1 in
          (x.0, IsIn-append_left first last x.0 found, x.2)
      by false is rest =
          let later : governing_from ss p (k + 1) ≡ Some j = sym (rw is refl) ∙ governed in
          let x = rest (none_of_both before s.patterns p none is) later numbered in
          (x.0, IsIn-append_right first last x.0 x.1, x.2)
