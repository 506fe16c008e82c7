-- A statement is covered exactly where it governs no prefix of peers.
use Rattle.std.proofs.Common.{◌≡◌, ℕ, zero, suc, ◌+◌, ◌≤◌, Bool, true, false, List, [], ◌∷◌, ◌++◌, Some, None, inl, inr, refl, sym, ap, subst, ◌∙◌, arith}
use Rattle.std.specs.Prelude.{◌↔◌, slice_get, slice_index_or}
use Rattle.std.specs.List.{list_all}
use Rattle.std.proofs.lemmas.Bool.{and_from, and_parts, cases_Bool, true≢false}
use Rattle.std.proofs.lemmas.Option.{same_Some}
use Rattle.list_law.specs.Members.{IsIn}
use Rattle.list_law.proofs.Members.{IsIn-later, list_any-from_IsIn, list_any_member}
use Rattle.net_base.specs.Prefixes.{PlainPrefix, PlainPattern, IsPattern, IsPrefix, contains}
use Rattle.policy_base.specs.Governing.{governing_from, some_contains}
use Rattle.policy_base.specs.Policies.{PlainStatement}
use Rattle.lint_cover.specs.Covered.{IsCovered, covered}
use Rattle.lint_cover.proofs.Decision.{covered-IsCovered}
use Rattle.own_space.specs.Covers.{covered_from}
use Rattle.own_space.specs.Laws.{CoveredGovernsNothing}
use Rattle.own_space.specs.Spaces.{originated}
use Rattle.own_space.proofs.Originals.{none_alone, none_of_both, none_of_each, not_alone}
use Rattle.own_space.proofs.Whole.{AreLawful}

-- ---- all patterns of a list

all_covered : (qs ts : List PlainPattern) (t : PlainPattern) → list_all (covered qs) ts ≡ true → IsIn ts t → covered qs t ≡ true
all_covered qs [] t h at = absurd cc
all_covered qs (u ∷ ts) t h (zero, is) =
    let same : u ≡ t = same_Some u t is in
    subst (λ (x : PlainPattern). covered qs x ≡ true) same (and_parts (covered qs u) (list_all (covered qs) ts) h).0
all_covered qs (u ∷ ts) t h (suc i, is) = all_covered qs ts t (and_parts (covered qs u) (list_all (covered qs) ts) h).1 (i, is)

covered_all : (qs ts : List PlainPattern) → ((t : PlainPattern) → IsIn ts t → covered qs t ≡ true) → list_all (covered qs) ts ≡ true
covered_all qs [] each = refl
covered_all qs (u ∷ ts) each = and_from (covered qs u) (list_all (covered qs) ts) (each u (0, refl)) (covered_all qs ts (λ t at. each t (IsIn-later u t ts at)))

-- ---- statements one after another

-- numbers only grow
governing_least : (ss : List PlainStatement) (p : PlainPrefix) (k j : ℕ) → governing_from ss p k ≡ Some j → k ≤ j
governing_least [] p k j h = absurd cc
governing_least (s ∷ ss) p k j h = by (some_contains s.patterns p) refl (governing_least ss p (k + 1) j)
  where
    by : (b : Bool) → some_contains s.patterns p ≡ b → (governing_from ss p (k + 1) ≡ Some j → k + 1 ≤ j) → k ≤ j
    by true is rest = let same : k ≡ j = same_Some k j (sym (rw is refl) ∙ h) in omega (arith, same)
    by false is rest = let least = rest (sym (rw is refl) ∙ h) in omega (arith, least)

-- the statement at place k governs none of what isn't in `before`
abbrev GovernsNone : List PlainPattern → ℕ → List PlainStatement → ℕ → Type 0
GovernsNone before n ss k = (p : PlainPrefix) → IsPrefix p → some_contains before p ≡ false → ¬ (governing_from ss p n ≡ Some (n + k))

first_covered : (before : List PlainPattern) (n : ℕ) (s : PlainStatement) (ss : List PlainStatement) → ((t : PlainPattern) → IsIn s.patterns t → IsPattern t)
    → (list_all (covered before) s.patterns ≡ true) ↔ GovernsNone before n (s ∷ ss) 0
first_covered before n s ss lawful = (none, all)
  where
    none : list_all (covered before) s.patterns ≡ true → GovernsNone before n (s ∷ ss) 0
    none h p prefix out governed = by (some_contains s.patterns p) refl
      where
        by : (b : Bool) → some_contains s.patterns p ≡ b → ⊥
        by true is =
            let m = list_any_member (λ (t : PlainPattern). contains t p) s.patterns is in
            let inside = (covered-IsCovered before m.0 (lawful m.0 m.1)).0 (all_covered before s.patterns m.0 h m.1) p prefix m.2 in
            true≢false (sym inside ∙ out)
        by false is =
            let later : governing_from ss p (n + 1) ≡ Some (n + 0) = sym (rw is refl) ∙ governed in
            absurd (omega (arith, governing_least ss p (n + 1) (n + 0) later))

    all : GovernsNone before n (s ∷ ss) 0 → list_all (covered before) s.patterns ≡ true
    all nothing = covered_all before s.patterns (λ t at. (covered-IsCovered before t (lawful t at)).1 (each t at))
      where
        each : (t : PlainPattern) → IsIn s.patterns t → IsCovered before t
        each t at p prefix here = elim (cases_Bool (some_contains before p)) [
          | inl some ↦ some
          | inr out ↦
              let there : some_contains s.patterns p ≡ true = list_any-from_IsIn (λ (u : PlainPattern). contains u p) s.patterns t at here in
              let place : n ≡ n + 0 = omega arith in
              absurd (nothing p prefix out (rw there (ap Some place)))
        ]

covered_at : (before : List PlainPattern) (n k : ℕ) (ss : List PlainStatement) → AreLawful ss → ¬ (slice_get ss k ≡ None)
    → (slice_index_or (covered_from before ss) k false ≡ true) ↔ GovernsNone before n ss k
covered_at before n k [] lawful there = absurd (there refl)
covered_at before n zero (s ∷ ss) lawful there = first_covered before n s ss (λ t at. lawful s t (0, refl) at)
covered_at before n (suc k) (s ∷ ss) lawful there =
    let rest = covered_at (before ++ s.patterns) (n + 1) k ss (λ r t at listed. lawful r t (IsIn-later s r ss at) listed) there in
    (λ h. down (rest.0 h), λ nothing. rest.1 (up nothing))
  where
    place : n + 1 + k ≡ n + suc k
    place = omega arith

    down : GovernsNone (before ++ s.patterns) (n + 1) ss k → GovernsNone before n (s ∷ ss) (suc k)
    down nothing p prefix out governed = by (some_contains s.patterns p) refl
      where
        by : (b : Bool) → some_contains s.patterns p ≡ b → ⊥
        by true is =
            let clash : n ≡ n + suc k = same_Some n (n + suc k) (sym (rw is refl) ∙ governed) in
            absurd (omega (arith, clash))
        by false is =
            let later : governing_from ss p (n + 1) ≡ Some (n + suc k) = sym (rw is refl) ∙ governed in
            nothing p prefix (none_of_both before s.patterns p out is) (later ∙ ap Some (sym place))

    up : GovernsNone before n (s ∷ ss) (suc k) → GovernsNone (before ++ s.patterns) (n + 1) ss k
    up nothing p prefix out governed =
        let parts = none_of_each before s.patterns p out in
        nothing p prefix parts.0 (rw parts.1 (governed ∙ ap Some place))

pub covered_governs_nothing : CoveredGovernsNothing
covered_governs_nothing net policy kept k there =
    let law = covered_at (originated policy) 1 k policy.statements (λ s t at listed. kept.patterns s t at listed) there in
    let number : 1 + k ≡ suc k = omega arith in (
      λ h p mine governed. law.0 h p mine.prefix (not_alone policy.origins p (λ o at. kept.prefixes o at) mine.prefix mine.not_originated) (governed ∙ ap Some (sym number)),
      λ nothing. law.1 (λ p prefix out governed. nothing p (record { prefix = prefix; not_originated = none_alone policy.origins p out }) (governed ∙ ap Some number)),
    )
