-- Patterns against others, one after another.
use Rattle.std.proofs.Common.{◌≡◌, ℕ, ◌+◌, ◌<◌, Bool, true, false, List, [], ◌∷◌, ◌++◌, length, get_or, take, Some, inl, inr, sym, ap, subst, ◌∙◌, ⊎_elim, arith, append-nil}
use Rattle.std.specs.Prelude.{◌↔◌, ◌⊎◌, IsTrue, slice_get, slice_index_or}
use Rattle.std.specs.List.{flat_map}
use Rattle.std.proofs.lemmas.Bool.{cases_lt, false≢true, or_cases, or_left, or_right}
use Rattle.std.proofs.lemmas.Grind.{flat_map-append}
use Rattle.std.proofs.lemmas.List.{get_or_append_left, get_or_push, length_push, take_more}
use Rattle.std.proofs.lemmas.Option.{get_or_from_slice_get, same_Some, slice_get_within}
use Rattle.net_base.specs.Prefixes.{PlainPrefix, PlainPattern, contains}
use Rattle.policy_base.specs.Governing.{some_contains}
use Rattle.policy_base.specs.Policies.{PlainStatement}
use Rattle.lint_cover.specs.Covered.{AreCovered, IsCovered}
use Rattle.lint_cover.specs.Statements.{IsCoveredAt, patterns_before}

-- ---- what is in one of two lists of patterns

pub in_front : (qs ps : List PlainPattern) (p : PlainPrefix) → some_contains qs p ≡ true → some_contains (qs ++ ps) p ≡ true
in_front [] ps p h = absurd (false≢true h)
in_front (q ∷ qs) ps p h =
    ⊎_elim (λ x. or_left (contains q p) (some_contains (qs ++ ps) p) x) (λ x. or_right (contains q p) (some_contains (qs ++ ps) p) (in_front qs ps p x))
    (or_cases (contains q p) (some_contains qs p) h)

pub in_rest : (qs ps : List PlainPattern) (p : PlainPrefix) → some_contains ps p ≡ true → some_contains (qs ++ ps) p ≡ true
in_rest [] ps p h = h
in_rest (q ∷ qs) ps p h = or_right (contains q p) (some_contains (qs ++ ps) p) (in_rest qs ps p h)

pub in_either : (qs ps : List PlainPattern) (p : PlainPrefix) → some_contains (qs ++ ps) p ≡ true → (some_contains qs p ≡ true) ⊎ (some_contains ps p ≡ true)
in_either [] ps p h = inr h
in_either (q ∷ qs) ps p h = by_first (or_cases (contains q p) (some_contains (qs ++ ps) p) h) (in_either qs ps p)
  where
    by_first : (contains q p ≡ true) ⊎ (some_contains (qs ++ ps) p ≡ true) → (some_contains (qs ++ ps) p ≡ true → (some_contains qs p ≡ true) ⊎ (some_contains ps p ≡ true))
        → (some_contains (q ∷ qs) p ≡ true) ⊎ (some_contains ps p ≡ true)
    by_first (inl x) rest = inl (or_left (contains q p) (some_contains qs p) x)
    by_first (inr x) rest = ⊎_elim (λ y. inl (or_right (contains q p) (some_contains qs p) y)) (λ y. inr y) (rest x)

in_one : (q : PlainPattern) (p : PlainPrefix) → some_contains (q ∷ []) p ≡ true → contains q p ≡ true
in_one q p h = ⊎_elim (λ x. x) (λ x. absurd (false≢true x)) (or_cases (contains q p) (some_contains [] p) h)

-- ---- patterns one after another

-- where some are covered, one more is where it's covered by all that were put in
pub covered_too : (qs ps : List PlainPattern) (q : PlainPattern) → AreCovered qs ps → IsCovered (qs ++ ps) q ↔ AreCovered qs (ps ++ q ∷ [])
covered_too qs ps q before = (more, less)
  where
    more : IsCovered (qs ++ ps) q → AreCovered qs (ps ++ q ∷ [])
    more one p lawful h =
        ⊎_elim (λ x. before p lawful x)
        (λ x. ⊎_elim (λ y. y) (λ y. before p lawful y) (in_either qs ps p (one p lawful (in_one q p x))))
        (in_either ps (q ∷ []) p h)

    less : AreCovered qs (ps ++ q ∷ []) → IsCovered (qs ++ ps) q
    less all p lawful h = in_front qs ps p (all p lawful (in_rest ps (q ∷ []) p (or_left (contains q p) (some_contains [] p) h)))

-- where they aren't, no more are
pub not_covered : (qs ps : List PlainPattern) (q : PlainPattern) → AreCovered qs (ps ++ q ∷ []) → AreCovered qs ps
not_covered qs ps q all p lawful h = all p lawful (in_front ps (q ∷ []) p h)

-- ---- statements one after another

-- the patterns of one statement more
pub before_more : (ss : List PlainStatement) (k : ℕ) (s : PlainStatement) → slice_get ss k ≡ Some s → patterns_before ss (k + 1) ≡ patterns_before ss k ++ s.patterns
before_more ss k s at =
    let within = slice_get_within ss k s at in
    let item : get_or ss k s ≡ s = get_or_from_slice_get ss k s s at in
    ap (flat_map (λ (x : PlainStatement). x.patterns)) (take_more ss k s within ∙ ap (λ x. take k ss ++ x ∷ []) item)
    ∙ flat_map-append (λ (x : PlainStatement). x.patterns) (take k ss) (s ∷ [])
    ∙ ap (λ (ps : List PlainPattern). patterns_before ss k ++ ps) (append-nil s.patterns)

covered_at : (ss : List PlainStatement) (k : ℕ) (s : PlainStatement) → slice_get ss k ≡ Some s → AreCovered (patterns_before ss k) s.patterns ↔ IsCoveredAt ss k
covered_at ss k s at = (
  λ h t there. subst (λ (x : PlainStatement). AreCovered (patterns_before ss k) x.patterns) (same_Some s t (sym at ∙ there)) h,
  λ h. h s at,
)

-- so many statements are marked
pub record AreMarkedTo (ss : List PlainStatement) (k : ℕ) (marks : List Bool) : Type 0 where
  pub size : length marks ≡ k
  pub each : (j : ℕ) → j < k → IsTrue (slice_index_or marks j false) ↔ IsCoveredAt ss j

pub marked_more : (ss : List PlainStatement) (k : ℕ) (s : PlainStatement) (old new : List Bool) (mark : Bool) → slice_get ss k ≡ Some s → (IsTrue mark ↔ AreCovered (patterns_before ss k) s.patterns)
    → new ≡ old ++ mark ∷ [] → AreMarkedTo ss k old → AreMarkedTo ss (k + 1) new
marked_more ss k s old new mark at tells after before = record {
  size = ap length after ∙ length_push old mark ∙ ap (λ n. n + 1) before.size;
  each = λ j within. elim (cases_lt j k) [
    | inl less ↦
        let same : slice_index_or new j false ≡ slice_index_or old j false = ap (λ (xs : List Bool). slice_index_or xs j false) after
        ∙ get_or_append_left old (mark ∷ []) false j (omega (arith, less, before.size)) in
        let told = before.each j less in
        (λ h. told.0 (sym same ∙ h), λ h. same ∙ told.1 h)
    | inr past ↦
        let last : k ≡ j = omega (arith, within, past) in
        let same : slice_index_or new j false ≡ mark = ap (λ (xs : List Bool). slice_index_or xs j false) after ∙ get_or_push old mark false j (before.size ∙ last) in
        let means = subst (λ n. AreCovered (patterns_before ss k) s.patterns ↔ IsCoveredAt ss n) last (covered_at ss k s at) in
        (λ h. means.0 (tells.0 (sym same ∙ h)), λ h. same ∙ tells.1 (means.1 h))
  ];
}
