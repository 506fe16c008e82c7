-- A statement is covered where its prefixes are in patterns of earlier ones.
use Rattle.std.proofs.Common.{◌≡◌, ℕ, zero, suc, ◌+◌, ◌<◌, ◌≤◌, true, false, List, [], ◌∷◌, take, Some, sym, ap, ◌∙◌, inl, inr, arith}
use Rattle.std.specs.Prelude.{◌↔◌, if◌then◌else◌}
use Rattle.std.specs.List.{flat_map}
use Rattle.std.proofs.lemmas.Bool.{cases_Bool, false≢true}
use Rattle.std.proofs.lemmas.Option.{none-some, same_Some}
use Rattle.net_base.specs.Prefixes.{PlainPrefix, PlainPattern}
use Rattle.policy_base.specs.Governing.{governing_from, some_contains}
use Rattle.policy_base.specs.Policies.{PlainPolicy, PlainStatement}
use Rattle.lint_cover.specs.Statements.{IsCoveredAt}
use Rattle.lint_cover.proofs.Covering.{in_either, in_front, in_rest}
use Rattle.policy_lint.specs.Findings.{IsCoveredStatement}

abbrev patterns_of : PlainStatement → List PlainPattern
patterns_of s = s.patterns

-- the patterns of the first k statements
abbrev first_patterns : List PlainStatement → ℕ → List PlainPattern
first_patterns ss k = flat_map patterns_of (take k ss)

-- the first statement governs what it contains, and the others the rest
here : (s : PlainStatement) (ss : List PlainStatement) (p : PlainPrefix) (m : ℕ) → some_contains s.patterns p ≡ true → governing_from (s ∷ ss) p m ≡ Some m
here s ss p m is = ap (λ b. if b then Some m else governing_from ss p (m + 1)) is

later : (s : PlainStatement) (ss : List PlainStatement) (p : PlainPrefix) (m : ℕ) → some_contains s.patterns p ≡ false → governing_from (s ∷ ss) p m ≡ governing_from ss p (m + 1)
later s ss p m is = ap (λ b. if b then Some m else governing_from ss p (m + 1)) is

-- what is in a pattern of one of the first k statements is governed by one of them
governed : (ss : List PlainStatement) (p : PlainPrefix) (k m : ℕ) → some_contains (first_patterns ss k) p ≡ true → (j : ℕ) × (j < m + k) × (governing_from ss p m ≡ Some j)
governed [] p zero m h = absurd (false≢true h)
governed [] p (suc k) m h = absurd (false≢true h)
governed (s ∷ ss) p zero m h = absurd (false≢true h)
governed (s ∷ ss) p (suc k) m h = elim (cases_Bool (some_contains s.patterns p)) [
  | inl met ↦ (m, omega arith, here s ss p m met)
  | inr missed ↦ elim (in_either s.patterns (first_patterns ss k) p h) [
    | inl met ↦ absurd (false≢true (sym missed ∙ met))
    | inr rest ↦ let found = governed ss p k (m + 1) rest in (found.0, omega (arith, found.1), later s ss p m missed ∙ found.2)
  ]
]

-- statements are counted from the first number on
from_first : (ss : List PlainStatement) (p : PlainPrefix) (m j : ℕ) → governing_from ss p m ≡ Some j → m ≤ j
from_first [] p m j h = absurd (none-some j h)
from_first (s ∷ ss) p m j h = elim (cases_Bool (some_contains s.patterns p)) [
  | inl met ↦ let same = same_Some m j (sym (here s ss p m met) ∙ h) in omega (arith, same)
  | inr missed ↦ let more = from_first ss p (m + 1) j (sym (later s ss p m missed) ∙ h) in omega (arith, more)
]

-- what one of the first k statements governs is in a pattern of one of them
in_patterns : (ss : List PlainStatement) (p : PlainPrefix) (k m j : ℕ) → governing_from ss p m ≡ Some j → j < m + k → some_contains (first_patterns ss k) p ≡ true
in_patterns [] p k m j h below = absurd (none-some j h)
in_patterns (s ∷ ss) p zero m j h below = let least = from_first (s ∷ ss) p m j h in absurd (omega (arith, least, below))
in_patterns (s ∷ ss) p (suc k) m j h below = elim (cases_Bool (some_contains s.patterns p)) [
  | inl met ↦ in_front s.patterns (first_patterns ss k) p met
  | inr missed ↦ in_rest s.patterns (first_patterns ss k) p (in_patterns ss p k (m + 1) j (sym (later s ss p m missed) ∙ h) (omega (arith, below)))
]

pub covered_tells : (policy : PlainPolicy) (k : ℕ) → IsCoveredAt policy.statements k ↔ IsCoveredStatement policy (suc k)
covered_tells policy k = (
  λ covered s p at lawful h.
      let found = governed policy.statements p k 1 (covered s at p lawful h) in
      (found.0, omega (arith, found.1), found.2),
  λ covered s at p lawful h.
      let found = covered s p at lawful h in
      in_patterns policy.statements p k 1 found.0 found.2 (omega (arith, found.1)),
)
