-- Limits on items are limits on the policy.
use Rattle.std.proofs.Common.{◌≡◌, ℕ, ◌+◌, ◌≤◌, List, [], ◌∷◌, length, map, Bool, false, ◌||◌, refl, sym, ap, ap₂, ◌∙◌, arith, sum_by, flat_map}
use Rattle.std.specs.List.{list_any, AllByRecursion, IsDistinct}
use Rattle.std.proofs.lemmas.List.{length-map}
use Rattle.std.proofs.lemmas.List.Sums.{sum_by-cons}
use Rattle.net_base.specs.Network.{PlainNet}
use Rattle.net_base.specs.Prefixes.{PlainPrefix, same_prefix}
use Rattle.policy_base.specs.declared.policy.Origin.{Origin}
use Rattle.policy_base.specs.Policies.{PlainStatement, IsPolicy}
use Rattle.policy_tokens.specs.declared.kind.Kind.TheVariants as kind
use Rattle.policy_grammar.specs.declared.lexeme.Lexeme.{Lexeme}
use Rattle.policy_parser.proofs.Steps.{same_prefix_equiv}
use Rattle.policy_law.specs.Trees.{Written, define, originate, state}
use Rattle.policy_law.specs.Senses.{Sense, item_by_item}
use Rattle.policy_law.specs.Figures.{prefix_of, pattern_of}
use Rattle.policy_law.specs.Origins.{if_true, originates, originated_again}
use Rattle.policy_law.specs.Values.{ranking, sources, statement, origins, policy}
use Rattle.policy_law.specs.Limits.{amount, pairs, many_calls, long_paths, limits_passed}
use Rattle.policy_law.proofs.Binds.{both_nil}
use Rattle.policy_law.proofs.NothingBroken.{many_none}

module _ (net : PlainNet) (bytes : List ℕ) (sense : Sense) where
  abbrev stated : List Written → List PlainStatement
  stated xs = flat_map (statement net bytes sense) xs

  statements_are : (xs : List Written) → sum_by (amount kind.Statements) xs ≡ length (stated xs)
  statements_are [] = refl
  statements_are (define group members ∷ xs) = omega (arith, sum_by-cons (amount kind.Statements) (define group members) xs, statements_are xs)
  statements_are (originate prefix names ∷ xs) = omega (arith, sum_by-cons (amount kind.Statements) (originate prefix names) xs, statements_are xs)
  statements_are (state patterns e from ∷ xs) = omega (arith, sum_by-cons (amount kind.Statements) (state patterns e from) xs, statements_are xs)

  prefixes_are : (xs : List Written) → sum_by (amount kind.Prefixes) xs ≡ length (origins bytes sense xs)
  prefixes_are [] = refl
  prefixes_are (define group members ∷ xs) = omega (arith, sum_by-cons (amount kind.Prefixes) (define group members) xs, prefixes_are xs)
  prefixes_are (originate prefix names ∷ xs) = omega (arith, sum_by-cons (amount kind.Prefixes) (originate prefix names) xs, prefixes_are xs)
  prefixes_are (state patterns e from ∷ xs) = omega (arith, sum_by-cons (amount kind.Prefixes) (state patterns e from) xs, prefixes_are xs)

  abbrev patterns_in : PlainStatement → ℕ
  patterns_in s = length s.patterns

  patterns_are : (xs : List Written) → sum_by (amount kind.Patterns) xs ≡ sum_by patterns_in (stated xs)
  patterns_are [] = refl
  patterns_are (define group members ∷ xs) = omega (arith, sum_by-cons (amount kind.Patterns) (define group members) xs, patterns_are xs)
  patterns_are (originate prefix names ∷ xs) = omega (arith, sum_by-cons (amount kind.Patterns) (originate prefix names) xs, patterns_are xs)
  patterns_are (state patterns e from ∷ xs) =
      sum_by-cons (amount kind.Patterns) (state patterns e from) xs
      ∙ ap₂ (λ (m n : ℕ). m + n) (sym (length-map patterns (pattern_of bytes))) (patterns_are xs)
      ∙ sym (sum_by-cons patterns_in (record { patterns = map (pattern_of bytes) patterns; ranked = ranking net sense e; from = sources sense from }) (stated xs))

  -- the items are groups, statements and origins
  groups_are : (xs : List Written) → sum_by (amount kind.Definitions) xs + length (stated xs) + length (origins bytes sense xs) ≡ length xs
  groups_are [] = refl
  groups_are (define group members ∷ xs) = omega (arith, sum_by-cons (amount kind.Definitions) (define group members) xs, groups_are xs)
  groups_are (originate prefix names ∷ xs) = omega (arith, sum_by-cons (amount kind.Definitions) (originate prefix names) xs, groups_are xs)
  groups_are (state patterns e from ∷ xs) = omega (arith, sum_by-cons (amount kind.Definitions) (state patterns e from) xs, groups_are xs)

  -- no limit is passed where the policy is within its own, and there are not too many groups
  pub no_limit_passed : (xs : List Written) → IsPolicy (policy net bytes sense xs) → length xs ≤ 256 + length (stated xs) + length (origins bytes sense xs)
      → flat_map many_calls xs ≡ [] → flat_map long_paths xs ≡ [] → limits_passed (origins bytes sense xs) xs ≡ []
  no_limit_passed xs rules groups calls places =
      both_nil _ _ (both_nil _ _ (both_nil _ _ (both_nil _ _ (both_nil _ _ (both_nil _ _
      (many_none kind.Definitions 256 (sum_by (amount kind.Definitions) xs) (omega (arith, groups, groups_are xs)))
      (many_none kind.Statements 256 (sum_by (amount kind.Statements) xs) (omega (arith, rules.statements, statements_are xs))))
      (many_none kind.Patterns 16384 (sum_by (amount kind.Patterns) xs) (omega (arith, rules.patterns, patterns_are xs))))
      (many_none kind.Prefixes 4096 (sum_by (amount kind.Prefixes) xs) (omega (arith, rules.prefixes, prefixes_are xs))))
      (many_none kind.Origins 16384 (pairs (origins bytes sense xs)) rules.pairs))
      calls) places

  pub groups_are_few : (xs : List Written) → sum_by (amount kind.Definitions) xs ≤ 256 → length xs ≤ 256 + length (stated xs) + length (origins bytes sense xs)
  groups_are_few xs few = omega (arith, few, groups_are xs)

  -- ---- no prefix twice

  abbrev prefixes : List Written → List PlainPrefix
  prefixes xs = map (λ (o : Origin). o.prefix) (origins bytes sense xs)

  -- none of these is among the items above, nor is it the one before them
  with_this : (above' : List Written) (p : Lexeme) (names : List Lexeme) (ps : List PlainPrefix)
      → AllByRecursion (λ q. same_prefix (prefix_of bytes p) q ≡ false) ps → AllByRecursion (λ q. list_any (originates bytes q) above' ≡ false) ps
      → AllByRecursion (λ q. list_any (originates bytes q) (originate p names ∷ above') ≡ false) ps
  with_this above' p names [] apart none = tt
  with_this above' p names (q ∷ qs) apart none =
      (ap₂ (λ (a b : Bool). a || b) (same_prefix_equiv.symm q (prefix_of bytes p) ∙ apart.0) none.0, with_this above' p names qs apart.1 none.1)

  pub none_again : (above' xs : List Written) → IsDistinct same_prefix (prefixes xs)
      → AllByRecursion (λ q. list_any (originates bytes q) above' ≡ false) (prefixes xs) → item_by_item (originated_again bytes) above' xs ≡ []
  unfolding IsDistinct
  none_again above' [] apart none = refl
  none_again above' (define group members ∷ xs) apart none = none_again (define group members ∷ above') xs apart none
  none_again above' (originate p names ∷ xs) apart none =
      both_nil _ _ (ap (if_true p.place) none.0) (none_again (originate p names ∷ above') xs apart.1 (with_this above' p names (prefixes xs) apart.0 none.1))
  none_again above' (state patterns e from ∷ xs) apart none = none_again (state patterns e from ∷ above') xs apart none

  pub nothing_above : (ps : List PlainPrefix) → AllByRecursion (λ q. list_any (originates bytes q) [] ≡ false) ps
  nothing_above [] = tt
  nothing_above (p ∷ ps) = (refl, nothing_above ps)
