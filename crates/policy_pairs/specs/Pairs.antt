-- The pairs of cases that prefixes have in two policies, and which prefixes have each.
use Rattle.std.specs.Prelude.{◌≡◌, ◌≢◌, ◌⊎◌, ℕ, ◌<◌, Bool, false, IsTrue, List, ◌++◌, filter, is_none, map, min, nat_le, slice_get, Option, Some, None, if◌then◌else◌}
use Rattle.list_law.specs.Members.{IsIn}
use Rattle.net_base.specs.Network.{PlainNet}
use Rattle.net_base.specs.Prefixes.{PlainPattern, PlainPrefix, IsPrefix, only}
use Rattle.policy_base.specs.declared.policy.Origin.{Origin}
use Rattle.policy_base.specs.Policies.{PlainPolicy}
use Rattle.policy_base.specs.Governing.{originated_at}
use Rattle.first_patterns.specs.declared.firsts.Stated.{Stated}
use Rattle.first_patterns.specs.Firsts.{first_pattern}
use Rattle.least_prefixes.specs.Classes.{AreLeast}
use Rattle.compare_base.specs.declared.cases.CasePair.{CasePair}
use Rattle.compare_base.specs.declared.pairs.CommonPattern.{CommonPattern}
use Rattle.compare_base.specs.declared.pairs.Pair.{Pair}
use Rattle.compare_base.specs.declared.pairs.PairPrefixes.{PairPrefixes}
use Rattle.compare_base.specs.declared.pairs.PairPrefixes.TheVariants.{Originated, Others}
use Rattle.compare_base.specs.Cases.{is_originated, pair_for, says_something}
use Rattle.compare_base.specs.Order.{IsLess}
use Rattle.compare_base.specs.Same.{same_cases}

-- ---- prefixes

-- the prefix has these cases
abbrev pub has_cases : PlainPolicy → PlainPolicy → CasePair → PlainPrefix → Bool
has_cases old new cases p = same_cases (pair_for old new p) cases

abbrev pub prefixes_of : List Origin → List PlainPrefix
prefixes_of items = map (λ (o : Origin). o.prefix) items

-- the prefixes that one of the policies originates: those of the old one in order of its text, then those of the new one alone
abbrev pub originated_prefixes : PlainPolicy → PlainPolicy → List PlainPrefix
originated_prefixes old new = prefixes_of old.origins ++ filter (λ p. is_none (originated_at old.origins p)) (prefixes_of new.origins)

-- ---- patterns

-- the pattern with the longer base and the lesser upper length: what two patterns both contain, where they have a prefix in common
abbrev pub common : PlainPattern → PlainPattern → PlainPattern
common a b = record { base = if nat_le a.base.len b.base.len then b.base else a.base; upto = min a.upto b.upto }

-- what the first patterns of a prefix both contain; the prefix alone, where it has none
abbrev pub common_of : PlainPrefix → Option Stated → Option Stated → PlainPattern
common_of p (Some a) (Some b) = common a.pattern b.pattern
common_of p (Some a) None = a.pattern
common_of p None (Some b) = b.pattern
common_of p None None = only p

-- what the first patterns of a prefix both contain, with the prefix
abbrev pub common_pattern : PlainPolicy → PlainPolicy → PlainPrefix → CommonPattern
common_pattern old new p = record { pattern = common_of p (first_pattern old p) (first_pattern new p); least = p }

-- ---- pairs

-- The prefixes of a pair are told: all of them in order, where they are originated. Else the least prefix of each two first patterns, in
-- order, with what these both contain.
abbrev pub ArePrefixes : PlainPolicy → PlainPolicy → CasePair → PairPrefixes → Type 0
ArePrefixes old new cases (Originated ps) = IsTrue (is_originated cases) × (ps ≡ filter (has_cases old new cases) (originated_prefixes old new))
ArePrefixes old new cases (Others patterns) =
    (is_originated cases ≡ false)
    × ((least : List PlainPrefix) × AreLeast old new least × (patterns ≡ map (common_pattern old new) (filter (has_cases old new cases) least)))

-- Some prefix has these cases, something is said of it, and the prefixes are told.
pub record IsPair (net : PlainNet) (old new : PlainPolicy) (pair : Pair) : Type 0 where
  pub has : (p : PlainPrefix) × IsPrefix p × (pair_for old new p ≡ pair.cases)
  pub said : IsTrue (says_something net pair.cases)
  pub told : ArePrefixes old new pair.cases pair.prefixes

-- by statement in the old policy, and then in the new one, none last
abbrev pub ComesByStatement : CasePair → CasePair → Type 0
ComesByStatement a b = IsLess a.old.statement b.old.statement ⊎ ((a.old.statement ≡ b.old.statement) × IsLess a.new.statement b.new.statement)

-- the first of some prefixes stands in a list before the first of others
pub record ComesByPrefix (all ps qs : List PlainPrefix) : Type 0 where
  pub one : PlainPrefix
  pub other : PlainPrefix
  pub is_first : slice_get ps 0 ≡ Some one
  pub is_other_first : slice_get qs 0 ≡ Some other
  pub places : (m n : ℕ) × (m < n) × (slice_get all m ≡ Some one) × (slice_get all n ≡ Some other)

-- originated prefixes by the first of them, then the others by their statements
abbrev pub ComesBefore : PlainPolicy → PlainPolicy → Pair → PairPrefixes → Pair → PairPrefixes → Type 0
ComesBefore old new a (Originated ps) b (Originated qs) = ComesByPrefix (originated_prefixes old new) ps qs
ComesBefore old new a (Originated ps) b (Others patterns) = Unit {0}
ComesBefore old new a (Others patterns) b (Originated qs) = ⊥
ComesBefore old new a (Others patterns) b (Others later) = ComesByStatement a.cases b.cases

-- All pairs of cases that prefixes of which something is said have, each once, in order.
pub record ArePairs (net : PlainNet) (old new : PlainPolicy) (pairs : List Pair) : Type 0 where
  pub each : (pair : Pair) → IsIn pairs pair → IsPair net old new pair
  pub all : (p : PlainPrefix) → IsPrefix p → IsTrue (says_something net (pair_for old new p)) → (pair : Pair) × IsIn pairs pair × (pair.cases ≡ pair_for old new p)
  pub apart : (i j : ℕ) (a b : Pair) → i < j → slice_get pairs i ≡ Some a → slice_get pairs j ≡ Some b → a.cases ≢ b.cases
  pub order : (i j : ℕ) (a b : Pair) → i < j → slice_get pairs i ≡ Some a → slice_get pairs j ≡ Some b → ComesBefore old new a a.prefixes b b.prefixes
