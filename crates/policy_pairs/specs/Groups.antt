-- Prefixes that are grouped by their cases.
use Rattle.std.specs.Prelude.{◌≡◌, ◌≢◌, ◌⊎◌, ℕ, ◌<◌, ◌≤◌, List, filter, map, slice_get, Option, Some, unwrap_or}
use Rattle.std.specs.List.{IsDistinct}
use Rattle.std.specs.List.Sorted.{IsPermutation}
use Rattle.indexmap.specs.IndexMap.{get}
use Rattle.list_law.specs.Members.{IsIn}
use Rattle.net_base.specs.Prefixes.{PlainPrefix, same_prefix}
use Rattle.policy_base.specs.Policies.{PlainPolicy}
use Rattle.policy_base.specs.Governing.{originated_at}
use Rattle.first_patterns.specs.Tables.{AreFirsts}
use Rattle.least_prefixes.specs.Classes.{AreLeast}
use Rattle.compare_base.specs.declared.cases.CasePair.{CasePair}
use Rattle.compare_base.specs.declared.pairs.Pair.{Pair}
use Rattle.compare_base.specs.declared.pairs.PairPrefixes.TheVariants.{Originated, Others}
use Rattle.compare_base.specs.Cases.{pair_for}
use Rattle.compare_base.specs.Same.{same_cases}
use Rattle.policy_pairs.specs.declared.asked.Told.{Told}
use Rattle.policy_pairs.specs.declared.asked.BothTold.{BothTold}
use Rattle.policy_pairs.specs.declared.groups.Group.{Group}
use Rattle.policy_pairs.specs.declared.pairs.Turn.{Turn}
use Rattle.policy_pairs.specs.Pairs.{common_pattern, has_cases, originated_prefixes}

-- what was made ready of a policy, and of two
pub record Tells (told : Told) (policy : PlainPolicy) : Type 0 where
  pub firsts : AreFirsts told.firsts policy
  pub origins : (p : PlainPrefix) → get same_prefix told.origins p ≡ originated_at policy.origins p

pub record TellBoth (both : BothTold) (old new : PlainPolicy) : Type 0 where
  pub of_old : Tells both.old old
  pub of_new : Tells both.new new

-- ---- groups

-- those of some prefixes that have the cases
abbrev pub group_for : PlainPolicy → PlainPolicy → List PlainPrefix → CasePair → Group
group_for old new ps cases = record { cases = cases; prefixes = filter (has_cases old new cases) ps }

-- the first of some prefixes that has the cases stands here
pub record IsFirstAt (old new : PlainPolicy) (ps : List PlainPrefix) (cases : CasePair) (m : ℕ) : Type 0 where
  pub prefix : PlainPrefix
  pub at : slice_get ps m ≡ Some prefix
  pub has : pair_for old new prefix ≡ cases
  pub first : (l : ℕ) (p : PlainPrefix) → l < m → slice_get ps l ≡ Some p → pair_for old new p ≢ cases

-- the cases of some prefixes, each once, in order of the first prefix of each
pub record AreKinds (old new : PlainPolicy) (ps : List PlainPrefix) (kinds : List CasePair) : Type 0 where
  pub apart : IsDistinct same_cases kinds
  pub all : (p : PlainPrefix) → IsIn ps p → IsIn kinds (pair_for old new p)
  pub each : (i : ℕ) (cases : CasePair) → slice_get kinds i ≡ Some cases → (m : ℕ) × IsFirstAt old new ps cases m
  pub order : (i j m n : ℕ) (one other : CasePair) → i < j → slice_get kinds i ≡ Some one → slice_get kinds j ≡ Some other
      → IsFirstAt old new ps one m → IsFirstAt old new ps other n → m < n

-- some prefixes by their cases, the groups in order of the first prefix of each
abbrev pub AreGroups : PlainPolicy → PlainPolicy → List PlainPrefix → List Group → Type 0
AreGroups old new ps groups = (kinds : List CasePair) × AreKinds old new ps kinds × (groups ≡ map (group_for old new ps) kinds)

-- ---- pairs of groups

abbrev pub originated_pair : Group → Pair
originated_pair g = record { cases = g.cases; prefixes = Originated g.prefixes }

abbrev pub AreOriginatedPairs : PlainPolicy → PlainPolicy → List Pair → Type 0
AreOriginatedPairs old new pairs = (groups : List Group) × AreGroups old new (originated_prefixes old new) groups × (pairs ≡ map originated_pair groups)

abbrev pub other_pair : PlainPolicy → PlainPolicy → Group → Pair
other_pair old new g = record { cases = g.cases; prefixes = Others (map (common_pattern old new) g.prefixes) }

-- by number, and none last
abbrev pub turn_of : Option ℕ → ℕ
turn_of statement = unwrap_or statement 4294967295

abbrev pub turn_for : Group → Turn
turn_for g = record { old = turn_of g.cases.old.statement; new = turn_of g.cases.new.statement }

-- the one has its turn no later than the other
abbrev pub IsNoLater : CasePair → CasePair → Type 0
IsNoLater a b =
    (turn_of a.old.statement < turn_of b.old.statement)
    ⊎ ((turn_of a.old.statement ≡ turn_of b.old.statement) × (turn_of a.new.statement ≤ turn_of b.new.statement))

abbrev pub AreInTurn : List Group → Type 0
AreInTurn groups = (i j : ℕ) (g h : Group) → i < j → slice_get groups i ≡ Some g → slice_get groups j ≡ Some h → IsNoLater g.cases h.cases

-- some prefixes by their cases, the groups in turn
pub record AreTurnedGroups (old new : PlainPolicy) (ps : List PlainPrefix) (groups : List Group) : Type 0 where
  pub found : List Group
  pub are : AreGroups old new ps found
  pub moved : IsPermutation found groups
  pub turns : AreInTurn groups

-- the prefixes that neither policy originates, by two first patterns, with their groups in turn
pub record AreOtherGroups (old new : PlainPolicy) (groups : List Group) : Type 0 where
  pub least : List PlainPrefix
  pub are_least : AreLeast old new least
  pub are : AreTurnedGroups old new least groups
