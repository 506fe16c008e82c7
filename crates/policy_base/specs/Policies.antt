-- Policies without where they lie in memory.
use Rattle.std.specs.Prelude.{ℕ, ◌≤◌, IsTrue, List, length, map, sum_by, zero, suc, Option, None, slice_get}
use Rattle.std.specs.List.{IsDistinct}
use Rattle.list_law.specs.Members.{IsIn}
use Rattle.policy_base.specs.declared.limits.TheConstants.{STATEMENTS, PATTERNS, PREFIXES, ORIGINS}
use Rattle.net_base.specs.Network.{PlainNet, is_router}
use Rattle.net_base.specs.Prefixes.{PlainPattern, IsPattern, IsPrefix, same_prefix}
use Rattle.net_base.specs.SetOperations.{size_of}
use Rattle.net_base.specs.Sets.{holds}
use Rattle.policy_base.specs.declared.call.Call.{Call}
use Rattle.policy_base.specs.declared.call.Call.TheVariants.{Of}
use Rattle.policy_base.specs.declared.ranked.Ranked.{Ranked}
use Rattle.policy_base.specs.declared.ranked.Ranked.TheOpen.{Ranked-F}
use Rattle.policy_base.specs.declared.ranked.Ranked.TheFolds.{fold-Ranked}
use Rattle.policy_base.specs.declared.policy.FromSet.{FromSet}
use Rattle.policy_base.specs.declared.policy.Statement.{Statement}
use Rattle.policy_base.specs.declared.policy.Origin.{Origin}

-- A ranked expression: a call, a call with ranked sets, `a >> b`, `a or b`, `a and b`, `not a`.
pub data Ranking : Type 0 where
  call : Call → Ranking
  calls : List Call → Ranking
  prefer : Ranking → Ranking → Ranking
  either : Ranking → Ranking → Ranking
  both : Ranking → Ranking → Ranking
  negated : Ranking → Ranking

-- one level of a value, with the expression of each side in its place
abbrev pub ranking_step : Ranked-F Ranking → Ranking
ranking_step (Ranked-F.Call c) = call c
ranking_step (Ranked-F.Calls c sets) = calls (map (Of c) sets)
ranking_step (Ranked-F.Prefer a b) = prefer a.value b.value
ranking_step (Ranked-F.Or a b) = either a.value b.value
ranking_step (Ranked-F.And a b) = both a.value b.value
ranking_step (Ranked-F.Not a) = negated a.value

-- the expression that a value of the program stands for
abbrev pub ranking_of : Ranked → Ranking
ranking_of = fold-Ranked Ranking ranking_step

pub record PlainStatement : Type 0 where
  pub patterns : List PlainPattern
  pub ranked : Ranking
  pub from : FromSet

abbrev pub plain_statement : Statement → PlainStatement
plain_statement s = record { patterns = s.patterns; ranked = ranking_of s.ranked; from = s.from }

pub record PlainPolicy : Type 0 where
  pub origins : List Origin
  pub statements : List PlainStatement

-- a policy of the program, as its lists
pub record PolicyLists : Type 0 where
  pub origins : List Origin
  pub statements : List Statement

-- the policy that a policy of the program stands for
abbrev pub policy_of : PolicyLists → PlainPolicy
policy_of lists = record { origins = lists.origins; statements = map plain_statement lists.statements }

-- What every policy keeps: the limits, and that no prefix is originated twice.
pub record IsPolicy (policy : PlainPolicy) : Type 0 where
  pub statements : length policy.statements ≤ STATEMENTS
  pub patterns : sum_by (λ (s : PlainStatement). length s.patterns) policy.statements ≤ PATTERNS
  pub prefixes : length policy.origins ≤ PREFIXES
  pub pairs : sum_by (λ (o : Origin). size_of o.at) policy.origins ≤ ORIGINS
  pub once : IsDistinct same_prefix (map (λ (o : Origin). o.prefix) policy.origins)

-- What a policy is for a network: within the limits, over prefixes and patterns, with routers alone as origins.
pub record IsPolicyOf (net : PlainNet) (policy : PlainPolicy) : Type 0 where
  pub rules : IsPolicy policy
  pub prefixes : (o : Origin) → IsIn policy.origins o → IsPrefix o.prefix
  pub routers : (o : Origin) (l : ℕ) → IsIn policy.origins o → IsTrue (holds o.at l) → IsTrue (is_router net l)
  pub patterns : (s : PlainStatement) (t : PlainPattern) → IsIn policy.statements s → IsIn s.patterns t → IsPattern t

-- the statement with a number, from 1
abbrev pub statement_at : PlainPolicy → ℕ → Option PlainStatement
statement_at policy zero = None
statement_at policy (suc k) = slice_get policy.statements k
