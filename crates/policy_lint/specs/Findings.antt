-- Parts of a policy that can never matter.
use Rattle.std.specs.Prelude.{◌≡◌, ◌≢◌, ℕ, ◌+◌, ◌<◌, IsTrue, List, [], ◌∷◌, ◌++◌, length, map, Some, Ok}
use Rattle.std.specs.List.{range_with_len}
use Rattle.list_law.specs.Members.{IsIn}
use Rattle.net_base.specs.Network.{PlainNet}
use Rattle.net_base.specs.Prefixes.{PlainPrefix, IsPrefix}
use Rattle.policy_base.specs.declared.case.Case.{Case}
use Rattle.policy_base.specs.Cases.{case_list}
use Rattle.policy_base.specs.Governing.{governing, some_contains}
use Rattle.policy_base.specs.Meaning.{alternative_count}
use Rattle.policy_base.specs.Policies.{PlainPolicy, PlainStatement, statement_at}
use Rattle.policy_tokens.specs.declared.token.Token.{Token}
use Rattle.policy_tokens.specs.Tokens.{tokens_of}
use Rattle.lint_ranks.specs.Reached.{IsReached}
use Rattle.policy_lint.specs.declared.finding.Finding.{Finding}
use Rattle.policy_lint.specs.declared.finding.Finding.TheVariants.{UnusedGroup, Covered, Idle, Unreached}
use Rattle.policy_lint.specs.Groups.{group_names, is_unused}
use Rattle.policy_lint.specs.Selected.{AreThose}

-- every prefix that the patterns of the statement with this number contain is governed by an earlier statement
abbrev pub IsCoveredStatement : PlainPolicy → ℕ → Type 0
IsCoveredStatement policy n = (s : PlainStatement) (p : PlainPrefix) → statement_at policy n ≡ Some s → IsPrefix p → IsTrue (some_contains s.patterns p)
    → (k : ℕ) × (k < n) × (governing policy p ≡ Some k)

-- no case has the statement
abbrev pub IsIdle : PlainNet → PlainPolicy → ℕ → Type 0
IsIdle net policy n = (c : Case) → IsIn (case_list net policy) c → c.statement ≢ n

-- what a finding says of a policy and of the tokens of its text
abbrev pub IsFinding : List ℕ → List Token → PlainNet → PlainPolicy → Finding → Type 0
IsFinding bytes tokens net policy (UnusedGroup name) = IsTrue (is_unused bytes tokens name)
IsFinding bytes tokens net policy (Covered n) = IsCoveredStatement policy n
IsFinding bytes tokens net policy (Idle n) = IsIdle net policy n
IsFinding bytes tokens net policy (Unreached n k) = ¬ IsIdle net policy n × ¬ IsReached net policy n k

-- the numbers from 1 of so many
abbrev pub numbers : ℕ → List ℕ
numbers count = range_with_len 1 count

-- the alternatives of the statements from the one numbered n on
abbrev pub alternatives_from : ℕ → List PlainStatement → List Finding
alternatives_from n [] = []
alternatives_from n (s ∷ ss) = map (Unreached n) (numbers (alternative_count s.ranked)) ++ alternatives_from (n + 1) ss

-- all that might be found, in the order in which it is told: the groups by the text, the statements by number, once for each kind, and
-- the alternatives by statement and place
abbrev pub all_parts : List ℕ → List Token → PlainPolicy → List Finding
all_parts bytes tokens policy =
    map UnusedGroup (group_names bytes tokens)
    ++ map Covered (numbers (length policy.statements))
    ++ map Idle (numbers (length policy.statements))
    ++ alternatives_from 1 policy.statements

-- The findings of a policy and its text: all that hold, in this order.
pub record AreFindings (bytes : List ℕ) (net : PlainNet) (policy : PlainPolicy) (findings : List Finding) : Type 0 where
  pub tokens : List Token
  pub cut : tokens_of bytes ≡ Ok tokens
  pub are : AreThose (IsFinding bytes tokens net policy) (all_parts bytes tokens policy) findings
