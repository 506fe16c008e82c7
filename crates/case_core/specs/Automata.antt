-- The automaton of a statement.
use Rattle.std.specs.Prelude.{◌≡◌, ◌≤◌, ℕ, Some, length, slice_get}
use Rattle.net_base.specs.Network.{PlainNet}
use Rattle.net_base.specs.NetSets.{locations}
use Rattle.policy_base.specs.declared.limits.TheConstants.{ALTERNATIVES}
use Rattle.policy_base.specs.Meaning.{alternative_count}
use Rattle.policy_base.specs.Policies.{PlainPolicy, PlainStatement, statement_at}
use Rattle.path_exprs.specs.Forward.{expressions}
use Rattle.path_automata.specs.declared.states.Automata.{Automata}
use Rattle.path_automata.specs.States.{Begins}
use Rattle.case_core.specs.declared.automata.StatementAutomata.{StatementAutomata}
use Rattle.case_core.specs.declared.kept.KeptAutomata.{KeptAutomata}

-- it begins with the expressions of the statement's alternatives, which are no more than there may be
pub record IsAutomatonOf (net : PlainNet) (s : PlainStatement) (a : Automata) : Type 0 where
  pub few : alternative_count s.ranked ≤ ALTERNATIVES
  pub begins : Begins a (locations net) (expressions net s.ranked)

-- it is that of the statement with its number
abbrev pub FitsNumber : PlainNet → PlainPolicy → StatementAutomata → Type 0
FitsNumber net policy kept = (s : PlainStatement) → statement_at policy kept.statement ≡ Some s → IsAutomatonOf net s kept.automata

-- it is that of this statement, if it has its number
abbrev pub FitsStatement : PlainNet → ℕ → PlainStatement → StatementAutomata → Type 0
FitsStatement net number s kept = kept.statement ≡ number → IsAutomatonOf net s kept.automata

-- There is a place for each statement of the policy, and an automaton, wherever it stands, is that of the statement with its number.
pub record AllFit (net : PlainNet) (policy : PlainPolicy) (kept : KeptAutomata) : Type 0 where
  pub size : length kept.of.items ≡ length policy.statements
  pub fits : (k : ℕ) (a : StatementAutomata) → slice_get kept.of.items k ≡ Some (Some a) → FitsNumber net policy a
