-- The limits on one case.
use Rattle.std.specs.Prelude.{◌≡◌, ℕ, ◌-◌, ◌≤◌, List, [], ◌∷◌, Some}
use Rattle.policy_base.specs.declared.limits.TheConstants.{ALTERNATIVES}
use Rattle.net_base.specs.Network.{PlainNet}
use Rattle.policy_base.specs.declared.case.Case.{Case}
use Rattle.policy_base.specs.Meaning.{alternative_count}
use Rattle.policy_base.specs.Policies.{PlainPolicy, PlainStatement, statement_at}
use Rattle.path_exprs.specs.Standings.{IsWalked, plan_for}

-- a case of a statement is within the limits, with room for so many steps, of which it takes these
pub record IsWithin (net : PlainNet) (s : PlainStatement) (c : Case) (room steps : ℕ) : Type 0 where
  pub ranks : alternative_count s.ranked ≤ ALTERNATIVES
  pub walked : IsWalked net (plan_for net s c) steps
  pub fits : steps ≤ room

-- such a case, with its own statement
abbrev pub IsWithinRoom : PlainNet → PlainPolicy → Case → ℕ → ℕ → Type 0
IsWithinRoom net policy c room steps = (s : PlainStatement) × (statement_at policy c.statement ≡ Some s) × IsWithin net s c room steps

-- these cases are within the limits one after the other, and leave so much of the room
abbrev pub AreWithinTo : PlainNet → PlainPolicy → ℕ → List Case → ℕ → Type 0
AreWithinTo net policy room [] left = left ≡ room
AreWithinTo net policy room (c ∷ cs) left = (steps : ℕ) × IsWithinRoom net policy c room steps × AreWithinTo net policy (room - steps) cs left
