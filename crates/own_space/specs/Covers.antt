-- Statements that govern no prefix but originated ones.
use Rattle.std.specs.Prelude.{Bool, List, [], ◌∷◌, ◌++◌}
use Rattle.std.specs.List.{list_all}
use Rattle.net_base.specs.Prefixes.{PlainPattern}
use Rattle.policy_base.specs.Policies.{PlainPolicy, PlainStatement}
use Rattle.lint_cover.specs.Covered.{covered}
use Rattle.own_space.specs.Spaces.{originated}

-- for each statement whether all prefixes of its patterns are in patterns before it
abbrev pub covered_from : List PlainPattern → List PlainStatement → List Bool
covered_from before [] = []
covered_from before (s ∷ ss) = list_all (covered before) s.patterns ∷ covered_from (before ++ s.patterns) ss

-- the same where each originated prefix is before all statements
abbrev pub covered_in : PlainPolicy → List Bool
covered_in policy = covered_from (originated policy) policy.statements
