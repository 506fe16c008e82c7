-- The parts of a network's own space that peers are believed in.
use Rattle.std.specs.Prelude.{ℕ, ◌+◌, ◌==◌, List, [], ◌∷◌, ◌++◌, Option, Some, None, if◌then◌else◌}
use Rattle.std.specs.List.{flat_map}
use Rattle.net_base.specs.Prefixes.{PlainPrefix, PlainPattern}
use Rattle.policy_base.specs.declared.policy.Origin.{Origin}
use Rattle.policy_base.specs.Policies.{PlainPolicy, PlainStatement}
use Rattle.lint_cover.specs.Covered.{covered}
use Rattle.own_space.specs.declared.open_case.OpenCase.{OpenCase}
use Rattle.own_space.specs.declared.open_part.OpenPart.{OpenPart}
use Rattle.own_space.specs.Spaces.{originated, outer_of, part_in}

-- the number of the first of these cases that has the statement
abbrev pub number_of : List OpenCase → ℕ → Option ℕ
number_of [] k = None
number_of (c ∷ cs) k = if c.statement == k then Some c.number else number_of cs k

-- a part, unless all of its prefixes are in patterns before it
abbrev pub new_part : List PlainPattern → OpenPart → List OpenPart
new_part before part = if covered before part.pattern then [] else part ∷ []

abbrev pub part_of : List PlainPattern → ℕ → PlainPrefix → Option PlainPattern → List OpenPart
part_of before number within None = []
part_of before number within (Some part) = new_part before (record { pattern = part; within = within; number = number })

-- the part of a pattern in an originated prefix
abbrev pub origin_part : List PlainPattern → ℕ → PlainPattern → Origin → List OpenPart
origin_part before number t o = part_of before number o.prefix (part_in o.prefix t)

-- the parts of a pattern, by originated prefix
abbrev pub pattern_parts : List Origin → List PlainPattern → Option ℕ → PlainPattern → List OpenPart
pattern_parts outer before None t = []
pattern_parts outer before (Some number) t = if covered before t then [] else flat_map (origin_part before number t) outer

-- of a statement, by pattern
abbrev pub statement_parts : List Origin → List PlainPattern → Option ℕ → List PlainPattern → List OpenPart
statement_parts outer before number [] = []
statement_parts outer before number (t ∷ ts) = pattern_parts outer before number t ++ statement_parts outer (before ++ t ∷ []) number ts

-- of statements, from the one numbered k on
abbrev pub parts_from : List Origin → List OpenCase → List PlainPattern → ℕ → List PlainStatement → List OpenPart
parts_from outer cases before k [] = []
parts_from outer cases before k (s ∷ ss) = statement_parts outer before (number_of cases k) s.patterns ++ parts_from outer cases (before ++ s.patterns) (k + 1) ss

-- of a policy, where these are the cases in which some router takes what peers announce
abbrev pub open_parts : PlainPolicy → List OpenCase → List OpenPart
open_parts policy cases = parts_from (outer_of policy.origins) cases (originated policy) 1 policy.statements
