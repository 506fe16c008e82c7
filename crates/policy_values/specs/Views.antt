-- What the program's expressions stand for.
use Rattle.std.specs.Prelude.{List, map, reverse}
use Rattle.policy_base.specs.declared.ranked.Ranked.{Ranked}
use Rattle.policy_base.specs.Policies.{Ranking, ranking_of}

-- the expressions of a stack, whose top is the last item
abbrev pub rankings : List Ranked → List Ranking
rankings rs = reverse (map ranking_of rs)
