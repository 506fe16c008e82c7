-- The failures of a scenario.
use Rattle.std.specs.Prelude.{ℕ, ◌*◌, List, length}
use Rattle.std.specs.List.{filter, range_with_len}
use Rattle.net_base.specs.declared.loc.LocSet.{LocSet}
use Rattle.net_base.specs.Sets.{holds}
use Rattle.outcome_base.specs.Outcomes.{Failures}
use Rattle.scenarios.specs.declared.scenario.Scenario.{Scenario}

-- the locations of a set, in order, of which each word holds 64
unfoldable pub members : LocSet → List ℕ
members s = filter (holds s) (range_with_len 0 (64 * length s.words))

-- what is dead and silent in a scenario
abbrev pub failures_of : Scenario → Failures
failures_of s = record { dead = members s.dead; dead_links = s.dead_links; silent = s.silent }
