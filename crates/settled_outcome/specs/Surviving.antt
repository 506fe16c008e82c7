-- What failures leave of a graph.
use Rattle.std.specs.Prelude.{ℕ, Bool, not, ◌&&◌, filter}
use Rattle.net_base.specs.declared.loc.LocSet.{LocSet}
use Rattle.net_base.specs.Network.{PlainNet, is_router}
use Rattle.net_base.specs.Sets.{holds}
use Rattle.outcome_base.specs.Outcomes.{Failures, is_dead}
use Rattle.graph_base.specs.Graphs.{PlainGraph}
use Rattle.graph_base.specs.Runs.{place_of}
use Rattle.scenarios.specs.Surviving.{carries, carries_by}
use Rattle.scenarios.specs.declared.survivors.Survivors.{Survivors}

-- a node stands at a live location
abbrev pub lives_by : Survivors → PlainGraph → ℕ → Bool
lives_by s g n = not (holds s.dead (place_of g n))

-- what is announced comes over a step
abbrev pub steps_by : PlainNet → Survivors → PlainGraph → ℕ × ℕ → Bool
steps_by net s g e = carries_by net s (place_of g e.0) (place_of g e.1)

-- the part of a graph that is left: the starts at live locations, and the steps over which what is announced comes
abbrev pub left_by : PlainNet → Survivors → PlainGraph → PlainGraph
left_by net s g = record { nodes = g.nodes; starts = filter (lives_by s g) g.starts; steps = filter (steps_by net s g) g.steps }

-- a live router that isn't among the origins
abbrev pub chooses_by : PlainNet → Survivors → LocSet → ℕ → Bool
chooses_by net s origins l = is_router net l && (not (holds s.dead l) && not (holds origins l))

-- ---- by the failures

-- the part of a graph that failures leave
abbrev pub left_under : PlainNet → Failures → PlainGraph → PlainGraph
left_under net f g =
    record { nodes = g.nodes; starts = filter (λ n. not (is_dead f (place_of g n))) g.starts; steps = filter (λ e. carries net f (place_of g e.0) (place_of g e.1)) g.steps }
