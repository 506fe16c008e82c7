-- What a cut leaves of a graph.
use Rattle.std.specs.Prelude.{ℕ, not, filter}
use Rattle.graph_base.specs.Graphs.{PlainGraph}
use Rattle.graph_base.specs.Runs.{place_of}
use Rattle.impact_law.specs.Cuts.{is_cut}
use Rattle.impact_law.specs.declared.impact.Cut.{Cut}
use Rattle.whatif_report.specs.Shifting.{over_link}

-- the starts at locations that aren't cut, and the steps that aren't over the cut
abbrev pub without_cut : Cut → PlainGraph → PlainGraph
without_cut cut g =
    record { nodes = g.nodes; starts = filter (λ n. not (is_cut cut (place_of g n))) g.starts; steps = filter (λ (e : ℕ × ℕ). not (over_link cut (place_of g e.0) (place_of g e.1))) g.steps }
