-- What the search for a total relation finds.
use Rattle.std.specs.Prelude.{◌≡◌, ⊤}
use Rattle.graph_base.specs.Graphs.{PlainGraph}
use Rattle.net_base.specs.declared.loc.LocSet.{LocSet}
use Rattle.state_simulation.specs.declared.first.FirstRound.{FirstRound}
use Rattle.state_simulation.specs.declared.simulation.Search.{Search}
use Rattle.state_simulation.specs.declared.simulation.Search.TheVariants.{Total, Partial}
use Rattle.state_simulation.specs.Held.{PlainRelation}
use Rattle.state_simulation.specs.Stages.{AreFirst}

-- the first round of this graph for this claimed set
pub record IsFirstRound (g : PlainGraph) (claimed : LocSet) (first : FirstRound) : Type 0 where
  pub graph : first.maps.graph.now ≡ g
  pub rounds : AreFirst g claimed first.rounds

-- where a relation is found, this is said of it
abbrev pub IfTotal : Search → (PlainRelation → Type 0) → Type 0
IfTotal (Total relation) P = P relation
IfTotal (Partial first) P = ⊤

-- where none is found, this is said of the first round
abbrev pub IfPartial : Search → (FirstRound → Type 0) → Type 0
IfPartial (Total relation) P = ⊤
IfPartial (Partial first) P = P first
