-- That what is read as a topology means its network by the grammar.
use Rattle.std.specs.Prelude.{ℕ, List}
use Rattle.net_base.specs.Network.{PlainNet}
use Rattle.topology.specs.Meaning.{IsTopologyOf}
use Rattle.topology_law.specs.TopologyText.{MeansNet}

abbrev pub ReadTopologiesAreMeant : Type 0
ReadTopologiesAreMeant = (bytes : List ℕ) (net : PlainNet) → IsTopologyOf bytes net → MeansNet bytes net
