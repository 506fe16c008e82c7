-- That the reading of topologies meets this meaning.
use Rattle.std.specs.Prelude.{◌≡◌, ℕ, List, Ok}
use Rattle.net_base.specs.Network.{PlainNet}
use Rattle.topology.specs.Topology.{spelled}
use Rattle.topology.specs.Meaning.{IsTopologyOf}

-- the network that a text spells is the one that it means
abbrev pub SpelledNetworksAreMeant : Type 0
SpelledNetworksAreMeant = (bytes : List ℕ) (net : PlainNet) → spelled bytes ≡ Ok net → IsTopologyOf bytes net

-- a text that means a network spells it
abbrev pub MeantNetworksAreSpelled : Type 0
MeantNetworksAreSpelled = (bytes : List ℕ) (net : PlainNet) → IsTopologyOf bytes net → spelled bytes ≡ Ok net

-- a text means one network at most
abbrev pub TopologiesMeanOneNetwork : Type 0
TopologiesMeanOneNetwork = (bytes : List ℕ) (net other : PlainNet) → IsTopologyOf bytes net → IsTopologyOf bytes other → net ≡ other
