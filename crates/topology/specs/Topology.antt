-- The network that bytes spell.
use Rattle.std.specs.Prelude.{ℕ, List, Result}
use Rattle.json_values.specs.Json.{json_of}
use Rattle.net_base.specs.Network.{PlainNet}
use Rattle.net_base.specs.Steps.{◌>>=◌, or_fault}
use Rattle.topology.specs.declared.fault.TopoFault.{TopoFault}
use Rattle.topology.specs.declared.fault.TopoFault.TheVariants.{NotJson}
use Rattle.topology.specs.Rules.{judged}
use Rattle.topology.specs.Shape.{shape_of}

-- The bytes are a JSON value, the value has the shape of a topology, and the topology keeps the rules; else the
-- least rule that is broken.
unfoldable pub spelled : List ℕ → Result PlainNet TopoFault
spelled bytes = do
  value ← or_fault NotJson (json_of bytes)
  topology ← shape_of value
  judged topology
