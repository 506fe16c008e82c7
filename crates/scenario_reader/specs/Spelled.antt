-- The scenario that bytes spell.
use Rattle.std.specs.Prelude.{ℕ, List, Result}
use Rattle.json_values.specs.Json.{json_of}
use Rattle.net_base.specs.Network.{PlainNet}
use Rattle.net_base.specs.Steps.{◌>>=◌, or_fault}
use Rattle.scenarios.specs.declared.scenario.Scenario.{Scenario}
use Rattle.scenario_reader.specs.declared.fault.ScenarioFault.{ScenarioFault}
use Rattle.scenario_reader.specs.declared.fault.ScenarioFault.TheVariants.{NotJson}
use Rattle.scenario_reader.specs.Rules.{judged}
use Rattle.scenario_reader.specs.Shape.{shape_of}

-- The bytes are a JSON value, the value has the shape of a scenario, and the scenario keeps the rules of the network; else the least
-- rule that is broken.
unfoldable pub spelled : PlainNet → List ℕ → Result Scenario ScenarioFault
spelled net bytes = do
  value ← or_fault NotJson (json_of bytes)
  said ← shape_of value
  judged net said
