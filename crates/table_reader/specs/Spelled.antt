-- The routes that bytes spell.
use Rattle.std.specs.Prelude.{ℕ, List, Option, Result}
use Rattle.json_values.specs.Json.{json_of}
use Rattle.net_base.specs.Network.{PlainNet}
use Rattle.net_base.specs.Steps.{◌>>=◌, or_fault}
use Rattle.config_base.specs.declared.route.Route.{Route}
use Rattle.table_reader.specs.declared.fault.TablesFault.{TablesFault}
use Rattle.table_reader.specs.declared.fault.TablesFault.TheVariants.{NotJson}
use Rattle.table_reader.specs.Rules.{judged}
use Rattle.table_reader.specs.Shape.{shape_of}

-- The bytes are a JSON value, the value has the shape of tables, and the tables keep the rules of the network; else the least rule that
-- is broken.
unfoldable pub spelled : PlainNet → List ℕ → Result (List (Option Route)) TablesFault
spelled net bytes = do
  value ← or_fault NotJson (json_of bytes)
  said ← shape_of value
  judged net said
