use Rattle.serde_json.specs.View.{view}
use Rattle.topology.proofs.Identifiers.{shape_ids}
use Rattle.topology.proofs.read_topology.Goals as goal

pub judge-requires-clause-routers : goal.judge-requires-clause-routers
judge-requires-clause-routers c = (shape_ids (view c.in_ok-value.value) _ c.in_ok-raw.ensures).0

pub judge-requires-clause-peers : goal.judge-requires-clause-peers
judge-requires-clause-peers c = (shape_ids (view c.in_ok-value.value) _ c.in_ok-raw.ensures).1
