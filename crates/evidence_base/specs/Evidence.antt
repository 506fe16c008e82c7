-- What the evidence of a case keeps.
use Rattle.std.specs.Prelude.{◌≡◌, ◌≢◌, ◌<◌, ◌≤◌, length, Some}
use Rattle.std.specs.List.{AllByRecursion}
use Rattle.graph_base.specs.declared.graph.Node.{Node}
use Rattle.evidence_base.specs.Made.{PlainCaseEvidence}
use Rattle.net_base.specs.declared.limits.TheConstants.{LOCATIONS}

-- a number and a tag for each node, a statement's number, and nodes at lawful places with lawful ranks
pub record IsCaseEvidence (c : PlainCaseEvidence) : Type 0 where
  pub sized : length c.numbers ≡ length c.graph.nodes
  pub tagged : length c.tags ≡ length c.graph.nodes
  pub stated : 1 ≤ c.case.statement
  pub places : AllByRecursion (λ (n : Node). n.loc < LOCATIONS) c.graph.nodes
  pub ranks : AllByRecursion (λ (n : Node). n.rank ≢ Some 0) c.graph.nodes
