use Rattle.std.proofs.Common.{refl}
use Rattle.evidence_text.proofs.InRange.{is_graph, is_case_evidence}
use Rattle.evidence_text.proofs.judge.with_columns.Goals as goal

pub new-graph-requires : goal.new-graph-requires
new-graph-requires c = rw c.requires.nodes (is_graph c.args.read c.requires.placed c.requires.few)

pub new-requires : goal.new-requires
new-requires c = rw (c.new-graph.ensures, c.requires.nodes, c.requires.numbers, c.requires.tags) (is_case_evidence c.args.read c.requires.ranges)

pub returns : goal.returns
returns c = rw (c.new.ensures, c.new-graph.ensures, c.requires.nodes, c.requires.numbers, c.requires.tags) refl
