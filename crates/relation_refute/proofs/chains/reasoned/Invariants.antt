use Rattle.bit_rows.specs.Tables.{has_at}
use Rattle.relation_law.specs.Views.{view_of}
use Rattle.relation_refute.proofs.Lining.{AreReasoned}
use Rattle.relation_refute.proofs.chains.reasoned.Given as goal

abbrev pub invariant-loop-line : goal.invariant-loop-line
invariant-loop-line l = AreReasoned (view_of l.maps.graph.now l.claimed) (has_at l.fallen.onwards) l.lines l.line-index l.removed
