use Rattle.std.proofs.Common.{◌≡◌, drop}
use Rattle.std.specs.List.{find}
use Rattle.node_quotient.specs.Alike.{has_rank}
use Rattle.node_quotient.proofs.first.first_ranked.Given as goal

abbrev pub invariant-loop-node : goal.invariant-loop-node
invariant-loop-node l = find (has_rank l.graph l.rank) l.nodes ≡ find (has_rank l.graph l.rank) (drop l.node-index l.nodes)
