use Rattle.node_classes.proofs.Finding.{IsFound}
use Rattle.node_classes.proofs.met.pairs_met.Given as goal

abbrev pub invariant-loop-place : goal.invariant-loop-place
invariant-loop-place l = IsFound l.ways l.a l.b l.found.keys l.place
