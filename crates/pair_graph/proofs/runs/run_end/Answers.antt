use Rattle.std.proofs.Common.{◌+◌, ap, arith}
use Rattle.std.proofs.lemmas.List.{get_or_default}
use Rattle.pair_graph.specs.declared.way.Way.{Way}
use Rattle.pair_graph.specs.Ways.{from_of}
use Rattle.pair_graph.proofs.Turns.{cut_made}
use Rattle.pair_graph.proofs.runs.run_end.Goals as goal

pub returns-then-node-ways : goal.returns-then-node-ways
returns-then-node-ways c =
    let none : Way = record { from = 0; place = 0; to = 0 } in
    cut_made from_of c.args.ways.now (c.args.node + 1) c.run.end c.requires.order c.run.invariant.within c.run.invariant.before (λ d lt.
    let same = ap (λ (w : Way). w.from) (get_or_default c.args.ways.now c.run.end none d lt) in
    omega (arith, c.if-node-ways.true, same))
