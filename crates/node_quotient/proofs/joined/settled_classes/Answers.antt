use Rattle.std.proofs.Common.{sym, arith}
use Rattle.node_quotient.proofs.Rounding.{kept_classes, kept_settled, smaller}
use Rattle.node_quotient.proofs.joined.settled_classes.Goals as goal

pub rounds-smaller : goal.rounds-smaller
rounds-smaller c =
    smaller c.args.graph.now c.requires.graph c.requires.single c.args.lists.now c.requires.steps c.rounds.least.items c.in_ok-next.next.items c.rounds.invariant.size c.rounds.invariant.classes
    (rw (sym c.deref.ensures.value) c.in_ok-next.ensures) c.eq-settled.result c.eq-settled.ensures c.rounds.settled c.rounds-test.true

pub rounds-preserved : goal.rounds-preserved
rounds-preserved c =
    let are = rw c.deref.ensures.value at c.in_ok-next.ensures in
    record {
      size = let one = are.size in omega (arith, one, c.rounds.invariant.size);
      classes =
          kept_classes c.args.graph.now c.requires.graph c.requires.single c.args.lists.now c.requires.steps c.rounds.least.items
          c.in_ok-next.next.items c.rounds.invariant.size c.rounds.invariant.classes are c.eq-settled.result c.eq-settled.ensures;
      settled =
          kept_settled c.args.graph.now c.requires.graph c.requires.single c.args.lists.now c.requires.steps c.rounds.least.items
          c.in_ok-next.next.items c.rounds.invariant.size c.rounds.invariant.classes are c.eq-settled.result c.eq-settled.ensures;
    }
