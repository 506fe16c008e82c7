use Rattle.std.proofs.Common.{sym, ap, ◌∙◌, arith}
use Rattle.settled_graph.specs.Best.{entry_at}
use Rattle.settled_graph.proofs.best.greatest_numbers.Goals as goal

pub numbers_wanted-requires-clause-nodes : goal.numbers_wanted-requires-clause-nodes
numbers_wanted-requires-clause-nodes c = λ l n e.
    let old = c.in_ok-best.ensures.here l n (sym (ap (λ xs. entry_at xs l) c.deref-2.ensures.value) ∙ e) in
    omega (arith, old.0, c.requires.numbers)
