use Rattle.std.proofs.Common.{Err, subst, sym, ap}
use Rattle.comparison_maker.specs.Compared.{IsRefusedAt}
use Rattle.comparison_maker.proofs.Cases.{change_for, refused_for, steps_for}
use Rattle.comparison_maker.proofs.graphs.BothGraphs.change_of.Goals as goal

pub returns-in-Ok-clause-change : goal.returns-in-Ok-clause-change
returns-in-Ok-clause-change c = λ old new both.
    change_for c.args.net.now old new c.args.self.now both c.args.cases.now c.graph_for-old.result.now c.graph_for-new.result.now c.graph_for-old.ensures c.graph_for-new.ensures
    c.case_graphs_show_walks.ensures c.known_graph.ensures c.known_graph-2.ensures c.in-Ok.given.change c.in-Ok.ensures.change

pub returns-in-Ok-clause-used : goal.returns-in-Ok-clause-used
returns-in-Ok-clause-used c = λ old new both.
    steps_for c.args.net.now old new c.args.self.now both c.args.cases.now c.graph_for-old.result.now c.graph_for-new.result.now c.graph_for-old.ensures c.graph_for-new.ensures
    c.in-Ok.given.used c.in-Ok.ensures.used

pub returns-in-Err-clause-many : goal.returns-in-Err-clause-many
returns-in-Err-clause-many c = λ old new both.
    subst (IsRefusedAt c.args.net.now old new c.args.cases.now c.args.room) (sym c.refusal_of_pair.ensures)
    (refused_for c.args.net.now old new c.args.self.now both c.args.cases.now c.graph_for-old.result.now c.graph_for-new.result.now c.graph_for-old.ensures c.graph_for-new.ensures
    c.in-Err.fault c.args.room (λ same. c.in-Err.ensures.many (ap Err same)))
