use Rattle.std.proofs.Common.{length, ◌≤◌, sym, subst}
use Rattle.graph_base.specs.Rules.{IsWellFormed}
use Rattle.graph_base.specs.Graphs.{IsGraph}
use Rattle.graph_base.specs.Walks.{IsEnteredFromBefore}
use Rattle.graph_law.proofs.WellBuilt.{well_formed, entered, named}
use Rattle.graph_law.proofs.built_graphs_are_well_formed.Goals as goal

pub returns-clause-formed : goal.returns-clause-formed
returns-clause-formed c = λ net plan g b. subst (IsWellFormed net plan.origin plan.external) (sym b.2) (well_formed net plan b.0 b.1)

pub returns-clause-entered : goal.returns-clause-entered
returns-clause-entered c = λ net plan g b. subst IsEnteredFromBefore (sym b.2) (entered net plan b.0 b.1)

pub returns-clause-lists : goal.returns-clause-lists
returns-clause-lists c = λ net plan g b few. subst IsGraph (sym b.2) (named net plan b.0 b.1 (subst (λ h. length h.nodes ≤ 4294967000) b.2 few))
