use Rattle.std.proofs.Common.{length, sym, subst}
use Rattle.std.specs.Prelude.{IfOk}
use Rattle.net_base.specs.Sets.{holds}
use Rattle.graph_base.specs.Graphs.{PlainGraph}
use Rattle.evidence_law.specs.Faithful.{HasRank, HasWalks}
use Rattle.walk_check.specs.Firsts.{IsFirstOrNone}
use Rattle.evidence_check.proofs.case_rules.first_unranked.Goals as goal

pub returns : goal.returns
returns c = λ net s live walks.
    let case = c.args.case.now in
    let same = c.graph.ensures.graph in
    subst (λ (g : PlainGraph). IfOk c.rank_fault.result (IsFirstOrNone (HasRank net s (holds case.case.origins) g) (length g.nodes))) same
    (c.rank_fault.ensures net s (holds case.case.origins) case.case.external live (subst (HasWalks net s (holds case.case.origins) case.case.external) (sym same) walks))
