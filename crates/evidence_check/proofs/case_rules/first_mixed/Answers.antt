use Rattle.std.proofs.Common.{length, sym, subst}
use Rattle.net_base.specs.Sets.{holds}
use Rattle.graph_base.specs.Graphs.{PlainGraph}
use Rattle.evidence_law.specs.Faithful.{IsFaithful}
use Rattle.std.specs.Prelude.{IsSome}
use Rattle.graph_base.specs.Runs.{place_of, rank_at}
use Rattle.evidence_law.specs.Passes.{IsClaimed}
use Rattle.walk_check.specs.Firsts.{IsFirstOrNone}
use Rattle.evidence_check.proofs.case_rules.first_mixed.Goals as goal

pub returns : goal.returns
returns c = λ s faithful.
    let net = c.args.net.now in
    let case = c.args.case.now in
    let same = c.graph.ensures.graph in
    subst (λ (g : PlainGraph). IsFirstOrNone (λ n. IsClaimed net s case.case (place_of g n) → IsSome (rank_at g n)) (length g.nodes) c.mixed_fault.result) same
    (c.mixed_fault.ensures s case.case (subst (IsFaithful net s (holds case.case.origins) case.case.external) (sym same) faithful))
