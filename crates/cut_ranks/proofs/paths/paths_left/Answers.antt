use Rattle.std.proofs.Common.{◌≡◌, sym, ap, ◌∙◌, subst}
use Rattle.graph_base.specs.Graphs.{PlainGraph}
use Rattle.settled_outcome.specs.Surviving.{left_by}
use Rattle.cut_ranks.specs.Paths.{StepsDiffer}
use Rattle.cut_ranks.proofs.Opening.{left_differ}
use Rattle.cut_ranks.proofs.paths.paths_left.Goals as goal

pub returns-clause-lists : goal.returns-clause-lists
returns-clause-lists c =
    let net = c.args.net.now in
    let t = c.args.survivors.now in
    let g = c.args.case.now.graph in
    let is : c.in_ok-left.left ≡ left_by net t g = c.in_ok-left.ensures ∙ ap (left_by net t) c.graph.ensures.graph in
    record {
      nodes = ap (λ (h : PlainGraph). h.nodes) is;
      steps = record {
        size = c.in_ok-lists.ensures.size;
        within = c.in_ok-lists.ensures.lists;
        steps = c.in_ok-lists.ensures.steps;
        one_step = subst StepsDiffer (sym is) (left_differ net t g c.requires);
      };
    }
