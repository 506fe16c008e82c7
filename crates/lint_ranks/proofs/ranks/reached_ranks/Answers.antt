use Rattle.std.proofs.Common.{◌≡◌, ◌+◌, ◌<◌, length, sym, ap, subst, ◌∙◌, arith, List}
use Rattle.std.specs.Prelude.{◌&&◌, ◌||◌, ◌==◌, IfSome}
use Rattle.std.specs.List.{AllByRecursion}
use Rattle.std.proofs.lemmas.List.{length-map}
use Rattle.policy_base.specs.Cases.{case_list}
use Rattle.net_base.specs.Network.{PlainNet}
use Rattle.policy_base.specs.Policies.{PlainPolicy, plain_statement, policy_of}
use Rattle.graph_base.specs.declared.graph.Node.{Node}
use Rattle.graph_base.specs.Graphs.{PlainGraph}
use Rattle.bit_rows.specs.Tables.{has_at}
use Rattle.compare_base.specs.declared.cases.PrefixCase.{PrefixCase}
use Rattle.case_graphs.specs.declared.graphs.CaseGraphs.{CaseGraphs}
use Rattle.case_graphs.specs.Graphs.{AreCaseGraphs, IsGraphFor, graph_in, prefix_case}
use Rattle.case_graphs.proofs.Placed.{placed}
use Rattle.lint_ranks.specs.Marks.{some_has_rank}
use Rattle.lint_ranks.proofs.Marked.{reached_all, reached_more}
use Rattle.lint_ranks.proofs.Placed.{ranks_are, ranks_below}
use Rattle.lint_ranks.proofs.ranks.reached_ranks.Goals as goal

-- the graph that is found for the case
found : (net : PlainNet) (policy : PlainPolicy) (graphs : CaseGraphs) (key of : PrefixCase) (g : PlainGraph) → AreCaseGraphs net policy graphs → g ≡ graph_in graphs key → key ≡ of
    → IsGraphFor net policy of g
found net policy graphs key of g are read same = subst (λ x. IsGraphFor net policy x g) same (subst (IsGraphFor net policy key) (sym read) (are key))

pub mark_ranks-requires-clause-row : goal.mark_ranks-requires-clause-row
mark_ranks-requires-clause-row c =
    let case = c.index-list-place.result in
    let is = placed c.args.net.now c.args.policy.now c.as_slice-list.result.now c.args.cases.now.cases c.loop-place.place case
    c.as_slice-list.ensures c.requires.cases c.loop-place-test.true c.index-list-place.is in
    omega (arith, is.within, c.loop-place.invariant.rows)

pub mark_ranks-requires-clause-ranks : goal.mark_ranks-requires-clause-ranks
mark_ranks-requires-clause-ranks c =
    let net = c.args.net.now in
    let policy = policy_of c.args.policy.now in
    let case = c.index-list-place.result in
    let is = placed net c.args.policy.now c.as_slice-list.result.now c.args.cases.now.cases c.loop-place.place case
    c.as_slice-list.ensures c.requires.cases c.loop-place-test.true c.index-list-place.is in
    let g = c.graph_for-graph.result.now in
    let of = found net policy c.in_ok-graphs.graphs c.prefix_case.result (prefix_case case) g c.in_ok-graphs.ensures.graphs c.graph_for-graph.ensures c.prefix_case.ensures in
    let below = ranks_below net policy c.known_net.ensures c.requires.routers (c.loop-place.place + 1) is.statement case is.is g c.nodes.ensures.rules of
    c.loop-place.ranks.bits c.loop-place.invariant.bits in
    subst (AllByRecursion (λ (node : Node). IfSome node.rank (λ k. k < c.loop-place.ranks.bits))) (sym c.nodes.ensures.nodes) below

pub loop-place-preserved : goal.loop-place-preserved
loop-place-preserved c =
    let net = c.args.net.now in
    let policy = policy_of c.args.policy.now in
    let case = c.index-list-place.result in
    let is = placed net c.args.policy.now c.as_slice-list.result.now c.args.cases.now.cases c.loop-place.place case
    c.as_slice-list.ensures c.requires.cases c.loop-place-test.true c.index-list-place.is in
    let g = c.graph_for-graph.result.now in
    let of = found net policy c.in_ok-graphs.graphs c.prefix_case.result (prefix_case case) g c.in_ok-graphs.ensures.graphs c.graph_for-graph.ensures c.prefix_case.ensures in
    let size = c.mark_ranks.ensures.size in
    record {
      rows = size.count ∙ c.loop-place.invariant.rows;
      bits = size.bits ∙ c.loop-place.invariant.bits;
      reached = reached_more net policy c.loop-place.place is.statement case is.is g
          (ranks_are net policy c.known_net.ensures c.requires.routers (c.loop-place.place + 1) is.statement case is.is g c.nodes.ensures.rules of)
          c.loop-place.ranks c.mark_ranks.new.marks c.loop-place.invariant.reached
          (λ n b within.
          c.mark_ranks.ensures.bits n b (omega (arith, within, c.loop-place.invariant.rows, length-map c.args.policy.now.statements plain_statement))
          ∙ ap (λ (nodes : List Node). has_at c.loop-place.ranks n b || (n == case.statement && some_has_rank b nodes)) c.nodes.ensures.nodes);
    }

pub returns-clause-reached : goal.returns-clause-reached
returns-clause-reached c =
    let net = c.args.net.now in
    let policy = policy_of c.args.policy.now in
    let end : c.loop-place.place ≡ length (case_list net policy) = omega (arith, c.loop-place-test.false, c.loop-place.auto.place-end, ap length (c.as_slice-list.ensures ∙ c.requires.cases)) in
    reached_all net policy c.loop-place.place c.loop-place.ranks end c.loop-place.invariant.reached
