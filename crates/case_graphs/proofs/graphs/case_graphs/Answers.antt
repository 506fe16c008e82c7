use Rattle.std.proofs.Common.{rules, ◌≡◌, ◌+◌, ◌-◌, length, Some, ap, ◌∙◌, arith}
use Rattle.std.specs.Prelude.{if◌then◌else◌}
use Rattle.indexmap.specs.IndexMap.{get}
use Rattle.list_law.proofs.Exits.{passed_on}
use Rattle.policy_base.specs.Cases.{case_list}
use Rattle.policy_base.specs.Policies.{policy_of}
use Rattle.compare_base.specs.declared.cases.PrefixCase.{PrefixCase}
use Rattle.compare_base.specs.Same.{same_case}
use Rattle.case_graphs.proofs.KeptGraphs.{graphs_all, graphs_more, none_yet}
use Rattle.case_graphs.proofs.Placed.{placed}
use Rattle.case_graphs.proofs.Within.{built_at, gone_more, refused_next, there}
use Rattle.case_graphs.proofs.graphs.case_graphs.Goals as goal

pub returns-in_err-given-clause-refused : goal.returns-in_err-given-clause-refused
returns-in_err-given-clause-refused c =
    let net = c.args.net.now in
    let policy = policy_of c.args.policy.now in
    let end : length c.as_slice-list.result.now ≡ length (case_list net policy) = ap length (c.as_slice-list.ensures ∙ c.requires.cases) in
    let why = refused_next net policy c.loop-place.place c.loop-place.room c.in_err-given.field-0.0 c.loop-place.invariant.gone
    (omega (arith, c.loop-place-test.true, end)) c.in_err-given.ensures.refused in
    rw (passed_on c.from_residual-in_err-given.result c.from_residual-in_err-given.ensures.1) why

pub loop-place-init : goal.loop-place-init
loop-place-init c = record {
  gone = search rules;
  kept = c.in_ok-kept.ensures c.args.net.now;
  graphs = none_yet c.args.net.now (policy_of c.args.policy.now) _ (λ of. search rules);
}

pub overflow_sub-room : goal.overflow_sub-room
overflow_sub-room c =
    let net = c.args.net.now in
    let policy = policy_of c.args.policy.now in
    let end : length c.as_slice-list.result.now ≡ length (case_list net policy) = ap length (c.as_slice-list.ensures ∙ c.requires.cases) in
    let case = there net policy c.loop-place.place (omega (arith, c.loop-place-test.true, end)) in
    let made = c.in_ok-given.ensures.graph case.0 case.1 case.2 in
    omega (arith, made.2, made.1.within.steps)

pub loop-place-preserved : goal.loop-place-preserved
loop-place-preserved c =
    let net = c.args.net.now in
    let policy = policy_of c.args.policy.now in
    let before = c.loop-place.invariant in
    let case = c.index-list-place.result in
    let is = placed net c.args.policy.now c.as_slice-list.result.now c.args.cases.now.cases c.loop-place.place case
    c.as_slice-list.ensures c.requires.cases c.loop-place-test.true c.index-list-place.is in
    let given = c.in_ok-given.given in
    let built = built_at net policy (c.loop-place.place + 1) c.loop-place.room given is.statement case is.is c.in_ok-given.ensures.graph in
    let made = c.in_ok-given.ensures.graph is.statement case is.is in
    record {
      gone = gone_more net policy c.loop-place.place c.loop-place.room (c.loop-place.room - given.used) built.0 before.gone built.1 (ap (λ n. c.loop-place.room - n) built.2);
      kept = c.in_ok-given.ensures.kept;
      graphs = graphs_more net policy c.loop-place.place c.loop-place.room is.statement case made.0 given.graph is.is (omega (arith, before.gone.left)) made.1
          (get same_case c.loop-place.graphs) (get same_case c.keep.new.graphs) before.graphs
          (λ of. c.in_ok-keep.ensures of ∙ ap (λ (x : PrefixCase). if same_case x of then Some given.graph else get same_case c.loop-place.graphs of) c.prefix_case.ensures);
    }

pub returns-clause-graphs : goal.returns-clause-graphs
returns-clause-graphs c =
    let net = c.args.net.now in
    let policy = policy_of c.args.policy.now in
    let end : c.loop-place.place ≡ length (case_list net policy) = omega (arith, c.loop-place-test.false, c.loop-place.auto.place-end, ap length (c.as_slice-list.ensures ∙ c.requires.cases)) in
    graphs_all net policy (record { graphs = c.loop-place.graphs; none = c.bare.result }) c.loop-place.place c.bare.ensures end c.loop-place.invariant.graphs
