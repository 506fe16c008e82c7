use Rattle.std.proofs.Common.{◌≡◌, ℕ, not, eqb, get_or, arith, sym, ap, ◌∙◌}
use Rattle.std.proofs.lemmas.Bool.{and_from, and_parts, eqb-true, not-true}
use Rattle.std.proofs.lemmas.List.{take_all}
use Rattle.graph_base.specs.Graphs.{PlainGraph}
use Rattle.graph_base.specs.Runs.{is_listener, place_of}
use Rattle.reach_prune.specs.Searches.{is_among}
use Rattle.relation_refute.specs.Faults.{answers_there}
use Rattle.relation_refute.proofs.Faulting.{answer_none, step_at}
use Rattle.state_simulation.proofs.Masking.{each_more}
use Rattle.relation_refute.proofs.faults.answer.Goals as goal

pub returns-then-answers_there-clause-some : goal.returns-then-answers_there-clause-some
returns-then-answers_there-clause-some c =
    let g : PlainGraph = c.args.maps.now.graph.now in
    let nodes = c.successors-s-items.result.now in
    let i = c.loop-s.s-index in
    let s : ℕ = get_or nodes i 0 in
    let ls = c.successors-s-items.ensures.within i 0 c.loop-s-test.true in
    let is : c.answers_there.result ≡ answers_there g s c.args.t = rw c.graph.ensures at c.answers_there.ensures in
    let step = step_at g c.args.m nodes i c.successors-s-items.ensures.members c.loop-s-test.true in
    let parts = and_parts (eqb (place_of g s) (place_of g c.args.t)) (not (is_listener g s)) (sym is ∙ c.if-answers_there.true) in
    (ls, and_from _ _ step parts.1, eqb-true _ _ parts.0)

pub loop-s-preserved : goal.loop-s-preserved
loop-s-preserved c =
    let g : PlainGraph = c.args.maps.now.graph.now in
    let nodes = c.successors-s-items.result.now in
    let i = c.loop-s.s-index in
    let s : ℕ = get_or nodes i 0 in
    let is : c.answers_there.result ≡ answers_there g s c.args.t = rw c.graph.ensures at c.answers_there.ensures in
    each_more (λ x. not (answers_there g x c.args.t)) nodes i c.loop-s-test.true c.loop-s.invariant (ap not (sym is ∙ c.if-answers_there.false))

pub returns-clause-none : goal.returns-clause-none
returns-clause-none c =
    let g : PlainGraph = c.args.maps.now.graph.now in
    let nodes = c.successors-s-items.result.now in
    let i = c.loop-s.s-index in
    answer_none g c.args.m c.args.t (λ s ls st.
    not-true _ (c.loop-s.invariant s (ap (λ l. is_among l s) (take_all i nodes (omega (arith, c.loop-s-test.false))) ∙ c.successors-s-items.ensures.members s ∙ st)))
