use Rattle.std.proofs.Common.{◌≡◌, ℕ, not, get_or, arith, sym, ap, ◌∙◌}
use Rattle.std.proofs.lemmas.Bool.{not-true}
use Rattle.std.proofs.lemmas.List.{take_all}
use Rattle.graph_base.specs.Graphs.{PlainGraph}
use Rattle.reach_prune.specs.Searches.{is_among}
use Rattle.relation_refute.specs.Faults.{hears_there}
use Rattle.relation_refute.proofs.Faulting.{heard_at, heard_none, step_at}
use Rattle.state_simulation.proofs.Masking.{each_more}
use Rattle.relation_refute.proofs.faults.is_heard_at.Goals as goal

pub returns-then-hears_there : goal.returns-then-hears_there
returns-then-hears_there c =
    let g : PlainGraph = c.args.maps.now.graph.now in
    let nodes = c.successors-s-items.result.now in
    let i = c.loop-s.s-index in
    let s : ℕ = get_or nodes i 0 in
    let ls = c.successors-s-items.ensures.within i 0 c.loop-s-test.true in
    let is : c.hears_there.result ≡ hears_there g s c.args.t = rw c.graph.ensures at c.hears_there.ensures in
    let step = step_at g c.args.m nodes i c.successors-s-items.ensures.members c.loop-s-test.true in
    sym (heard_at g c.args.m c.args.t s ls step (sym is ∙ c.if-hears_there.true))

pub loop-s-preserved : goal.loop-s-preserved
loop-s-preserved c =
    let g : PlainGraph = c.args.maps.now.graph.now in
    let nodes = c.successors-s-items.result.now in
    let i = c.loop-s.s-index in
    let s : ℕ = get_or nodes i 0 in
    let is : c.hears_there.result ≡ hears_there g s c.args.t = rw c.graph.ensures at c.hears_there.ensures in
    each_more (λ x. not (hears_there g x c.args.t)) nodes i c.loop-s-test.true c.loop-s.invariant (ap not (sym is ∙ c.if-hears_there.false))

pub returns : goal.returns
returns c =
    let g : PlainGraph = c.args.maps.now.graph.now in
    let nodes = c.successors-s-items.result.now in
    let i = c.loop-s.s-index in
    sym (heard_none g c.args.m c.args.t (λ s ls st.
    not-true _ (c.loop-s.invariant s (ap (λ l. is_among l s) (take_all i nodes (omega (arith, c.loop-s-test.false))) ∙ c.successors-s-items.ensures.members s ∙ st))))
