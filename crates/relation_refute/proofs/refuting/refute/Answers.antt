use Rattle.std.proofs.Common.{refl, sym, subst, inl, inr}
use Rattle.std.proofs.lemmas.Bool.{both_ways}
use Rattle.graph_base.specs.Graphs.{PlainGraph}
use Rattle.graph_base.specs.Refuting.{HasSingleSteps, Refutes}
use Rattle.net_base.specs.declared.loc.LocSet.{LocSet}
use Rattle.net_base.specs.Sets.{holds}
use Rattle.relation_law.specs.Choosing.{IsRefutationOf}
use Rattle.relation_law.specs.Relations.{IsClosed, IsTotal}
use Rattle.relation_law.specs.Views.{view_of}
use Rattle.state_simulation.specs.Stages.{AreFirst}
use Rattle.state_simulation.proofs.Holding.{each_where_total}
use Rattle.relation_refute.proofs.refuting.refute.Goals as goal

pub returns-then-is_total-clause-total : goal.returns-then-is_total-clause-total
returns-then-is_total-clause-total c = (λ e. c.is_total.ensures.0 c.if-is_total.true, λ h. refl)

pub refutation-requires-clause-first : goal.refutation-requires-clause-first
refutation-requires-clause-first c =
    let first = c.in_ok-begun.ensures.first in
    record { graph = refl; rounds = subst (λ (z : PlainGraph). AreFirst z c.args.claimed.now c.in_ok-begun.begun.rounds) (sym first.graph) first.rounds }

pub refutation-requires-clause-single : goal.refutation-requires-clause-single
refutation-requires-clause-single c = subst HasSingleSteps (sym c.in_ok-begun.ensures.first.graph) c.requires.single

pub refutation-requires-clause-partial : goal.refutation-requires-clause-partial
refutation-requires-clause-partial c = λ s closed total.
    let g = c.args.graph.now in
    let r = c.args.relation.now in
    let same = sym c.requires.claimed in
    let at_graph = c.in_ok-begun.ensures.first.graph in
    let closed_here : IsClosed (view_of g c.args.claimed.now) s = subst (λ (z : PlainGraph). IsClosed (view_of z c.args.claimed.now) s) at_graph closed in
    let total_here : IsTotal (view_of g c.args.claimed.now) s = subst (λ (z : PlainGraph). IsTotal (view_of z c.args.claimed.now) s) at_graph total in
    let closed_there : IsClosed (view_of g r.claimed) s = subst (λ (z : LocSet). IsClosed (view_of g z) s) same closed_here in
    let total_there : IsTotal (view_of g r.claimed) s = subst (λ (z : LocSet). IsTotal (view_of g z) s) same total_here in
    both_ways c.is_total.result c.if-is_total.false (c.is_total.ensures.1 (each_where_total g r c.requires.relation (λ m n pair. elim (total_there m n pair) [
      | inl e ↦ inl (c.requires.relation.greatest.greatest s closed_there m n e)
      | inr e ↦ inr (c.requires.relation.greatest.greatest s closed_there n m e)
    ])))

pub returns-clause-total : goal.returns-clause-total
returns-clause-total c = (λ e. absurd (cc), λ each. absurd (both_ways c.is_total.result c.if-is_total.false (c.is_total.ensures.1 each)))

pub returns-clause-chosen : goal.returns-clause-chosen
returns-clause-chosen c =
    subst (λ (z : PlainGraph). IsRefutationOf z c.args.claimed.now c.in_ok-refutation.refutation) c.in_ok-begun.ensures.first.graph c.in_ok-refutation.ensures.chosen

pub returns-clause-refutes : goal.returns-clause-refutes
returns-clause-refutes c =
    let r = c.in_ok-refutation.refutation in
    subst (λ (z : PlainGraph). Refutes z (holds c.args.claimed.now) r.first r.second r.lines) c.in_ok-begun.ensures.first.graph c.in_ok-refutation.ensures.refutes
