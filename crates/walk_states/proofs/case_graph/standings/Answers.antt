use Rattle.std.proofs.Common.{ℕ, List, length, sym, ap, subst, ◌∙◌, arith, rules}
use Rattle.std.specs.Prelude.{slice_get}
use Rattle.path_automata.specs.States.{Extends, states_of}
use Rattle.graph_base.specs.declared.graph.Node.{Node}
use Rattle.graph_base.specs.Graphs.{IsGraph, PlainGraph}
use Rattle.path_exprs.specs.Standings.{plan_of}
use Rattle.walk_states.specs.Built.{IsBuilt}
use Rattle.walk_states.proofs.case_graph.standings.Goals as goal

abbrev graph_of : List Node → List ℕ → List (ℕ × ℕ) → PlainGraph
graph_of nodes starts steps = record { nodes = nodes; starts = starts; steps = steps }

pub gather-requires-clause-begun : goal.gather-requires-clause-begun
gather-requires-clause-begun c = (c.requires.begun.0, ap (λ ss. slice_get ss 0) c.new-reached.ensures.automata ∙ c.requires.begun.1)

pub returns-in_err-nodes-clause-many : goal.returns-in_err-nodes-clause-many
returns-in_err-nodes-clause-many c = λ es h fault.
    let many = c.gather.ensures.many es (ap (λ ss. slice_get ss 0) c.new-reached.ensures.automata ∙ h) in
    search rules

pub new-requires : goal.new-requires
new-requires c =
    subst (λ l. IsGraph (graph_of c.in_ok-nodes.nodes c.in_ok-nodes.starts l)) (sym c.into_parts-steps.ensures.steps) c.in_ok-nodes.ensures.graph

pub returns-clause-built : goal.returns-clause-built
returns-clause-built c = λ es h.
    subst (IsBuilt c.args.net.now (plan_of es c.args.from.now c.args.case.now))
    (sym (c.new.ensures ∙ ap (graph_of c.in_ok-nodes.nodes c.in_ok-nodes.starts) c.into_parts-steps.ensures.steps))
    (c.in_ok-nodes.ensures.built es (ap (λ ss. slice_get ss 0) c.new-reached.ensures.automata ∙ h))

pub returns-clause-few : goal.returns-clause-few
returns-clause-few c =
    let same = ap (λ (g : PlainGraph). length g.nodes) c.new.ensures in
    omega (arith, same, c.in_ok-nodes.ensures.few)

pub returns-clause-kept : goal.returns-clause-kept
returns-clause-kept c =
    subst (Extends (states_of c.args.automata)) (sym c.into_parts-steps.ensures.automata)
    (subst (λ ss. Extends ss (states_of c.gather.new.reached.automata)) c.new-reached.ensures.automata c.in_ok-nodes.ensures.kept)
