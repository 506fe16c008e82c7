use Rattle.std.proofs.Common.{◌≡◌, ◌<◌, ℕ, List, get_or, length, sym, ap, ◌∙◌, subst, map, arith}
use Rattle.std.proofs.lemmas.Option.{slice_get-get_or}
use Rattle.list_law.proofs.Each.{AllByRecursion_at}
use Rattle.graph_base.specs.declared.graph.Node.{Node}
use Rattle.graph_base.specs.Graphs.{IsGraph, PlainGraph}
use Rattle.node_quotient.specs.Alike.{class_in}
use Rattle.node_quotient.specs.Quotient.{led_to}
use Rattle.node_quotient.proofs.Same.{led_is_graph}
use Rattle.node_quotient.proofs.quotients.graph_led.Goals as goal
use Rattle.node_quotient.proofs.quotients.graph_led.Goals.{In_ok-steps}

led : (g : PlainGraph) (least : List ℕ) (nodes : List Node) (starts : List ℕ) (steps : List (ℕ × ℕ)) → nodes ≡ g.nodes → starts ≡ g.starts
    → steps ≡ map (λ (s : ℕ × ℕ). (s.0, class_in least s.1)) g.steps
    → ◌≡◌ {A = PlainGraph} (record { nodes = nodes; starts = starts; steps = steps }) (led_to (class_in least) g)
led g least nodes starts steps a b d = λ i. record { nodes = a i; starts = b i; steps = d i }

led_graph : (c : In_ok-steps)
    → ◌≡◌ {A = PlainGraph} (record { nodes = c.from_vec-nodes.result; starts = c.from_vec-starts.result; steps = c.in_ok-steps.steps }) (led_to (class_in c.args.least.now) c.args.graph.now)
led_graph c =
    led c.args.graph.now c.args.least.now _ _ _ (c.from_vec-nodes.ensures ∙ c.in_ok-from_slice.ensures.items ∙ c.nodes.ensures.nodes)
    (c.from_vec-starts.ensures ∙ c.in_ok-from_slice-2.ensures.items ∙ c.starts.ensures.starts)
    (c.in_ok-steps.ensures ∙ ap (map (λ (s : ℕ × ℕ). (s.0, class_in c.args.least.now s.1))) c.steps.ensures.steps)

pub new-requires : goal.new-requires
new-requires c = subst IsGraph (sym (led_graph c)) (led_is_graph c.args.graph.now c.nodes.ensures.rules c.args.least.now c.requires.least)

pub returns-clause-led : goal.returns-clause-led
returns-clause-led c = c.new.ensures ∙ led_graph (goal.at.returns-clause-led c).In_ok-steps

pub steps_led-requires : goal.steps_led-requires
steps_led-requires c = λ k d lt.
    let nodes = c.args.graph.now.nodes in
    let steps = c.steps.result.now in
    let step = get_or steps k d in
    let both : (step.0 < length nodes) × (step.1 < length nodes) =
    AllByRecursion_at (λ (s : ℕ × ℕ). (s.0 < length nodes) × (s.1 < length nodes)) steps k step (rw c.steps.ensures.steps c.steps.ensures.rules.steps) (slice_get-get_or steps k d lt) in
    (omega (arith, both.0, c.requires.size), omega (arith, both.1, c.requires.size))
