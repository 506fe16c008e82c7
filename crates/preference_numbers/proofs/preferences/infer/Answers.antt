use Rattle.std.proofs.Common.{◌≡◌, arith, length, ap, ◌∙◌}
use Rattle.std.proofs.lemmas.List.{length-map}
use Rattle.graph_base.specs.declared.graph.Node.{Node}
use Rattle.preference_numbers.proofs.Apart.{inferred_apart}
use Rattle.preference_numbers.proofs.Meeting.{inferred_meet}
use Rattle.preference_numbers.proofs.preferences.infer.Goals as goal

pub returns-then-branch-clause-numbers : goal.returns-then-branch-clause-numbers
returns-then-branch-clause-numbers c = λ n less.
    c.in_ok-of.ensures.numbers n less ∙ inferred_apart c.args.graph.now c.args.relation.now c.requires.relation (c.in_ok-stand_apart.ensures.apart c.if-branch.true) n c.args.net.now

pub returns-then-branch-clause-rules : goal.returns-then-branch-clause-rules
returns-then-branch-clause-rules c = λ external.
    let net = c.args.net.now in
    let g = c.args.graph.now in
    let r = c.args.relation.now in
    inferred_meet net external g r c.in_ok-of.of c.nodes.ensures.rules c.requires.relation c.requires.total
    (λ n less. c.in_ok-of.ensures.numbers n less ∙ inferred_apart g r c.requires.relation (c.in_ok-stand_apart.ensures.apart c.if-branch.true) n net)

pub returns-clause-rules : goal.returns-clause-rules
returns-clause-rules c = λ external.
    inferred_meet c.args.net.now external c.args.graph.now c.args.relation.now c.in_ok-of-2.of c.nodes.ensures.rules c.requires.relation c.requires.total c.in_ok-of-2.ensures.numbers

pub firsts-requires-clause-size : goal.firsts-requires-clause-size
firsts-requires-clause-size c =
    let g = c.args.graph.now in
    let places : length c.args.relation.now.places ≡ length g.nodes = ap length c.requires.relation.places ∙ length-map g.nodes (λ (node : Node). node.loc) in
    omega (arith, places, ap length c.nodes.ensures.nodes)
