use Rattle.std.proofs.Common.{◌≤◌, ◌++◌, ◌∷◌, [], length, map, sym, ap, ◌∙◌, arith}
use Rattle.std.proofs.lemmas.List.{take_all}
use Rattle.list_law.proofs.Changed.{map_next}
use Rattle.path_automata.specs.States.{states_of}
use Rattle.walk_states.specs.Built.{node_of}
use Rattle.path_exprs.specs.Standings.{plan_of}
use Rattle.walk_states.specs.Growth.{standings_of}
use Rattle.walk_states.proofs.Numbering.{length-standings_in}
use Rattle.walk_states.proofs.reached.Reached.nodes.Goals as goal

pub loop-number-preserved : goal.loop-number-preserved
loop-number-preserved c = λ es.
    c.in_ok-push.ensures.items ∙ ap (λ l. l ++ c.node.result ∷ []) (c.loop-number.invariant es)
    ∙ sym (map_next (node_of c.args.net.now (plan_of es c.args.from.now c.args.case.now)) (standings_of c.args.self.now) c.loop-number.number c.node.result (c.node.ensures es))

pub returns : goal.returns
returns c = λ es.
    let size = length-standings_in (states_of c.args.self.now.automata) c.args.self.now.found.keys.items in
    let all : length (standings_of c.args.self.now) ≤ c.loop-number.number = omega (arith, c.loop-number-test.false, c.len-number-end.ensures) in
    c.from_vec.ensures ∙ c.loop-number.invariant es
    ∙ ap (map (node_of c.args.net.now (plan_of es c.args.from.now c.args.case.now))) (take_all c.loop-number.number (standings_of c.args.self.now) all)
