use Rattle.std.proofs.Common.{◌<◌, List, length, refl, sym, ap, subst, ◌∙◌, arith, rules}
use Rattle.path_automata.specs.States.{states_of}
use Rattle.graph_base.specs.Graphs.{IsGraph}
use Rattle.path_exprs.specs.Standings.{AreReached, Standing, plan_of}
use Rattle.walk_states.specs.Growth.{next_in, standings_of}
use Rattle.walk_states.proofs.Numbering.{extends-further}
use Rattle.walk_states.proofs.Building.{all-asked, begun-starts, graph-inside, graph-made, length-nodes, reached-all}
use Rattle.walk_states.proofs.case_graph.gather.Goals as goal

pub returns-in_err-walk-clause-many : goal.returns-in_err-walk-clause-many
returns-in_err-walk-clause-many c = λ es h fault.
    let net = c.args.net.now in
    let from = c.args.from.now in
    let case = c.args.case.now in
    let first = standings_of c.add_starts.new.self in
    let states = states_of c.args.reached.now.automata in
    let begun = begun-starts net es from case first states states c.in_ok-add_starts.ensures.ok refl h in
    let passed : (xs : List Standing) × AreReached first (next_in net case) xs × (4096 < length xs) = search rules in
    (passed.0, reached-all net es from case first passed.0 begun passed.1, passed.2)

pub returns-clause-graph : goal.returns-clause-graph
returns-clause-graph c =
    let es = c.requires.begun.0 in
    let h = c.requires.begun.1 in
    let net = c.args.net.now in
    let from = c.args.from.now in
    let case = c.args.case.now in
    let first = standings_of c.add_starts.new.self in
    let xs = standings_of c.walk.new.self in
    let states = states_of c.args.reached.now.automata in
    let begun = begun-starts net es from case first states states c.in_ok-add_starts.ensures.ok refl h in
    let all = all-asked net es from case first xs c.walk.new.self.steps.items begun c.in_ok-walk.ensures.ok in
    subst IsGraph
    (sym (graph-made net (plan_of es from case) first xs c.in_ok-nodes.nodes c.in_ok-starts.starts c.walk.new.self.steps.items c.walk.new.self.steps.items c.len.result
    all begun (c.in_ok-nodes.ensures es) c.in_ok-starts.ensures c.len.ensures refl))
    (graph-inside net (plan_of es from case) xs c.walk.new.self.steps.items all c.in_ok-walk.ensures.few)

pub returns-clause-built : goal.returns-clause-built
returns-clause-built c = λ es h.
    let net = c.args.net.now in
    let from = c.args.from.now in
    let case = c.args.case.now in
    let first = standings_of c.add_starts.new.self in
    let xs = standings_of c.walk.new.self in
    let states = states_of c.args.reached.now.automata in
    let begun = begun-starts net es from case first states states c.in_ok-add_starts.ensures.ok refl h in
    let all = all-asked net es from case first xs c.walk.new.self.steps.items begun c.in_ok-walk.ensures.ok in (
      xs,
      all.standings,
      graph-made net (plan_of es from case) first xs c.in_ok-nodes.nodes c.in_ok-starts.starts c.walk.new.self.steps.items c.walk.new.self.steps.items c.len.result
          all begun (c.in_ok-nodes.ensures es) c.in_ok-starts.ensures c.len.ensures refl,
    )

pub returns-clause-few : goal.returns-clause-few
returns-clause-few c =
    let plan = plan_of c.requires.begun.0 c.args.from.now c.args.case.now in
    let same = ap length (c.in_ok-nodes.ensures c.requires.begun.0) ∙ length-nodes c.args.net.now plan (standings_of c.walk.new.self) in
    omega (arith, same, c.in_ok-walk.ensures.few)

pub returns-clause-kept : goal.returns-clause-kept
returns-clause-kept c =
    extends-further (states_of c.args.reached.now.automata) (states_of c.add_starts.new.self.automata) (states_of c.walk.new.self.automata)
    c.in_ok-add_starts.ensures.kept c.in_ok-walk.ensures.kept
