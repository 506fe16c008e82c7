use Rattle.std.proofs.Common.{eqb, get_or, subst, take, ◌+◌}
use Rattle.std.proofs.lemmas.List.{take_all}
use Rattle.std.proofs.lemmas.List.Folds.{list_any_more}
use Rattle.reach_prune.specs.Searches.{is_among}
use Rattle.preference_check.specs.Floods.{Marks}
use Rattle.preference_check.proofs.Marked.{marks_more, marks_none}
use Rattle.preference_check.proofs.flood.Flood.visit_each.Goals as goal

pub loop-node-init : goal.loop-node-init
loop-node-init c = marks_none c.args.number c.args.self.now

pub loop-node-preserved : goal.loop-node-preserved
loop-node-preserved c =
    let nodes = c.args.nodes.now in
    let i = c.loop-node.node-index in
    marks_more c.args.number (is_among (take i nodes)) (is_among (take (i + 1) nodes)) (get_or nodes i 0) c.args.self.now c.loop-node.self c.visit.new.self
    (λ n. list_any_more (λ x. eqb x n) nodes i 0 c.loop-node-test.true) c.loop-node.invariant c.in_ok-visit.ensures

pub returns : goal.returns
returns c =
    subst (λ xs. Marks c.args.number (is_among xs) c.args.self.now c.loop-node.self) (take_all c.loop-node.node-index c.args.nodes.now c.loop-node-test.false) c.loop-node.invariant
