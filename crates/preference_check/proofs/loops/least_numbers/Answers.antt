use Rattle.std.proofs.Common.{◌+◌, subst, sym}
use Rattle.preference_check.specs.Floods.{AreLeast}
use Rattle.preference_check.proofs.Lowest.{least_not, least_there}
use Rattle.preference_check.proofs.loops.least_numbers.Goals as goal
use Rattle.preference_check.proofs.loops.least_numbers.Goals.{then-marks-node+in_ok-take_number, else-marks-node}

pub loop-node-preserved : goal.loop-node-preserved
loop-node-preserved c =
    let g = c.args.graph.now in
    let numbers = c.args.numbers.now in
    let marks = c.args.marks.now in
    let node = c.loop-node.node in
    elim c.if-marks-node.branch [
      | then-marks-node+in_ok-take_number w ↦
          subst (λ row. AreLeast g numbers marks (node + 1) row.least.items) (sym w.least-is)
          (least_there g numbers marks node c.loop-node.least.least.items w.take_number.new.least.least.items w.if-marks-node.true w.in_ok-take_number.ensures c.loop-node.invariant)
      | else-marks-node w ↦
          subst (λ row. AreLeast g numbers marks (node + 1) row.least.items) (sym w.least-is) (least_not g numbers marks node c.loop-node.least.least.items w.if-marks-node.false c.loop-node.invariant)
    ]
