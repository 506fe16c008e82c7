use Rattle.std.proofs.Common.{◌-◌, drop, arith, sym, ◌∙◌, true, length-drop}
use Rattle.net_base.specs.Network.{linked}
use Rattle.policy_base.specs.Walks.{steps_linked}
use Rattle.policy_base.proofs.PlaceLemmas.{steps_linked-next, steps_linked_short}
use Rattle.list_law.proofs.Items.{pairs_next}
use Rattle.policy_base.proofs.walk.is_linked.Goals as goal

pub loop-i-preserved : goal.loop-i-preserved
loop-i-preserved c =
    pairs_next (steps_linked c.args.net.now) (linked c.args.net.now) true (steps_linked-next c.args.net.now) c.args.path.now c.loop-i.i
    c.index-path-i.result c.index-path-i-in-loop-i.result (omega arith) (omega arith) c.index-path-i.is c.index-path-i-in-loop-i.is (sym c.linked.ensures ∙ c.if-not-linked.false) c.loop-i.invariant

pub returns : goal.returns
returns c = sym (c.loop-i.invariant ∙ steps_linked_short c.args.net.now (drop (c.loop-i.i - 1) c.args.path.now) (grind (arith, length-drop)))
