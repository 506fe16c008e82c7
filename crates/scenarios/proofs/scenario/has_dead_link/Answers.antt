use Rattle.std.proofs.Common.{◌-◌, drop, arith, sym, ◌∙◌, false, length-drop}
use Rattle.policy_base.specs.Meaning.{some_step}
use Rattle.policy_base.proofs.PlaceLemmas.{some_step-next, some_step_short}
use Rattle.list_law.proofs.Items.{pairs_next}
use Rattle.outcome_base.specs.Outcomes.{is_dead_link}
use Rattle.scenarios.specs.Scenarios.{failures_of}
use Rattle.scenarios.proofs.scenario.has_dead_link.Goals as goal

pub loop-i-preserved : goal.loop-i-preserved
loop-i-preserved c =
    let p = is_dead_link (failures_of c.args.scenario.now) in
    pairs_next (some_step p) p false (some_step-next p) c.args.path.now c.loop-i.i
    c.index-path-i.result c.index-path-i-in-loop-i.result (omega arith) (omega arith) c.index-path-i.is c.index-path-i-in-loop-i.is
    (sym c.is_dead_link.ensures ∙ c.if-is_dead_link.false) c.loop-i.invariant

pub returns : goal.returns
returns c = sym (c.loop-i.invariant ∙ some_step_short _ (drop (c.loop-i.i - 1) c.args.path.now) (grind (arith, length-drop)))
