use Rattle.std.proofs.Common.{ap}
use Rattle.serde_json.specs.View.{view}
use Rattle.json_values.proofs.ItemsRead.{each_from-ok, each_from-start, each_from-stop, each_from-end}
use Rattle.location_names.specs.Names.{texts}
use Rattle.scenario_reader.specs.Shape.{text_of}
use Rattle.scenario_reader.proofs.shape.each_text.Goals as goal

pub loop-value-preserved : goal.loop-value-preserved
loop-value-preserved c =
    rw c.in_ok-push-in-Ok.ensures.items
    (each_from-ok view (λ _. text_of c.args.field) c.args.values.now c.loop-value.value-index _ c.loop-value-test.true c.value-item.is (λ k. k.now) _ _ _ c.in-Ok.ensures c.loop-value.invariant)

pub loop-value-init : goal.loop-value-init
loop-value-init c = each_from-start view (λ _. text_of c.args.field) c.args.values.now _ (ap texts c.new-all.ensures.items)

pub returns-in-Err : goal.returns-in-Err
returns-in-Err c = λ n.
    each_from-stop view (λ _. text_of c.args.field) c.args.values.now c.loop-value.value-index _ c.loop-value-test.true c.value-item.is _ _ _ (c.in-Err.ensures n) c.loop-value.invariant

pub returns : goal.returns
returns c = each_from-end view (λ _. text_of c.args.field) c.args.values.now (texts c.loop-value.all.items) c.loop-value.value-index _ c.loop-value-test.false c.loop-value.invariant
