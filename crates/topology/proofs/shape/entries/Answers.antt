use Rattle.std.proofs.Common.{ap, map, refl}
use Rattle.serde_json.specs.View.{view}
use Rattle.topology.specs.Shape.{each, entry_of}
use Rattle.topology.specs.Views.{raw_entry}
use Rattle.list_law.proofs.Exits.{passed_on}
use Rattle.json_values.proofs.ItemsRead.{each_from-start, each_from-ok, each_from-stop, each_from-end}
use Rattle.topology.proofs.shape.entries.Goals as goal

pub loop-value-init : goal.loop-value-init
loop-value-init c = each_from-start view (λ _. entry_of) c.args.values.now _ (ap (map raw_entry) c.new-all.ensures.items)

pub loop-value-preserved : goal.loop-value-preserved
loop-value-preserved c =
    rw c.in_ok-push.ensures.items
    (each_from-ok view (λ _. entry_of) c.args.values.now c.loop-value.value-index _ c.loop-value-test.true c.value-item.is raw_entry _ _ _ c.in_ok-read.ensures c.loop-value.invariant)

pub returns-in_err-read : goal.returns-in_err-read
unfolding each
returns-in_err-read c =
    rw (passed_on c.from_residual.result c.from_residual.ensures.1) (λ n.
    each_from-stop view (λ _. entry_of) c.args.values.now c.loop-value.value-index _ c.loop-value-test.true c.value-item.is _ _ _ (c.in_err-read.ensures n) c.loop-value.invariant)

pub returns : goal.returns
unfolding each
returns c = each_from-end view (λ _. entry_of) c.args.values.now (map raw_entry c.loop-value.all.items) c.loop-value.value-index _ c.loop-value-test.false c.loop-value.invariant

pub returns-in_err-push : goal.returns-in_err-push
returns-in_err-push c = rw (passed_on c.from_residual-in_err-push.result c.from_residual-in_err-push.ensures.1) (λ n. absurd (n refl))
