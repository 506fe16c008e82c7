use Rattle.std.proofs.Common.{arith, ap, map, refl}
use Rattle.serde_json.specs.View.{view}
use Rattle.list_law.proofs.Exits.{passed_on}
use Rattle.json_values.proofs.ItemsRead.{each_from-ok, each_from-start, each_from-stop, each_from-end}
use Rattle.table_reader.specs.Shape.{entry_of}
use Rattle.table_reader.specs.Views.{raw_entry}
use Rattle.table_reader.proofs.shape.entries.Goals as goal

pub loop-i-preserved : goal.loop-i-preserved
loop-i-preserved c =
    rw c.in_ok-push.ensures.items
    (each_from-ok view entry_of c.args.values.now c.loop-i.i _ (omega arith) c.index-values-i.is raw_entry _ _ _ c.in_ok-read.ensures c.loop-i.invariant)

pub loop-i-init : goal.loop-i-init
loop-i-init c = each_from-start view entry_of c.args.values.now _ (ap (map raw_entry) c.new-all.ensures.items)

pub returns-in_err-read : goal.returns-in_err-read
returns-in_err-read c =
    rw (passed_on c.from_residual.result c.from_residual.ensures.1) (λ n.
    each_from-stop view entry_of c.args.values.now c.loop-i.i _ c.loop-i-test.true c.index-values-i.is _ _ _ (c.in_err-read.ensures n) c.loop-i.invariant)

pub returns-in_err-push : goal.returns-in_err-push
returns-in_err-push c = rw (passed_on c.from_residual-in_err-push.result c.from_residual-in_err-push.ensures.1) (λ n. absurd (n refl))

pub returns : goal.returns
returns c = each_from-end view entry_of c.args.values.now (map raw_entry c.loop-i.all.items) c.loop-i.i _ (omega arith) c.loop-i.invariant
