use Rattle.std.proofs.Common.{arith, refl}
use Rattle.list_law.proofs.Exits.{passed_on}
use Rattle.json_values.proofs.ItemsRead.{each_from-next, each_from-start, each_from-stop, each_from-end}
use Rattle.table_reader.specs.Rules.{held_by}
use Rattle.table_reader.specs.Views.{raw_entry}
use Rattle.table_reader.proofs.judge.each_held.Goals as goal

pub loop-i-preserved : goal.loop-i-preserved
loop-i-preserved c =
    rw c.in_ok-push.ensures.ok
    (each_from-next raw_entry (held_by c.args.names.now) c.args.raw.now c.loop-i.i _ (omega arith) c.index-raw-i.is _ _ _ c.in_ok-held.ensures c.loop-i.invariant)

pub loop-i-init : goal.loop-i-init
loop-i-init c = each_from-start raw_entry (held_by c.args.names.now) c.args.raw.now _ c.new-all.ensures

pub returns-in_err-held : goal.returns-in_err-held
returns-in_err-held c =
    rw (passed_on c.from_residual.result c.from_residual.ensures.1) (λ n.
    each_from-stop raw_entry (held_by c.args.names.now) c.args.raw.now c.loop-i.i _ c.loop-i-test.true c.index-raw-i.is _ _ _ (c.in_err-held.ensures n) c.loop-i.invariant)

pub returns-in_err-push : goal.returns-in_err-push
returns-in_err-push c = rw (passed_on c.from_residual-in_err-push.result c.from_residual-in_err-push.ensures.1) (λ n. absurd (n refl))

pub returns : goal.returns
returns c = each_from-end raw_entry (held_by c.args.names.now) c.args.raw.now c.loop-i.all c.loop-i.i _ (omega arith) c.loop-i.invariant
