use Rattle.std.proofs.Common.{refl}
use Rattle.topology.specs.Rules.{site_of}
use Rattle.topology.specs.Shape.{each}
use Rattle.topology.specs.Views.{named_entry}
use Rattle.list_law.proofs.Exits.{passed_on}
use Rattle.json_values.proofs.ItemsRead.{each_from-start, each_from-next, each_from-stop, each_from-end}
use Rattle.topology.proofs.sites.sites.Goals as goal

pub loop-entry-init : goal.loop-entry-init
loop-entry-init c = each_from-start named_entry (λ _. site_of c.args.kind) c.args.entries.now _ c.new-all.ensures.items

pub loop-entry-preserved : goal.loop-entry-preserved
loop-entry-preserved c =
    rw c.in_ok-push.ensures.items
    (each_from-next named_entry (λ _. site_of c.args.kind) c.args.entries.now c.loop-entry.entry-index _ c.loop-entry-test.true c.entry-item.is _ _ _ c.in_ok-read.ensures c.loop-entry.invariant)

pub returns-in_err-read : goal.returns-in_err-read
unfolding each
returns-in_err-read c =
    rw (passed_on c.from_residual.result c.from_residual.ensures.1) (λ n.
    each_from-stop named_entry (λ _. site_of c.args.kind) c.args.entries.now c.loop-entry.entry-index _ c.loop-entry-test.true c.entry-item.is _ _ _ (c.in_err-read.ensures n) c.loop-entry.invariant)

pub returns : goal.returns
unfolding each
returns c = each_from-end named_entry (λ _. site_of c.args.kind) c.args.entries.now c.loop-entry.all.items c.loop-entry.entry-index _ c.loop-entry-test.false c.loop-entry.invariant

pub returns-in_err-push : goal.returns-in_err-push
returns-in_err-push c = rw (passed_on c.from_residual-in_err-push.result c.from_residual-in_err-push.ensures.1) (λ n. absurd (n refl))
