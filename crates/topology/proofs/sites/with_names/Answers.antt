use Rattle.std.proofs.Common.{arith, map, length, length-append, refl, ap, ◌∙◌}
use Rattle.std.proofs.lemmas.List.{get_or_default}
use Rattle.topology.specs.Rules.{named}
use Rattle.topology.specs.Views.{raw_entry, named_entry}
use Rattle.list_law.proofs.Exits.{passed_on}
use Rattle.json_values.proofs.ItemsRead.{each_from-start, each_from-ok, each_from-stop, each_from-end}
use Rattle.topology.proofs.sites.with_names.Goals as goal

pub loop-entry-init : goal.loop-entry-init
loop-entry-init c = (
  omega arith,
  ap length c.new-all.ensures.items,
  each_from-start raw_entry (named c.args.kind) c.args.raw.now _ (ap (map named_entry) c.new-all.ensures.items),
)

pub loop-entry-preserved : goal.loop-entry-preserved
loop-entry-preserved c = (
  omega (arith, c.loop-entry.invariant.0),
  rw c.in_ok-push.ensures.items (length-append c.loop-entry.all.items _ ∙ rw c.loop-entry.invariant.1 refl),
  rw c.in_ok-push.ensures.items
      (each_from-ok raw_entry (named c.args.kind) c.args.raw.now c.loop-entry.entry-index _ c.loop-entry-test.true (get_or_default _ _ _ _ c.loop-entry-test.true) named_entry _ _ _
      (rw c.loop-entry.invariant.0 at c.in_ok-read.ensures) c.loop-entry.invariant.2),
)

pub returns-in_err-read-clause-entries : goal.returns-in_err-read-clause-entries
returns-in_err-read-clause-entries c =
    rw (passed_on c.from_residual.result c.from_residual.ensures.1) (λ n.
    each_from-stop raw_entry (named c.args.kind) c.args.raw.now c.loop-entry.entry-index _ c.loop-entry-test.true (get_or_default _ _ _ _ c.loop-entry-test.true) _ _ _
    ((rw c.loop-entry.invariant.0 at c.in_err-read.ensures) n) c.loop-entry.invariant.2)

pub returns-clause-entries : goal.returns-clause-entries
returns-clause-entries c =
    each_from-end raw_entry (named c.args.kind) c.args.raw.now (map named_entry c.loop-entry.all.items) c.loop-entry.entry-index _ c.loop-entry-test.false c.loop-entry.invariant.2

pub returns-in_err-push-clause-entries : goal.returns-in_err-push-clause-entries
returns-in_err-push-clause-entries c = rw (passed_on c.from_residual-in_err-push.result c.from_residual-in_err-push.ensures.1) (λ n. absurd (n refl))

pub overflow_add-place : goal.overflow_add-place
overflow_add-place c = omega (arith, c.loop-entry.invariant.0, c.loop-entry-test.true, c.requires)

pub returns-clause-count : goal.returns-clause-count
returns-clause-count c = omega (arith, c.loop-entry.invariant.1, c.loop-entry-test.false, c.loop-entry.auto.entry-index-end)
