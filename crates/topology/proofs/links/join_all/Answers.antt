use Rattle.std.proofs.Common.{arith, length, length-append, refl, ap, ◌∙◌}
use Rattle.std.proofs.lemmas.List.{get_or_default}
use Rattle.topology.specs.Rules.{joined}
use Rattle.topology.specs.Views.{raw_ends, texts}
use Rattle.list_law.proofs.Exits.{passed_on}
use Rattle.json_values.proofs.ItemsRead.{each_from-start, each_from-next, each_from-stop, each_from-end}
use Rattle.topology.proofs.links.join_all.Goals as goal

pub loop-entry-init : goal.loop-entry-init
loop-entry-init c = (
  omega arith,
  ap length c.new-all.ensures.items,
  each_from-start raw_ends (joined (texts c.args.names.now.keys)) c.args.raw.now _ c.new-all.ensures.items,
)

pub loop-entry-preserved : goal.loop-entry-preserved
loop-entry-preserved c = (
  omega (arith, c.loop-entry.invariant.0),
  rw c.in_ok-push.ensures.items (length-append c.loop-entry.all.items _ ∙ rw c.loop-entry.invariant.1 refl),
  rw c.in_ok-push.ensures.items
      (each_from-next raw_ends (joined (texts c.args.names.now.keys)) c.args.raw.now c.loop-entry.entry-index _ c.loop-entry-test.true (get_or_default _ _ _ _ c.loop-entry-test.true) _ _ _
      (rw c.loop-entry.invariant.0 at c.in_ok-read.ensures) c.loop-entry.invariant.2),
)

pub returns-in_err-read-clause-links : goal.returns-in_err-read-clause-links
returns-in_err-read-clause-links c =
    rw (passed_on c.from_residual.result c.from_residual.ensures.1) (λ n.
    each_from-stop raw_ends (joined (texts c.args.names.now.keys)) c.args.raw.now c.loop-entry.entry-index _ c.loop-entry-test.true (get_or_default _ _ _ _ c.loop-entry-test.true) _ _ _
    ((rw c.loop-entry.invariant.0 at c.in_err-read.ensures) n) c.loop-entry.invariant.2)

pub returns-clause-links : goal.returns-clause-links
returns-clause-links c =
    each_from-end raw_ends (joined (texts c.args.names.now.keys)) c.args.raw.now c.loop-entry.all.items c.loop-entry.entry-index _ c.loop-entry-test.false c.loop-entry.invariant.2

pub returns-in_err-push-clause-links : goal.returns-in_err-push-clause-links
returns-in_err-push-clause-links c = rw (passed_on c.from_residual-in_err-push.result c.from_residual-in_err-push.ensures.1) (λ n. absurd (n refl))

pub overflow_add-place : goal.overflow_add-place
overflow_add-place c = omega (arith, c.loop-entry.invariant.0, c.loop-entry-test.true, c.requires.few)

pub returns-clause-count : goal.returns-clause-count
returns-clause-count c = omega (arith, c.loop-entry.invariant.1, c.loop-entry-test.false, c.loop-entry.auto.entry-index-end)
