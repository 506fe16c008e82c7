use Rattle.std.proofs.Common.{length, sym, ap₂, ◌∙◌}
use Rattle.promises_report.specs.Groups.{differ, differ_at}
use Rattle.promises_report.proofs.SomeRouter.{some_passes}
use Rattle.promises_report.proofs.group.some_differ.Goals as goal

pub returns-then-differ : goal.returns-then-differ
returns-then-differ c =
    let one = c.args.one.now in
    let other = c.args.other.now in
    sym (some_passes (differ_at one other) c.loop-place.place (length one) c.loop-place-test.true
    (ap₂ differ (sym c.entry-mine.ensures) (sym c.entry-theirs.ensures) ∙ sym c.differ.ensures ∙ c.if-differ.true))
