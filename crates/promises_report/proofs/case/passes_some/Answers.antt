use Rattle.std.proofs.Common.{length, sym, ap, ◌∙◌, arith}
use Rattle.promises_report.specs.Telling.{promises_in}
use Rattle.promises_report.proofs.SomeRouter.{some_passes}
use Rattle.promises_report.proofs.case.passes_some.Goals as goal

pub returns-then-passes : goal.returns-then-passes
returns-then-passes c =
    let passes = (promises_in c.args.told.now).passes in
    sym (some_passes passes c.loop-place.place (length c.args.net.now.routers) (omega (arith, c.loop-place-test.true, ap length c.routers-place-end.ensures.routers))
    (ap passes (sym c.new.ensures) ∙ sym c.passes.ensures ∙ c.if-passes.true))
