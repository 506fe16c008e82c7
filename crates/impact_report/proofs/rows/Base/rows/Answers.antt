use Rattle.std.proofs.Common.{◌+◌, List, sym, subst, take}
use Rattle.std.proofs.lemmas.List.{take_all}
use Rattle.impact_law.specs.declared.impact.Cut.{Cut}
use Rattle.impact_report.specs.Rows.{AreRows}
use Rattle.impact_report.proofs.Rowing.{rows_next}
use Rattle.impact_report.proofs.rows.Base.rows.Goals as goal

pub loop-cut-init : goal.loop-cut-init
loop-cut-init c = λ policy f p s is after ranked. c.new-rows.ensures

pub loop-cut-preserved : goal.loop-cut-preserved
loop-cut-preserved c =
    let base = c.args.self.now in
    let cuts = c.args.cuts.now in
    let i = c.loop-cut.cut-index in
    let more = rows_next base.net.now base.paths.case.now base.paths.left base.ranks cuts i c.cut-item.result c.loop-cut.rows c.in_ok-changed.changed c.loop-cut-test.true c.cut-item.is
    c.loop-cut.invariant c.in_ok-changed.ensures in
    subst (AreRows base.net.now base.paths.case.now base.paths.left base.ranks (take (i + 1) cuts)) (sym c.in_ok-push.ensures.ok) more

pub returns : goal.returns
returns c =
    let base = c.args.self.now in
    subst (λ (ks : List Cut). AreRows base.net.now base.paths.case.now base.paths.left base.ranks ks c.loop-cut.rows)
    (take_all c.loop-cut.cut-index c.args.cuts.now c.loop-cut-test.false) c.loop-cut.invariant
