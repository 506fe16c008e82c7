use Rattle.std.proofs.Common.{ap, ◌∙◌}
use Rattle.std.specs.Prelude.{◌&&◌, ◌||◌, ◌==◌}
use Rattle.net_base.specs.Sets.{holds}
use Rattle.scenarios.proofs.Chosen.{told_more}
use Rattle.whatif_report.specs.Changing.{shifts_in}
use Rattle.whatif_report.proofs.shifting.Change.shifted.Goals as goal

pub loop-link-preserved : goal.loop-link-preserved
loop-link-preserved c =
    let link = c.link-item.result in
    let first = c.marked-marks.ensures in
    let second = c.marked-marks-in-loop-link in
    told_more (shifts_in c.args.self.now) c.args.links.now c.loop-link.link-index link c.loop-link-test.true c.link-item.is
    (holds c.loop-link.marks) (holds second.result) c.loop-link.invariant
    (λ r. second.ensures r ∙ ap (λ o. o || (r == link.1 && shifts_in c.args.self.now link.0 link.1)) (first r))
