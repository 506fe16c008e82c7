use Rattle.std.proofs.Common.{sym, ◌∙◌}
use Rattle.whatif_report.proofs.Following.{marked_low}
use Rattle.whatif_report.proofs.shifting.Change.marked.Goals as goal

pub with-requires : goal.with-requires
with-requires c = marked_low c.args.self.now c.known_net.ensures c.requires c.args.next c.args.at (sym c.shifts.ensures ∙ c.if-shifts.true)
