use Rattle.whatif_report.specs.Changing.{AreBelow}
use Rattle.whatif_report.specs.Moves.{is_moved}
use Rattle.whatif_report.proofs.moving.moved_routers.Given as goal

abbrev pub invariant-loop-place : goal.invariant-loop-place
invariant-loop-place l = AreBelow (is_moved l.cut l.before.routes l.after.routes) l.place l.moved
