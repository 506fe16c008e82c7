use Rattle.std.proofs.Common.{sym}
use Rattle.reach_prune.specs.Numbers.{number_in}
use Rattle.list_law.proofs.Changed.{filter_map_no, filter_map_yes}
use Rattle.reach_prune.proofs.trimming.starts_kept.Goals as goal
use Rattle.reach_prune.proofs.trimming.starts_kept.Goals.{in-Some+in_ok-push, in_default}

pub loop-start-preserved : goal.loop-start-preserved
loop-start-preserved c = elim c.match-numbers-start.branch [
  | in-Some+in_ok-push w ↦
      rw (w.list-is, w.in_ok-push.ensures.ok, c.loop-start.invariant) (sym (filter_map_yes (number_in c.args.numbers.now) c.args.starts.now
      c.loop-start.start-index 0 w.in-Some.number c.loop-start-test.true w.in-Some.is))
  | in_default w ↦ rw (w.list-is, c.loop-start.invariant) (sym (filter_map_no (number_in c.args.numbers.now) c.args.starts.now c.loop-start.start-index 0 c.loop-start-test.true w.in_default.is))
]
