use Rattle.report_jobs.proofs.Nothing.{nothing_failed}
use Rattle.report_jobs.proofs.impact.nothing_fails.Goals as goal

pub returns-clause-failures : goal.returns-clause-failures
returns-clause-failures c =
    nothing_failed
    (record { prefix = c.args.prefix; dead = c.new.result; dead_links = c.new-2.result; silent = c.new-3.result }) c.new.ensures.holds c.new-2.ensures c.new-3.ensures
