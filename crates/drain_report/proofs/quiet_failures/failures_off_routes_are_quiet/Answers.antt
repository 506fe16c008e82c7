use Rattle.drain_report.proofs.Quiet.{free_failures_are_quiet, unused_failures_are_quiet}
use Rattle.drain_report.proofs.quiet_failures.failures_off_routes_are_quiet.Goals as goal

pub returns-clause-unused : goal.returns-clause-unused
returns-clause-unused c = unused_failures_are_quiet

pub returns-clause-free : goal.returns-clause-free
returns-clause-free c = free_failures_are_quiet
