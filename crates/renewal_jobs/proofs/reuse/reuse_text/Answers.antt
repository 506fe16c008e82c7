use Rattle.list_law.proofs.Exits.{passed_on}
use Rattle.policy_base.specs.Policies.{policy_of}
use Rattle.renewal_jobs.proofs.Reuses.{stop_given}
use Rattle.renewal_jobs.proofs.reuse.reuse_text.Goals as goal

pub returns-in_err-reuse : goal.returns-in_err-reuse
returns-in_err-reuse c =
    rw (passed_on c.from_residual.result c.from_residual.ensures.1)
    (stop_given c.args.net.now (policy_of c.args.policy.now) c.args.old.now c.args.evidence.now.cases c.args.part c.in_err-reuse.field-0.0 c.in_err-reuse.ensures)
