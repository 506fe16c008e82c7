use Rattle.evidence_check.proofs.Limits.{past_limit}
use Rattle.evidence_check.proofs.listed.within_limits.Goals as goal

pub returns-in_ok-past_limit-in-Err-clause-past : goal.returns-in_ok-past_limit-in-Err-clause-past
returns-in_ok-past_limit-in-Err-clause-past c = λ s d is steps within.
    past_limit c.args.net.now c.args.number c.args.room s d c.in-Err.refusal c.in-Err.ensures.limits c.in_ok-past_limit-in-Err.ensures (c.in-Err.ensures.refused s d is) steps within
