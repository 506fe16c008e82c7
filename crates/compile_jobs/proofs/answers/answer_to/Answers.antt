use Rattle.std.proofs.Common.{inl, inr, refl}
use Rattle.compile_jobs.proofs.answers.answer_to.Goals as goal

pub returns : goal.returns
returns g c =
    let given = c.in_ok-answer.ensures in
    inr (inl (given.0, c.in_ok-evidence.evidence.cases, c.in_ok-answer.field-0.items, given.1, given.2, refl))
