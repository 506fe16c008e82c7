use Rattle.run_base.specs.Said.{said}
use Rattle.propane_run.proofs.ThreeTexts.{of_three}
use Rattle.propane_run.proofs.jobs.answer_texts.Goals as goal

pub returns : goal.returns
returns g c =
    of_three g.A.Asked.Question.line_of g.A.Asked.Question.spelled g.A.Answer.writes c.args.texts.now c.text.result.now c.text-2.result.now c.text-3.result.now
    (said c.answered_texts.result) c.requires.count c.text.ensures.is c.text-2.ensures.is c.text-3.ensures.is c.answered_texts.ensures
