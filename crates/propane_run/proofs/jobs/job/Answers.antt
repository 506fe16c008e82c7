use Rattle.std.proofs.Common.{◌≡◌, length, ap, sym, subst, ◌∙◌}
use Rattle.run_base.specs.Said.{IsGiven, said}
use Rattle.propane_run.specs.declared.command.Command.{Command}
use Rattle.propane_run.specs.Run.{Job}
use Rattle.propane_run.specs.Words.{places_of}
use Rattle.propane_run.proofs.ThreeTexts.{of_two_policies}
use Rattle.propane_run.proofs.jobs.job.Goals as goal

pub returns-in-Compare : goal.returns-in-Compare
returns-in-Compare c =
    let texts = c.args.texts.now in
    let what = said c.compare_texts.result in
    let count : length texts ≡ 3 = c.requires.count ∙ ap (λ (k : Command). length (places_of k)) c.in-Compare.is in
    subst (λ (k : Command). IsGiven (Job k texts) what) (sym c.in-Compare.is)
    (of_two_policies texts c.text-in-Compare.result.now c.text-in-Compare-2.result.now c.text-in-Compare-3.result.now what count
    c.text-in-Compare.ensures.is c.text-in-Compare-2.ensures.is c.text-in-Compare-3.ensures.is c.compare_texts.ensures)
