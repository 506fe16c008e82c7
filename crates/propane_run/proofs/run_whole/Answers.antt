use Rattle.std.proofs.Common.{◌≡◌, Option, Some, None, map, string_bytes, refl, subst, sym, ◌∙◌}
use Rattle.run_base.specs.declared.outcome.Status.TheVariants.{Usage}
use Rattle.run_base.specs.Reading.{RoseOf}
use Rattle.run_base.specs.Said.{said}
use Rattle.run_base.proofs.Sending.{to_err}
use Rattle.propane_run.specs.declared.command.Command.{Command}
use Rattle.propane_run.specs.Run.{IsAnswerOf}
use Rattle.propane_run.specs.Words.{usage, words_are}
use Rattle.propane_run.proofs.run_whole.Goals as goal

pub returns-in-Some-clause-ran : goal.returns-in-Some-clause-ran
returns-in-Some-clause-ran g c =
    let words = map string_bytes c.args.words.now in
    let rose = RoseOf (g.I.Inputs.faults c.args.inputs.now) (g.I.Inputs.faults c.answer-came.new.inputs) in
    let some : words_are words ≡ Some c.in-Some.command = sym c.words_of.ensures.is ∙ c.in-Some.is in
    let Answer : Option Command → Type 0 = λ o. IsAnswerOf (g.I.Inputs.holds c.args.inputs.now) rose words o (said c.answer-came.result) in
    record { what = said c.answer-came.result; answer = subst Answer (sym some) c.answer-came.ensures.says; reads = c.answer-came.ensures.failed; sent = c.deliver.ensures.delivered }

pub returns-in-None-clause-ran : goal.returns-in-None-clause-ran
returns-in-None-clause-ran g c =
    let words = map string_bytes c.args.words.now in
    let rose = RoseOf (g.I.Inputs.faults c.args.inputs.now) (g.I.Inputs.faults c.args.inputs.now) in
    let none : words_are words ≡ None = sym c.words_of.ensures.is ∙ c.in-None.is in
    let Answer : Option Command → Type 0 = λ o. IsAnswerOf (g.I.Inputs.holds c.args.inputs.now) rose words o usage in
    record {
      what = usage;
      answer = subst Answer (sym none) refl;
      reads = refl;
      sent = to_err g.O.Sink.taken g.O.Sink.faults g.E.Sink.taken g.E.Sink.faults usage.to_err c.args.out.now c.args.out.now c.args.err.now _ _ Usage c.send.ensures.sent;
    }
