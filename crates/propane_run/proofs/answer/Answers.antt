use Rattle.std.proofs.Common.{◌≡◌, ℕ, List, map, string_bytes, subst}
use Rattle.list_law.proofs.Exits.{passed_on}
use Rattle.run_base.specs.Reading.{AllHeld, RoseOf, names_at}
use Rattle.run_base.specs.Said.{IsGiven, said}
use Rattle.run_base.proofs.Readings.{all_read, nothing_follows}
use Rattle.propane_run.specs.Run.{Job}
use Rattle.propane_run.specs.Words.{names_read, places_of}
use Rattle.propane_run.proofs.Failing.{given_calmly}
use Rattle.propane_run.proofs.answer.Goals as goal

pub returns-in_err-texts-clause-says : goal.returns-in_err-texts-clause-says
returns-in_err-texts-clause-says g c =
    let rose = RoseOf (g.I.Inputs.faults c.args.inputs.now) (g.I.Inputs.faults c.read_all.new.inputs) in
    let names = names_read (map string_bytes c.args.words.now) c.args.command in
    let same : c.places.result.now ≡ places_of c.args.command = c.places.ensures in
    rw (passed_on c.from_residual.result c.from_residual.ensures.1)
    (nothing_follows (g.I.Inputs.holds c.args.inputs.now) rose _ names (λ bs. IsGiven (Job c.args.command bs)) (rw same at c.in_err-texts.ensures.read))

pub returns-in_err-texts-clause-failed : goal.returns-in_err-texts-clause-failed
returns-in_err-texts-clause-failed g c = rw (passed_on c.from_residual.result c.from_residual.ensures.1) c.in_err-texts.ensures.failed

pub returns-clause-failed : goal.returns-clause-failed
returns-clause-failed g c = given_calmly _ _ c.in_ok-texts.ensures.failed (said c.job.result) c.args.command c.as_slice.result.now c.job.ensures

pub returns-clause-says : goal.returns-clause-says
returns-clause-says g c =
    let words = map string_bytes c.args.words.now in
    let rose = RoseOf (g.I.Inputs.faults c.args.inputs.now) (g.I.Inputs.faults c.read_all.new.inputs) in
    let same : c.places.result.now ≡ places_of c.args.command = c.places.ensures in
    let Held : List ℕ → Type 0 = λ places. AllHeld (g.I.Inputs.holds c.args.inputs.now) (names_at words places) c.in_ok-texts.texts in
    let Says : List (List ℕ) → Type 0 = λ bs. IsGiven (Job c.args.command bs) (said c.job.result) in
    all_read (g.I.Inputs.holds c.args.inputs.now) rose (said c.job.result) (names_read words c.args.command) c.in_ok-texts.texts (λ bs. IsGiven (Job c.args.command bs))
    (subst Held same c.in_ok-texts.ensures.read) (subst Says c.as_slice.ensures c.job.ensures)
