use Rattle.std.proofs.Common.{◌++◌, ap, ◌∙◌}
use Rattle.input_output.specs.MemInputs.{told}
use Rattle.input_output.specs.MemSink.{Taking}
use Rattle.run_base.specs.Said.{text}
use Rattle.propane_library.proofs.SameInputs.{comes_before}
use Rattle.propane_library.proofs.Telling.{grown}
use Rattle.propane_library.proofs.again.run_again.Goals as goal

pub returns-in-ReadFault-clause-done : goal.returns-in-ReadFault-clause-done
returns-in-ReadFault-clause-done c = λ is.
    let untouched = (c.run.ensures.read_fault c.in-ReadFault.is).6 in
    let d = c.run-in-ReadFault.ensures.done is in
    let comes = comes_before (told c.args.inputs.now) (told c.run.new.inputs) c.run.ensures.holds _ d.0 (text d.1) d.2 in
    (d.0, d.1, comes, grown _ _ d.1 d.3.grew ∙ ap (λ (s : Taking). s.bytes ++ d.1) untouched)
