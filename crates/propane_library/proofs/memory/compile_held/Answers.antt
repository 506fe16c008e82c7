use Rattle.std.proofs.Common.{sym, ap, subst, ◌∙◌}
use Rattle.input_output.specs.MemInputs.{told, count}
use Rattle.input_output.specs.MemSink.{Taking}
use Rattle.run_base.specs.Reading.{RoseOf}
use Rattle.propane_run.specs.declared.command.Command.TheVariants.{Compile}
use Rattle.propane_library.specs.Texts.{IsFaultLine}
use Rattle.propane_library.proofs.Asking.{asked, fault_told}
use Rattle.propane_library.proofs.Coming.{ready_smoothly, to_say, written}
use Rattle.propane_library.proofs.Telling.{fault_of_compile, from_nothing, no_fault, no_refusal, no_text, refusal_of_compile, refusal_told, right_text, that_refusal}
use Rattle.propane_library.proofs.memory.compile_held.Goals as goal

-- ---- done

pub returns-in-Done-clause-right : goal.returns-in-Done-clause-right
returns-in-Done-clause-right c = λ topology policy t p.
    let claim = c.run.ensures.promised Compile (asked _ c.requires.words) c.in-Done.is in
    right_text _ c.requires.words (told c.args.inputs.now) _ _ t p _ _ _ claim.0 claim.1 claim.2 claim.3 claim.4 claim.5 _
    (from_nothing _ _ _ (ap (λ (s : Taking). s.bytes) c.in_ok-out.ensures) claim.0.written.grew ∙ sym c.in_ok-copy_of-in-Done.ensures)

pub returns-in-Done-clause-refused_where : goal.returns-in-Done-clause-refused_where
returns-in-Done-clause-refused_where c = λ topology policy t p net asked e spell applies.
    no_text _ _ net asked spell e applies _ (returns-in-Done-clause-right c topology policy t p)

-- ---- refused

pub returns-in-Refused-clause-right : goal.returns-in-Refused-clause-right
returns-in-Refused-clause-right c = λ topology policy t p.
    let refused = c.run.ensures.refused c.in-Refused.is in
    let claim = refusal_of_compile (told c.args.inputs.now) _ c.requires.words _ _ _ refused.0 refused.1 refused.2 in
    refusal_told _ c.requires.words (told c.args.inputs.now) _ _ t p _ _ _ claim _
    (from_nothing _ _ _ (ap (λ (s : Taking). s.bytes) c.in_ok-err.ensures) claim.written.grew ∙ sym c.in_ok-copy_of-in-Refused.ensures)

pub returns-in-Refused-clause-refused_where : goal.returns-in-Refused-clause-refused_where
returns-in-Refused-clause-refused_where c = λ topology policy t p net asked e spell applies.
    that_refusal _ _ net asked spell e applies _ (returns-in-Refused-clause-right c topology policy t p)

pub returns-in-Refused-clause-compiled_where : goal.returns-in-Refused-clause-compiled_where
returns-in-Refused-clause-compiled_where c = λ topology policy t p net asked spell none.
    no_refusal _ _ net asked spell none _ (returns-in-Refused-clause-right c topology policy t p)

-- ---- a fault of a text

pub returns-in-BadInput-clause-right : goal.returns-in-BadInput-clause-right
returns-in-BadInput-clause-right c = λ topology policy t p.
    let found = c.run.ensures.bad_input c.in-BadInput.is in
    let fault = fault_of_compile (told c.args.inputs.now) _ c.requires.words found.0 found.2 found.1 found.3 in
    let line = fault_told _ c.requires.words (told c.args.inputs.now) _ _ t p found.1 fault in
    subst (IsFaultLine topology policy)
    (from_nothing _ _ _ (ap (λ (s : Taking). s.bytes) c.in_ok-err.ensures) found.4.grew ∙ sym c.in_ok-copy_of-in-BadInput.ensures) line

pub returns-in-BadInput-clause-refused_where : goal.returns-in-BadInput-clause-refused_where
returns-in-BadInput-clause-refused_where c = λ topology policy t p net asked e spell applies.
    no_fault _ _ net asked spell _ (returns-in-BadInput-clause-right c topology policy t p)

pub returns-in-BadInput-clause-compiled_where : goal.returns-in-BadInput-clause-compiled_where
returns-in-BadInput-clause-compiled_where c = λ topology policy t p net asked spell none.
    no_fault _ _ net asked spell _ (returns-in-BadInput-clause-right c topology policy t p)

-- ---- what is to be said

pub returns-in-Done-clause-said : goal.returns-in-Done-clause-said
returns-in-Done-clause-said c =
    let ended = c.in-Done.is in
    let smooth = ready_smoothly _ c.requires.words c.args.inputs.now c.run.new.inputs c.requires.ready_topology c.requires.ready_policy c.run.ensures.sure in
    let w = to_say _ c.requires.words (told c.args.inputs.now) (RoseOf (count c.args.inputs.now) (count c.run.new.inputs)) _ _ c.run.ensures.complete smooth (λ m. cc) in
    let h = written _ _ _ _ w.0 _ _ _ _ _ _ w.2 ended (λ x. cc) in
    let bytes = from_nothing _ _ _ (ap (λ (s : Taking). s.bytes) c.in_ok-out.ensures) h.1.grew in
    (w.0, w.1, (h.0, c.in_ok-copy_of-in-Done.ensures ∙ sym bytes))

pub returns-in-Refused-clause-said : goal.returns-in-Refused-clause-said
returns-in-Refused-clause-said c =
    let ended = c.in-Refused.is in
    let smooth = ready_smoothly _ c.requires.words c.args.inputs.now c.run.new.inputs c.requires.ready_topology c.requires.ready_policy c.run.ensures.sure in
    let w = to_say _ c.requires.words (told c.args.inputs.now) (RoseOf (count c.args.inputs.now) (count c.run.new.inputs)) _ _ c.run.ensures.complete smooth (λ m. cc) in
    let h = written _ _ _ _ w.0 _ _ _ _ _ _ w.2 ended (λ x. cc) in
    let bytes = from_nothing _ _ _ (ap (λ (s : Taking). s.bytes) c.in_ok-err.ensures) h.2.grew in
    (w.0, w.1, (h.0, c.in_ok-copy_of-in-Refused.ensures ∙ sym bytes))

pub returns-in-BadInput-clause-said : goal.returns-in-BadInput-clause-said
returns-in-BadInput-clause-said c =
    let ended = c.in-BadInput.is in
    let smooth = ready_smoothly _ c.requires.words c.args.inputs.now c.run.new.inputs c.requires.ready_topology c.requires.ready_policy c.run.ensures.sure in
    let w = to_say _ c.requires.words (told c.args.inputs.now) (RoseOf (count c.args.inputs.now) (count c.run.new.inputs)) _ _ c.run.ensures.complete smooth (λ m. cc) in
    let h = written _ _ _ _ w.0 _ _ _ _ _ _ w.2 ended (λ x. cc) in
    let bytes = from_nothing _ _ _ (ap (λ (s : Taking). s.bytes) c.in_ok-err.ensures) h.2.grew in
    (w.0, w.1, (h.0, c.in_ok-copy_of-in-BadInput.ensures ∙ sym bytes))

pub returns-in-WriteFault-clause-said : goal.returns-in-WriteFault-clause-said
returns-in-WriteFault-clause-said c =
    let ended = c.in-WriteFault.is in
    let smooth = ready_smoothly _ c.requires.words c.args.inputs.now c.run.new.inputs c.requires.ready_topology c.requires.ready_policy c.run.ensures.sure in
    let w = to_say _ c.requires.words (told c.args.inputs.now) (RoseOf (count c.args.inputs.now) (count c.run.new.inputs)) _ _ c.run.ensures.complete smooth (λ m. cc) in
    (w.0, w.1, tt)
